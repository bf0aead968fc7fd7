use Rattle.std.proofs.Common.{sym, ap, arith, ◌∙◌}
use Rattle.std.specs.Option.{unwrap_or}
use lib.ListN.{get_or-eq_default}
use Rattle.frame.specs.Frames.{known}
use Rattle.records.specs.Records.{record_total}
use Rattle.records.proofs.RecordLaws.{size-or-zero}
use Rattle.day.proofs.size.Goals as goal

pub returns-in-empty : goal.returns-in-empty
unfolding record_total known
returns-in-empty c = sym (ap record_total (get_or-eq_default c.args.bytes.now 0 (omega arith)))

pub returns-in-len1-up : goal.returns-in-len1-up
returns-in-len1-up c = c.unwrap_or.ensures ∙ ap (λ o. unwrap_or o 0) c.total.ensures ∙ size-or-zero _
