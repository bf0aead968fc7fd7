-- Whether a record waits: the ways through the test are laws of the definition.
-- Assumes nothing.
use mathlib.Core.Path.{ap, sym, ◌∙◌}
use mathlib.Core.Bool.{not, ◌&&◌}
use Rattle.std.proofs.Common.{nat_lt, length, arith}
use Rattle.records.proofs.RecordLaws.{size-missing, size-some}
use Rattle.drill.proofs.StreamLaws.{waits-empty, waits-short, waits-unknown}
use Rattle.drill.proofs.bytes.waits.Goals as goal

pub returns-in_default : goal.returns-in_default
returns-in_default c = sym (waits-empty c.args.last c.args.bytes.now (omega (arith, c.in_default.len_below)))

pub returns-in_default-total : goal.returns-in_default-total
returns-in_default-total c =
    sym (waits-unknown c.args.last c.args.bytes.now (λ z. omega (arith, c.in-len1-up.len_at_least))
    (size-missing _ (sym c.total.ensures ∙ c.in_default-total.is)))

pub returns : goal.returns
returns c =
    ap (λ n. not c.args.last && nat_lt (length c.args.bytes.now) n) (sym (size-some _ c.in-Some.size (sym c.total.ensures ∙ c.in-Some.is)))
    ∙ sym (waits-short c.args.last c.args.bytes.now (λ z. omega (arith, c.in-len1-up.len_at_least)))
