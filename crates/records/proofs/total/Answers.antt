use mathlib.Core.Path.{ap, sym, ◌∙◌}
use Rattle.std.specs.Prelude.{Some}
use Rattle.records.proofs.RecordLaws.{size-none, size-of}
use Rattle.records.proofs.total.Goals as goal

pub returns-in_err-of : goal.returns-in_err-of
returns-in_err-of c = c.from_residual.ensures ∙ sym (size-none c.args.kind (sym c.of.ensures ∙ c.in_err-of.was))

pub returns : goal.returns
returns c = ap Some c.total.ensures ∙ sym (size-of c.args.kind c.in_ok-of.field-0 (sym c.of.ensures ∙ c.in_ok-of.was))
