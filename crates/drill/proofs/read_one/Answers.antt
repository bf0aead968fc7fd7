-- What the record leaves is what the definition says of it, and its line fits the buffer.
-- Assumes nothing.
use Rattle.std.proofs.Common.{sym, ◌∙◌, arith}
use Rattle.day.proofs.DayLaws.{done-short}
use Rattle.drill.proofs.StreamLaws.{one-read}
use Rattle.drill.proofs.read_one.Goals as goal

pub returns-clause-within : goal.returns-clause-within
returns-clause-within c =
    let short = done-short _ _ _ _ _ c.read-done.ensures in
    (c.taken.ensures.within.0, c.taken.ensures.within.1, omega arith)

pub returns-clause-prints : goal.returns-clause-prints
returns-clause-prints c =
    let a = c.args in
    one-read a.day a.input.now a.last a.out.now _ c.taken.result c.read-done.result
    c.read-done.ensures (omega arith) (omega arith) (sym c.waits.ensures ∙ c.if-waits.false) c.taken.ensures.whole
