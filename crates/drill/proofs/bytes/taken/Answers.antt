-- A record's length is none of nothing.
use Rattle.std.proofs.Common.{sym, ◌∙◌, arith}
use Rattle.records.proofs.RecordLaws.{size-missing, size-positive, size-some}
use Rattle.drill.proofs.bytes.taken.Goals as goal

pub returns-in-Some-clause-within : goal.returns-in-Some-clause-within
returns-in-Some-clause-within c =
    let some = size-positive _ c.in-Some.size (sym c.total.ensures ∙ c.in-Some.is) in
    (omega (arith, c.min.ensures), omega (arith, c.min.ensures))

pub returns-in-Some-clause-whole : goal.returns-in-Some-clause-whole
returns-in-Some-clause-whole c =
    let size = size-some _ c.in-Some.size (sym c.total.ensures ∙ c.in-Some.is) in
    λ some whole. omega (arith, c.min.ensures)

pub returns-in-None-clause-whole : goal.returns-in-None-clause-whole
returns-in-None-clause-whole c =
    let none = size-missing _ (sym c.total.ensures ∙ c.in-None.is) in
    λ some whole. absurd (omega arith)
