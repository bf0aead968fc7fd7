use mathlib.Core.Path.{ap, sym}
use Rattle.frame.specs.Digits.{sum}
use Rattle.records.specs.Records.{row_of, row_total}
use Rattle.records.proofs.Kind.total.Goals as goal

pub returns-in-SetUp : goal.returns-in-SetUp
unfolding sum
returns-in-SetUp c = sym (ap (λ k. row_total (row_of k)) c.in-SetUp.is)

pub returns-in-Multicast : goal.returns-in-Multicast
unfolding sum
returns-in-Multicast c = sym (ap (λ k. row_total (row_of k)) c.in-Multicast.is)

pub returns-in-Propose : goal.returns-in-Propose
unfolding sum
returns-in-Propose c = sym (ap (λ k. row_total (row_of k)) c.in-Propose.is)
