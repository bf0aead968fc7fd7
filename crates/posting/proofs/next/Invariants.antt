use mathlib.Core.Path.{◌≡◌}
use mathlib.Core.Bool.{false}
use Rattle.common.specs.Places.{any}
use Rattle.held.specs.Held.{at}
use Rattle.posting.specs.Posting.{holds_back}
use Rattle.posting.proofs.FreeLaws.{best_of}
use Rattle.posting.proofs.next.Given as goal

abbrev pub invariant-loop-q : goal.invariant-loop-q
invariant-loop-q l = any l.q-index (λ k. holds_back l.own.0 l.stamp (at l.fn.payments k)) ≡ false

abbrev pub invariant-candidates : goal.invariant-candidates
invariant-candidates l = l.best ≡ best_of l.fn.payments l.own.0 l.i
