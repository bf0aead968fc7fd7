-- Which payments come after a posted stamp, by their phase.
-- Assumes nothing.
use Prim.Native.Nat.{ℕ}
use mathlib.Core.Path.{◌≡◌}
use mathlib.Core.Bool.{true, not, ◌||◌}
use native.Mathlib.Omega.{arith}
use borrow.Author.Tests.{eq-eqb, ne_eqb}
use Rattle.common.proofs.TestLaws.{and-true}
use Rattle.payment.specs.Payments.{is_proposed, proposal, stamp_of}
use Rattle.payment.specs.Stamps.{below}
use Rattle.payment.specs.declared.Payment.{Payment}
use Rattle.payment.specs.declared.Stamp.{Stamp}
use Rattle.checked.specs.Checked.{comes_after}

module _ (own : ℕ) (stamp : Stamp) (p : Payment) where
  pub after-stamped : p.phase ≡ 2 → comes_after own stamp p ≡ below stamp (stamp_of p)
  unfolding comes_after
  after-stamped e = simp (eq-eqb _ _ e, ne_eqb p.phase 1 (λ z. omega arith)) (and-true (below stamp (stamp_of p)))

  pub after-proposed : p.phase ≡ 1 → comes_after own stamp p ≡ below stamp (proposal p.times own)
  unfolding comes_after
  after-proposed e = simp (eq-eqb _ _ e, ne_eqb p.phase 2 (λ z. omega arith))

  pub after-other : (p.phase ≡ 2 → ⊥) → (p.phase ≡ 1 → ⊥) → comes_after own stamp p ≡ true
  unfolding comes_after
  after-other n m = simp (ne_eqb _ _ n, ne_eqb _ _ m)

  -- of any payment that is not stamped
  pub after-unstamped : (p.phase ≡ 2 → ⊥) → comes_after own stamp p ≡ not (is_proposed p) || below stamp (proposal p.times own)
  unfolding comes_after
  after-unstamped n = simp (ne_eqb _ _ n)
