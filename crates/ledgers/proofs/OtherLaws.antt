-- The other ledgers of a byte, and that a byte is known by its ledgers.
-- Assumes nothing.
use Prim.Native.Nat.{ℕ, zero, suc, ◌-◌, ◌^◌, ◌<◌, ◌≤◌}
use mathlib.Core.Path.{◌≡◌, refl, ap, sym, ◌∙◌, subst}
use mathlib.Core.Bool.{true, not, cond}
use native.Mathlib.Omega.{arith}
use lib.Dec.{eqb}
use borrow.Author.Tests.{eq-eqb, ne_eqb}
use Rattle.common.specs.Bits.{bit, without_bit}
use Rattle.common.proofs.TestLaws.{and_both, and_left, and_right, both, split}
use Rattle.ledgers.specs.Ledgers.{has, without}
use Rattle.ledgers.proofs.LedgerLaws.{has-none, without-has}

pub without-byte : (d q : ℕ) → d < 256 → without d q < 256
unfolding without without_bit
without-byte d zero h = h
without-byte d (suc l) h = split (bit d l) (λ t. subst (λ b. cond b (d - 2 ^ l) d < 256) (sym t) (omega arith))
    (λ t. subst (λ b. cond b (d - 2 ^ l) d < 256) (sym t) h)

-- one of the others is a destination, and another one
pub other-destination : (d q k : ℕ) → d < 2 ^ 8 → 1 ≤ q → q ≤ 8 → k ≤ 8 → has (without d q) k ≡ true → (k ≡ q → ⊥) × (has d k ≡ true)
other-destination d zero k hd h₁ h₈ hk e = absurd (omega arith)
other-destination d (suc q) zero hd h₁ h₈ hk e = both e (has-none (without d (suc q)) zero refl)
other-destination d (suc q) (suc k) hd h₁ h₈ hk e =
    let t = sym (without-has d q k hd (omega arith) (omega arith)) ∙ e in
    (λ z. both (and_left (not (eqb k q)) _ t) (ap not (eq-eqb k q (omega (arith, z)))), and_right (not (eqb k q)) _ t)

-- and any other destination is one of the others
pub among-others : (d q k : ℕ) → d < 2 ^ 8 → 1 ≤ q → q ≤ 8 → k ≤ 8 → (k ≡ q → ⊥) → has d k ≡ true → has (without d q) k ≡ true
among-others d zero k hd h₁ h₈ hk n e = absurd (omega arith)
among-others d (suc q) zero hd h₁ h₈ hk n e = both e (has-none d zero refl)
among-others d (suc q) (suc k) hd h₁ h₈ hk n e =
    without-has d q k hd (omega arith) (omega arith) ∙ and_both (ap not (ne_eqb k q (λ z. n (ap suc z)))) e
