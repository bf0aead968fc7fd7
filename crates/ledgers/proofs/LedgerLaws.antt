-- Laws of the ledgers of a byte.
-- Assumes nothing.
use Prim.Native.Nat.{ℕ, zero, suc, ◌+◌, ◌-◌, ◌*◌, ◌%◌, ◌^◌, ◌<◌, ◌≤◌}
use mathlib.Core.Path.{◌≡◌, refl, ap, sym, ◌∙◌}
use mathlib.Core.Bool.{false, not, cond, ◌&&◌, ◌||◌}
use mathlib.Core.Logic.{◌⊎◌, inl, inr, ⊎_elim}
use native.Mathlib.Nat.{zero-div}
use native.Mathlib.Numerals.{add-one}
use native.Mathlib.Omega.{arith}
use lib.Bits.{bit_and, bit_or}
use lib.Dec.{eqb}
use Rattle.common.specs.Bits.{bit, without_bit}
use Rattle.common.proofs.ByteLaws.{bit-beyond, with-bits, with_byte, with-or, without-and, without-bits}
use borrow.Author.Tests.{eqb-false, eqb-true}
use Rattle.std.specs.Prelude.{Some, None}
use Rattle.std.proofs.lemmas.Bool.Decides.{nat_tests}
use Rattle.common.proofs.TestLaws.{split}
use Rattle.ledgers.specs.Ledgers.{has, place_of, with, without}

-- a ledger's number is one more than its place
pub place : (l : ℕ) → (l ≡ 0 → ⊥) → l ≡ suc (l - 1)
place zero h = absurd (h refl)
place (suc l) h = omega arith

pub has-none : (d l : ℕ) → l ≡ 0 → has d l ≡ false
unfolding has
has-none d l e = ap (has d) e

pub has-beyond : (d l : ℕ) → d < 256 → 8 < l → has d l ≡ false
unfolding has
has-beyond d l hd h = ap (has d) (place l (λ e. omega arith)) ∙ bit-beyond d (l - 1) hd (omega arith)

pub has-bit : (d l : ℕ) → (l ≡ 0 → ⊥) → has d l ≡ bit d (l - 1)
unfolding has
has-bit d l h = ap (has d) (place l h)

pub with-bit : (d l : ℕ) → d < 256 → (l ≡ 0 → ⊥) → l ≤ 8 → bit_or d (1 * 2 ^ (l - 1) % 256) ≡ with d l
unfolding with
with-bit d l hd h hl = with-or d (l - 1) hd (omega arith) ∙ sym (ap (with d) (place l h))

-- which ledgers have a place, and which
pub placed : (l i : ℕ) → Some i ≡ place_of l → (l ≡ i + 1) × (i < 8)
placed l i e = (grind (arith, nat_tests), grind (arith, nat_tests))

pub unplaced : (l : ℕ) → None ≡ place_of l → (l ≡ 0) ⊎ (8 < l)
unplaced l e = split (eqb l 0) (λ t. inl (eqb-true l 0 t)) (λ t. inr (grind (arith, nat_tests, eqb-false l 0 t)))

-- a ledger with a place: its bit, and the bytes that the machine computes
module _ (d l i : ℕ) (e : Some i ≡ place_of l) where
  number : l ≡ suc i
  number = (placed l i e).0 ∙ add-one i

  pub has-at : has d l ≡ bit d i
  unfolding has
  has-at = ap (has d) number

  pub without-at : d < 256 → bit_and d (255 - 1 * 2 ^ i % 256) ≡ without d l
  unfolding without
  without-at hd = without-and d i hd (placed l i e).1 ∙ sym (ap (without d) number)

  pub with-at : d < 256 → bit_or d (1 * 2 ^ i % 256) ≡ with d l
  with-at hd =
      let at = placed l i e in
      let back : i ≡ l - 1 = omega (arith, at.0) in
      ap (λ j. bit_or d (1 * 2 ^ j % 256)) back ∙ with-bit d l hd (λ z. omega (arith, at.0, z)) (omega (arith, at.0, at.1))

-- and one without
module _ (d l : ℕ) (hd : d < 256) (e : None ≡ place_of l) where
  pub has-nowhere : has d l ≡ false
  has-nowhere = ⊎_elim (has-none d l) (has-beyond d l hd) (unplaced l e)

  pub without-nowhere : without d l ≡ d
  unfolding without without_bit
  without-nowhere =
      ⊎_elim (ap (without d))
      (λ g. ap (without d) (place l (λ e. omega arith))
      ∙ ap (λ b. cond b (d - 2 ^ (l - 1)) d) (bit-beyond d (l - 1) hd (omega arith)))
      (unplaced l e)

-- the ledgers of a byte with one ledger more, and without one
pub with-fits : (d l : ℕ) → d < 256 → l < 8 → with d (suc l) < 256
unfolding with
with-fits d l hd hl = with_byte d l hd hl

pub with-has : (d l k : ℕ) → d < 256 → l < 8 → k < 8 → has (with d (suc l)) (suc k) ≡ eqb k l || has d (suc k)
unfolding with has
with-has = with-bits

pub without-has : (d l k : ℕ) → d < 256 → l < 8 → k < 8 → has (without d (suc l)) (suc k) ≡ not (eqb k l) && has d (suc k)
unfolding without has
without-has = without-bits

-- no ledger is in an empty byte
pub has-empty : (k : ℕ) → has 0 k ≡ false
unfolding has
has-empty zero = refl
has-empty (suc k) = ap (λ q. eqb (q % 2) 1) (zero-div (2 ^ k))
