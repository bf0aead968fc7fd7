-- The payments of the table: each is known by its number, and its destinations are of the group.
-- Assumes nothing.
use Prim.Native.Nat.{ℕ, zero, suc, ◌%◌, ◌^◌, ◌<◌, ◌≤◌}
use mathlib.Core.Path.{◌≡◌, refl, ap, sym, ◌∙◌}
use mathlib.Core.List.{List, [], ◌∷◌}
use mathlib.Core.Bool.{true}
use mathlib.Core.Logic.{inl, inr, ⊎_elim}
use native.Mathlib.Nat.{div-eq_of_lt, not-suc-le-zero}
use native.Mathlib.Omega.{arith}
use lib.Dec.{eqb, ltb}
use lib.ListN.{get_or, length}
use lib.Pow.{pow_mono}
use borrow.Author.Tests.{ltb-false, ltb-true}
use Rattle.common.proofs.TestLaws.{both, split}
use Rattle.ledgers.specs.Ledgers.{has}
use Rattle.ledgers.proofs.LedgerLaws.{has-none}
use Rattle.common.specs.Places.{In}
use Rattle.agreement.specs.Run.{Entry, Lawful, no_entry}
use Rattle.agreement.specs.Claims.{OfGroup}

-- a member of a table stands at one of its places
pub entry_place : (table : List Entry) (e : Entry) → In e table → (i : ℕ) × (i < length table) × (get_or table i no_entry ≡ e)
entry_place [] e h = absurd h
entry_place (x ∷ xs) e h =
    ⊎_elim
    (λ q. (zero, omega arith, sym q))
    (λ t. let r = entry_place xs e t in (suc r.0, omega (arith, r.1), r.2))
    h

pub entry_in : (table : List Entry) (i : ℕ) → i < length table → In (get_or table i no_entry) table
entry_in [] i h = absurd (not-suc-le-zero h)
entry_in (x ∷ xs) zero h = inl refl
entry_in (x ∷ xs) (suc i) h = inr (entry_in xs i (omega arith))

-- a ledger among the ledgers of a byte below 2^N is one of 1 to N
pub in_group : (n d q : ℕ) → d < 2 ^ n → has d q ≡ true → OfGroup n q
unfolding has
in_group n d zero h e = both e (has-none d zero refl)
in_group n d (suc k) h e =
    split (ltb k n)
    (λ t. let l = ltb-true k n t in (omega arith, omega arith))
    (λ t. let big : 2 ^ n ≤ 2 ^ k = pow_mono {i = n} {j = k} (ltb-false k n t) in
    both e (ap (λ (x : ℕ). eqb (x % 2) 1) (div-eq_of_lt {n = d} {m = 2 ^ k} (omega arith))))

module _ (n : ℕ) (table : List Entry) (law : Lawful n table) where
  -- a payment is known by its number
  pub one_entry : (e g : Entry) → In e table → In g table → e.number ≡ g.number → e ≡ g
  one_entry e g he hg q =
      let x = entry_place table e he in
      let y = entry_place table g hg in
      let same : (get_or table x.0 no_entry).number ≡ (get_or table y.0 no_entry).number = ap (λ z. z.number) x.2 ∙ q
      ∙ sym (ap (λ z. z.number) y.2) in
      split (ltb x.0 y.0)
      (λ t. absurd (law.differ x.0 y.0 (ltb-true _ _ t) y.1 same))
      (λ t. split (ltb y.0 x.0)
      (λ u. absurd (law.differ y.0 x.0 (ltb-true _ _ u) x.1 (sym same)))
      (λ u. let a = ltb-false x.0 y.0 t in let b = ltb-false y.0 x.0 u in
      let at : x.0 ≡ y.0 = omega arith in
      sym x.2 ∙ ap (λ i. get_or table i no_entry) at ∙ y.2))
