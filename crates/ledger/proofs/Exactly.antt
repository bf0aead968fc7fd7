-- Each refusal is given exactly when its condition holds and none before it does: one law over the table.
-- Assumes nothing.
use Prim.Native.Nat.{ℕ, zero, suc, ◌+◌, ◌<◌, ◌≤◌}
use mathlib.Core.Path.{◌≡◌, refl, ap, ◌∙◌, subst}
use mathlib.Core.List.{List, [], ◌∷◌}
use mathlib.Core.Bool.{Bool, true, false, ◌&&◌}
use lib.Dec.{eqb, ltb}
use borrow.Author.Tests.{eqb-true, ltb-false, ltb-true}
use mathlib.Core.Logic.{⊎_elim}
use native.Mathlib.Nat.{not-suc-le-zero}
use native.Mathlib.Omega.{arith}
use lib.ListN.{get_or, length}
use Rattle.common.proofs.TestLaws.{and_left, and_right, both, split}
use Rattle.refusals.specs.Refusals.{First, Row, applies, row}
use Rattle.refusals.proofs.TableLaws.{by_first}
use Rattle.ledger.specs.Table.{answer_to, refusals}
use Rattle.ledger.specs.declared.Ledger.{Ledger}

-- the table's rows are numbered from 1 in their order
in_order : ℕ → List Row → Bool
in_order n [] = true
in_order n (r ∷ rs) = eqb r.no (suc n) && in_order (suc n) rs

number_at : (rs : List Row) (n k : ℕ) → in_order n rs ≡ true → k < length rs → (get_or rs k (row 0 false)).no ≡ suc (n + k)
unfolding in_order
number_at [] n k e h = absurd (not-suc-le-zero h)
number_at (r ∷ rs) n zero e h = let q : r.no ≡ suc n = eqb-true _ _ (and_left (eqb r.no (suc n)) _ e) in omega (arith, q)
number_at (r ∷ rs) n (suc k) e h =
    let q = number_at rs (suc n) k (and_right (eqb r.no (suc n)) _ e) (omega arith) in omega (arith, q)

module _ (l : Ledger) (frame outgoing list : List ℕ) where
  rows-in-order : in_order 0 (refusals l frame outgoing list) ≡ true
  unfolding in_order
  rows-in-order = refl

  row_number : (k : ℕ) → k < 11 → (get_or (refusals l frame outgoing list) k (row 0 false)).no ≡ suc k
  row_number k h = let q = number_at (refusals l frame outgoing list) 0 k rows-in-order h in omega (arith, q)

  -- refusal k + 1 is answered exactly when its condition holds first
  pub refusal-exactly : (k : ℕ) → k < 11
      → (answer_to l frame outgoing list ≡ suc k → First (refusals l frame outgoing list) k)
      × (First (refusals l frame outgoing list) k → answer_to l frame outgoing list ≡ suc k)
  refusal-exactly k h = (
    λ e. ⊎_elim
        (λ x. let same : x.0 ≡ k = omega (arith, row_number x.0 x.1.inside, x.2, e) in
        subst (First (refusals l frame outgoing list)) same x.1)
        (λ x. let z = x.1 in absurd (omega (arith, z, e)))
        (by_first (refusals l frame outgoing list)),
    λ w. ⊎_elim
        (λ x. let same : x.0 ≡ k = only w x.1 in
        x.2 ∙ row_number x.0 x.1.inside ∙ ap suc same)
        (λ x. both w.so (x.0 k w.inside))
        (by_first (refusals l frame outgoing list)),
  )
    where
      only : {i j : ℕ} → First (refusals l frame outgoing list) i → First (refusals l frame outgoing list) j → j ≡ i
      only {i} {j} v w =
          split (ltb i j)
          (λ t. both v.so (w.none_before i (ltb-true _ _ t)))
          (λ t. split (ltb j i)
          (λ u. both w.so (v.none_before j (ltb-true _ _ u)))
          (λ u. let a = ltb-false i j t in let b = ltb-false j i u in omega (arith, a, b)))

  -- a frame is taken exactly when no row of the table applies
  pub taken-exactly : (answer_to l frame outgoing list ≡ 0 → (k : ℕ) → k < 11 → applies (refusals l frame outgoing list) k ≡ false)
      × (((k : ℕ) → k < 11 → applies (refusals l frame outgoing list) k ≡ false) → answer_to l frame outgoing list ≡ 0)
  taken-exactly = (
    λ e. ⊎_elim
        (λ x. let q = row_number x.0 x.1.inside in absurd (omega (arith, q, x.2, e)))
        (λ x. x.0)
        (by_first (refusals l frame outgoing list)),
    λ f. ⊎_elim
        (λ x. both x.1.so (f x.0 x.1.inside))
        (λ x. x.1)
        (by_first (refusals l frame outgoing list)),
  )

  -- the answer is one of the table's numbers, or 0
  pub answer-listed : answer_to l frame outgoing list ≤ 11
  answer-listed =
      ⊎_elim
      (λ x. let q = row_number x.0 x.1.inside in let h = x.1.inside in let e = x.2 in omega (arith, q, e, h))
      (λ x. let z = x.1 in omega (arith, z))
      (by_first (refusals l frame outgoing list))
