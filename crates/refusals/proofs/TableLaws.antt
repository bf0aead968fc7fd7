-- Laws of a table of refusals: which row is given.
-- Assumes nothing.
use native.Mathlib.Nat.{not-suc-le-zero}
use native.Mathlib.Omega.{arith}
use Prim.Native.Nat.{ℕ, zero, suc, ◌<◌}
use lib.ListN.{drop, get_or, length}
use lib.Seq.{drop-cons}
use mathlib.Core.Path.{◌≡◌, refl, ap, sym, ◌∙◌}
use mathlib.Core.List.{List, [], ◌∷◌}
use mathlib.Core.Bool.{Bool, true, false, not, cond, ◌&&◌}
use lib.Dec.{eqb}
use borrow.Author.Tests.{eq-eqb}
use Rattle.common.proofs.TestLaws.{and_left, and_right, both, split}
use mathlib.Core.Logic.{◌⊎◌, inl, inr, ⊎_elim}
use Rattle.refusals.specs.Refusals.{First, Row, applies, first_given, row}

abbrev no_row : Row
no_row = row 0 false

-- the table's rows, one after the other: a row that does not apply is passed over, and one that applies is given
pub pass : (k : ℕ) (rs : List Row) → k < length rs → first_given rs ≡ first_given (drop k rs) → (get_or rs k no_row).given ≡ false
    → first_given rs ≡ first_given (drop (suc k) rs)
unfolding first_given
pass k rs h e g = e ∙ ap first_given (drop-cons rs k no_row h) ∙ ap (λ b. cond b (get_or rs k no_row).no (first_given (drop (suc k) rs))) g

pub give : (k : ℕ) (rs : List Row) → k < length rs → first_given rs ≡ first_given (drop k rs) → (get_or rs k no_row).given ≡ true
    → first_given rs ≡ (get_or rs k no_row).no
unfolding first_given
give k rs h e g = e ∙ ap first_given (drop-cons rs k no_row h) ∙ ap (λ b. cond b (get_or rs k no_row).no (first_given (drop (suc k) rs))) g

-- where no row of a table is given, none of those after the first is
pub after-first : (r : Row) (rs : List Row) → eqb r.no 0 ≡ false → first_given (r ∷ rs) ≡ 0 → first_given rs ≡ 0
unfolding first_given
after-first r rs n e =
    split r.given
    (λ t. both (ap (λ k. eqb k 0) (sym (ap (λ b. cond b r.no (first_given rs)) t) ∙ e)) n)
    (λ t. sym (ap (λ b. cond b r.no (first_given rs)) t) ∙ e)

-- every row has a number of its own, which is not 0
unfoldable pub all_numbered : List Row → Bool
all_numbered [] = true
all_numbered (r ∷ rs) = not (eqb r.no 0) && all_numbered rs

-- the answer is the number of the first row that applies, or 0 where none does
pub by_first : (rs : List Row)
    → ((k : ℕ) × First rs k × (first_given rs ≡ (get_or rs k (row 0 false)).no)) ⊎
    (((k : ℕ) → k < length rs → applies rs k ≡ false) × (first_given rs ≡ 0))
unfolding first_given
by_first [] = inr ((λ k h. absurd (not-suc-le-zero h)), refl)
by_first (r ∷ rs) =
    split r.given
    (λ t. inl (
      zero,
      record { inside = omega arith; so = t; none_before = λ j h. absurd (not-suc-le-zero h) },
      ap (λ b. cond b r.no (first_given rs)) t,
    ))
    (λ t. let on : first_given (r ∷ rs) ≡ first_given rs = ap (λ b. cond b r.no (first_given rs)) t in
    ⊎_elim
    (λ x. inl (
      suc x.0,
      record { inside = omega (arith, x.1.inside); so = x.1.so; none_before = before t x.1.none_before },
      on ∙ x.2,
    ))
    (λ x. inr (before' t x.0, on ∙ x.1))
    (by_first rs))
  where
    before : {n : ℕ} → r.given ≡ false → ((j : ℕ) → j < n → applies rs j ≡ false) → (j : ℕ) → j < suc n → applies (r ∷ rs) j ≡ false
    before t f zero h = t
    before t f (suc j) h = f j (omega arith)

    before' : r.given ≡ false → ((j : ℕ) → j < length rs → applies rs j ≡ false) → (j : ℕ) → j < length (r ∷ rs)
        → applies (r ∷ rs) j ≡ false
    before' t f zero h = t
    before' t f (suc j) h = f j (omega arith)

-- where the answer is 0, no row applies
pub none-given : (rs : List Row) → all_numbered rs ≡ true → first_given rs ≡ 0 → (k : ℕ) → k < length rs → applies rs k ≡ false
unfolding all_numbered
none-given rs n e =
    ⊎_elim
    (λ x. let no : (get_or rs x.0 no_row).no ≡ 0 = sym x.2 ∙ e in absurd (numbered rs n x.0 x.1.inside no))
    (λ x. x.0)
    (by_first rs)
  where
    numbered : (rs : List Row) → all_numbered rs ≡ true → (k : ℕ) → k < length rs → (get_or rs k no_row).no ≡ 0 → ⊥
    numbered [] n k h z = absurd (not-suc-le-zero h)
    numbered (r ∷ rs) n zero h z = both (and_left (not (eqb r.no 0)) (all_numbered rs) n) (ap not (eq-eqb _ _ z))
    numbered (r ∷ rs) n (suc k) h z = numbered rs (and_right (not (eqb r.no 0)) (all_numbered rs) n) k (omega arith) z
