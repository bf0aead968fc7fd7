-- Laws of moving bytes to the front, one after the other.
-- Assumes nothing.
use Prim.Native.Nat.{ℕ, ◌+◌, ◌<◌, ◌≤◌}
use mathlib.Core.Path.{◌≡◌, ap, ap₂, sym, ◌∙◌}
use mathlib.Core.List.{List, [], ◌∷◌, ◌++◌}
use native.Mathlib.Nat.{add-zero}
use native.Mathlib.Numerals.{add-one}
use native.Mathlib.Omega.{arith}
use borrow.Rule.Slice.PartMut.{put_mid, take_put}
use lib.ListN.{drop, get_or, length, length-drop, set, take}
use lib.Seq.{drop-drop, drop-set-lt, get_or-drop, take-suc, take-suc-set}

-- i bytes from a place on were moved, and those behind them are as they were
module _
    (old new : List ℕ)
    (at i : ℕ)
    (within : at + i < length new)
    (size : length new ≡ length old)
    (front : take i new ≡ take i (drop at old))
    (back : drop (at + i) new ≡ drop (at + i) old) where
  first_of : (l : List ℕ) → get_or l (at + i) 0 ≡ get_or (drop (at + i) l) 0 0
  first_of l = sym (get_or-drop (at + i) l 0 0 ∙ ap (λ (n : ℕ). get_or l n 0) (add-zero (at + i)))

  moved : get_or new (at + i) 0 ≡ get_or (drop at old) i 0
  moved = first_of new ∙ ap (λ (l : List ℕ). get_or l 0 0) back ∙ sym (first_of old) ∙ sym (get_or-drop at old i 0)

  pub front-more : take (i + 1) (set new i (get_or new (at + i) 0)) ≡ take (i + 1) (drop at old)
  front-more =
      ap (λ (n : ℕ). take n (set new i (get_or new (at + i) 0))) (add-one i)
      ∙ take-suc-set new i (get_or new (at + i) 0) (omega arith)
      ∙ ap₂ (λ (l : List ℕ) (x : ℕ). l ++ (x ∷ [])) front moved
      ∙ sym (ap (λ (n : ℕ). take n (drop at old)) (add-one i) ∙ take-suc (drop at old) i 0 (omega (arith, length-drop at old)))

  pub back_more : drop (at + (i + 1)) (set new i (get_or new (at + i) 0)) ≡ drop (at + (i + 1)) old
  back_more =
      let e : at + i + 1 ≡ at + (i + 1) = omega arith in
      drop-set-lt (at + (i + 1)) new i (get_or new (at + i) 0) (omega arith)
      ∙ sym (ap (λ (n : ℕ). drop n new) e)
      ∙ sym (drop-drop 1 (at + i) new)
      ∙ ap (drop 1) back
      ∙ drop-drop 1 (at + i) old
      ∙ ap (λ (n : ℕ). drop n old) e

-- what is read behind the front leaves it as it was
pub front-stays : (xs ys front : List ℕ) (r m k : ℕ) → r ≡ m → r ≤ length xs → take r xs ≡ take r front
    → take m (put_mid r k xs ys) ≡ take m front
front-stays xs ys front r m k e h same =
    ap (λ (n : ℕ). take n (put_mid r k xs ys)) (sym e) ∙ take_put r k xs ys h ∙ same ∙ ap (λ (n : ℕ). take n front) e
