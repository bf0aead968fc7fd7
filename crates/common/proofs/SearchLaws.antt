-- What an iterator's `any`, `all`, `position` and `fold` find in a list, or among the numbers `a..=b`.
-- Assumes nothing.
use Rattle.std.specs.Prelude.{ℕ, zero, suc, false, ◌+◌, ◌-◌, ◌<◌, ◌≤◌, ◌≡◌, Bool, cond, ◌&&◌, ◌||◌, leb, ltb}
use Rattle.std.specs.Prelude.{Option, Some, None, List, [], ◌∷◌, filter, length, map, take, drop, get_or, position}
use Rattle.std.specs.Fn.{Called}
use Rattle.std.specs.Iterator.{AlwaysYields, Drains}
use Rattle.std.specs.List.{FoldsTo, enumerate_from, fold, list_all, list_any, position_or_len, range_with_len}
use Rattle.std.specs.declared.ops.RangeInclusive.{RangeInclusive}
use Rattle.std.specs.Range.{range_inclusive_end, range_inclusive_exhausted, range_inclusive_len, range_inclusive_start}
use Rattle.std.proofs.lemmas.List.{get_or-drop, get_or-take, length-drop, length-take, take_all}
use Rattle.std.proofs.lemmas.List.Folds.{list_all_more, list_any_more}
use Rattle.std.proofs.lemmas.List.FromFn.{get_or-enumerate_from}
use Rattle.std.proofs.lemmas.List.Sums.{fold_push, position_or_len_is}
use Rattle.std.proofs.lemmas.Fn.{fold_over}
use Rattle.std.proofs.lemmas.List.FromFn.{get_or-map-range_with_len, length-map-range_with_len}
use Rattle.std.proofs.lemmas.Iterator.{YieldsList}
use Rattle.std.proofs.iter.runs.Sources.{nat_range_inclusive_steps}
use Rattle.std.proofs.Math.Bool.{and_comm, or_comm}
use denote.Param.Members.{Mut}
use mathlib.Core.Path.{refl, ap, ap₂, sym, ◌∙◌}
use native.Mathlib.Nat.{zero-add}
use native.Mathlib.Numerals.{add-one}
use native.Mathlib.Omega.{arith}
use borrow.Author.Tests.{leb-false, leb-true, ltb-false, ltb-true}
use Rattle.common.specs.Places.{any, every, first}
use Rattle.common.proofs.PlaceLaws.{first-before, first_holds, first-most}
use Rattle.common.proofs.TestLaws.{and-go, or-go, or-stop, split}

-- f is the test of the element at each place
module _ {A : Type 0} (f : ℕ → Bool) (test : A → Bool) (xs : List A) (none : A) where
  pub any-taken : (n : ℕ) → n ≤ length xs → ((i : ℕ) → i < n → f i ≡ test (get_or xs i none)) → any n f ≡ list_any test (take n xs)
  unfolding any
  any-taken zero h same = refl
  any-taken (suc n) h same =
      ap₂ ◌||◌ (same n (omega arith)) (any-taken n (omega arith) (λ i j. same i (omega arith)))
      ∙ or_comm (test (get_or xs n none)) (list_any test (take n xs))
      ∙ sym (list_any_more test xs n none (omega arith))
      ∙ ap (λ k. list_any test (take k xs)) (add-one n)

  pub all-taken : (n : ℕ) → n ≤ length xs → ((i : ℕ) → i < n → f i ≡ test (get_or xs i none)) → every n f ≡ list_all test (take n xs)
  unfolding every
  all-taken zero h same = refl
  all-taken (suc n) h same =
      ap₂ ◌&&◌ (same n (omega arith)) (all-taken n (omega arith) (λ i j. same i (omega arith)))
      ∙ and_comm (test (get_or xs n none)) (list_all test (take n xs))
      ∙ sym (list_all_more test xs n none (omega arith))
      ∙ ap (λ k. list_all test (take k xs)) (add-one n)

  pub any-listed : (n : ℕ) → length xs ≡ n → ((i : ℕ) → i < n → f i ≡ test (get_or xs i none)) → any n f ≡ list_any test xs
  any-listed n e same = any-taken n (omega arith) same ∙ ap (list_any test) (take_all n xs (omega arith))

  pub all-listed : (n : ℕ) → length xs ≡ n → ((i : ℕ) → i < n → f i ≡ test (get_or xs i none)) → every n f ≡ list_all test xs
  all-listed n e same = all-taken n (omega arith) same ∙ ap (list_all test) (take_all n xs (omega arith))

  pub first-listed : (n : ℕ) → length xs ≡ n → ((i : ℕ) → i < n → f i ≡ test (get_or xs i none)) → first n f ≡ position_or_len test xs
  first-listed n e same =
      sym
      (position_or_len_is test xs (first n f) none
      (let h = first-most n f in omega arith)
      (λ k h. let l = first-most n f in sym (same k (omega arith)) ∙ first-before n f k h)
      (λ h. sym (same (first n f) (omega arith)) ∙ first_holds n f (omega arith)))

  pub position-listed : (n : ℕ) → length xs ≡ n → ((i : ℕ) → i < n → f i ≡ test (get_or xs i none))
      → cond (ltb (first n f) n) (Some (first n f)) None ≡ position test xs
  position-listed n e same =
      ap₂ (λ i m. cond (ltb i m) (Some i) None) (first-listed n e same) (sym e)

-- the same of the first c elements, and of those from place c on; c may be more than there are
module _ {A : Type 0} (f : ℕ → Bool) (test : A → Bool) (xs : List A) (none : A) where
  before-one : (c m : ℕ) → m < length xs → f m ≡ leb c m || test (get_or xs m none)
      → list_all test (take (m + 1) (take c xs)) ≡ f m && list_all test (take m (take c xs))
  before-one c m h same =
      split (leb c m)
      (λ t. let few : length (take c xs) ≤ m = simp length-take (let l = leb-true c m t in omega arith) in
      ap (list_all test) (take_all (m + 1) (take c xs) (omega arith) ∙ sym (take_all m (take c xs) few))
      ∙ sym (and-go _ (same ∙ or-stop _ t)))
      (λ t. let l = leb-false c m t in
      let more : m < length (take c xs) = simp length-take (omega arith) in
      list_all_more test (take c xs) m none more
      ∙ and_comm _ (test (get_or (take c xs) m none))
      ∙ ap (λ b. b && list_all test (take m (take c xs))) (ap test (get_or-take c xs m none (omega arith)) ∙ sym (same ∙ or-go _ t)))

  before-some : (c m : ℕ) → m ≤ length xs → ((i : ℕ) → i < m → f i ≡ leb c i || test (get_or xs i none))
      → every m f ≡ list_all test (take m (take c xs))
  unfolding every
  before-some c zero h same = refl
  before-some c (suc m) h same =
      ap (λ b. f m && b) (before-some c m (omega arith) (λ i j. same i (omega arith)))
      ∙ sym (before-one c m (omega arith) (same m (omega arith)))
      ∙ ap (λ k. list_all test (take k (take c xs))) (add-one m)

  pub all-before : (n c : ℕ) → length xs ≡ n → ((i : ℕ) → i < n → f i ≡ leb c i || test (get_or xs i none))
      → every n f ≡ list_all test (take c xs)
  all-before n c e same =
      before-some c n (omega arith) same ∙ ap (list_all test) (take_all n (take c xs) (simp length-take (omega arith)))

  from-one : (c m : ℕ) → m < length xs → f m ≡ ltb m c || test (get_or xs m none)
      → list_all test (take (m + 1 - c) (drop c xs)) ≡ f m && list_all test (take (m - c) (drop c xs))
  from-one c m h same =
      split (ltb m c)
      (λ t. let l = ltb-true m c t in
      let a : m + 1 - c ≡ 0 = omega arith in
      let b : m - c ≡ 0 = omega arith in
      ap (λ k. list_all test (take k (drop c xs))) (a ∙ sym b) ∙ sym (and-go _ (same ∙ or-stop _ t)))
      (λ t. let l = ltb-false m c t in
      let a : m + 1 - c ≡ m - c + 1 = omega arith in
      let b : c + (m - c) ≡ m = omega arith in
      ap (λ k. list_all test (take k (drop c xs))) a
      ∙ list_all_more test (drop c xs) (m - c) none (simp length-drop (omega arith))
      ∙ and_comm _ (test (get_or (drop c xs) (m - c) none))
      ∙ ap (λ b. b && list_all test (take (m - c) (drop c xs)))
      (ap test (get_or-drop c xs (m - c) none ∙ ap (λ k. get_or xs k none) b) ∙ sym (same ∙ or-go _ t)))

  from-some : (c m : ℕ) → m ≤ length xs → ((i : ℕ) → i < m → f i ≡ ltb i c || test (get_or xs i none))
      → every m f ≡ list_all test (take (m - c) (drop c xs))
  unfolding every
  from-some c zero h same = ap (λ k. list_all test (take k (drop c xs))) (let z : 0 ≡ 0 - c = omega arith in z)
  from-some c (suc m) h same =
      ap (λ b. f m && b) (from-some c m (omega arith) (λ i j. same i (omega arith)))
      ∙ sym (from-one c m (omega arith) (same m (omega arith)))
      ∙ ap (λ k. list_all test (take (k - c) (drop c xs))) (add-one m)

  pub all-from : (n c : ℕ) → length xs ≡ n → ((i : ℕ) → i < n → f i ≡ ltb i c || test (get_or xs i none))
      → every n f ≡ list_all test (drop c xs)
  all-from n c e same =
      from-some c n (omega arith) same ∙ ap (list_all test) (take_all (n - c) (drop c xs) (simp length-drop (omega arith)))

-- an element with its place
pub get_or-numbered : {A : Type 0} (xs : List A) (i : ℕ) (none : A) → i < length xs
    → get_or (enumerate_from 0 xs) i (0, none) ≡ (i, get_or xs i none)
get_or-numbered xs i none h =
    get_or-enumerate_from 0 xs i (0, none) h ∙ ap (λ k. (k, get_or xs i none)) (zero-add i)

-- the numbers that `a..=b` gives: n of them, from a on
pub yields-numbers : {s : RangeInclusive ℕ} (a n : ℕ) → range_inclusive_start s ≡ a → range_inclusive_end s + 1 ≡ a + n
    → range_inclusive_exhausted s ≡ false → YieldsList nat_range_inclusive_steps (λ x. x) s (range_with_len a n)
yields-numbers {s} a n start end new = record { runs = gives n a s (omega (arith, unspent s new)) (λ _. start) }
  where
    left : RangeInclusive ℕ → ℕ
    left s = range_inclusive_len (λ x y. y - x) (range_inclusive_start s) (range_inclusive_end s) (range_inclusive_exhausted s)

    unspent : (s : RangeInclusive ℕ) → range_inclusive_exhausted s ≡ false → left s ≡ range_inclusive_end s + 1 - range_inclusive_start s
    unspent s e = omega (arith, ap (range_inclusive_len (λ x y. y - x) (range_inclusive_start s) (range_inclusive_end s)) e)

    gives : (n a : ℕ) (s : RangeInclusive ℕ) → left s ≡ n → (range_inclusive_exhausted s ≡ false → range_inclusive_start s ≡ a)
        → AlwaysYields nat_range_inclusive_steps (λ x. x) s (range_with_len a n)
    gives zero a s e f = λ x t p. absurd (omega (arith, p.1.1))
    gives (suc n) a s e f =
        let new : range_inclusive_exhausted s ≡ false = split (range_inclusive_exhausted s)
        (λ t. absurd (omega (arith, ap (range_inclusive_len (λ x y. y - x) (range_inclusive_start s) (range_inclusive_end s)) t)))
        (λ t. t) in (
          (λ t p. absurd (omega (arith, p.1.0))),
          λ x t p. (p.1.0 ∙ f new, gives n (a + 1) t (omega (arith, p.1.1)) (λ u. p.1.2 u ∙ ap (λ k. k + 1) (f new))),
        )

-- every number from 1 to n passes, each made what g makes of it, where f is the test of the one at each place
pub every-number : {A : Type 0} (g : ℕ → A) (f : ℕ → Bool) (test : A → Bool) (n : ℕ) → ((i : ℕ) → i < n → f i ≡ test (g (suc i)))
    → every n f ≡ list_all test (map g (range_with_len 1 n))
every-number g f test n same =
    all-listed f test (map g (range_with_len 1 n)) (g 0) n (length-map-range_with_len g 1 n)
    (λ i h. let next : 1 + i ≡ suc i = omega arith in
    same i h ∙ ap test (sym (get_or-map-range_with_len g 1 n i (suc i) (g 0) h next)))

-- a `fold` whose closure computes h
pub folded : {S A B C F : Type 0} {steps : S → Option A → S → Type 0} {v : A → B} {g : Mut F (C × (A × Unit {0})) C} {s : S} {all : List B}
    (h : C → B → C) (f : F) (c r : C)
    → (xs : List A) × (j : F) × Drains steps s xs × FoldsTo {P = F × C} (λ p x q. Called g p.0 (p.1, (x, tt)) q.1 q.0) (f, c) xs (j, r)
    → YieldsList steps v s all
    → ((a : C) (x : A) (b : C) (q : F) → Called g f (a, (x, tt)) b q → (q ≡ f) × (b ≡ h a (v x)))
    → r ≡ fold h c all
folded {steps} {v} {g} {s} {all} h f c r ran list computes =
    fold_over steps v g (λ ys a. a ≡ fold h c ys) f
    (λ ys a x b q e k. let call = computes a x b q k in
    (call.1 ∙ ap (λ d. h d (v x)) e ∙ sym (fold_push h c ys (v x)), call.0))
    s all c r list.runs refl ran

-- what is folded of those that pass, each made what g makes of it, is one fold over all
pub fold-passed : {A B C : Type 0} (h : B → A → B) (passes : C → Bool) (g : C → A) (b : B) (xs : List C)
    → fold h b (map g (filter passes xs)) ≡ fold (λ c x. cond (passes x) (h c (g x)) c) b xs
fold-passed h passes g b [] = refl
fold-passed h passes g b (x ∷ xs) =
    split (passes x)
    (λ t. simp t (fold-passed h passes g (h b (g x)) xs))
    (λ t. simp t (fold-passed h passes g b xs))
