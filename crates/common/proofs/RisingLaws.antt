-- Laws of places in order: which ones they are, and that they rise.
-- Assumes nothing.
use Prim.Native.Nat.{ℕ, zero, suc, ◌<◌}
use mathlib.Core.Path.{◌≡◌, refl, sym, subst}
use mathlib.Core.List.{List, [], ◌∷◌}
use mathlib.Core.Bool.{Bool, true, false, cond}
use mathlib.Core.Logic.{inl, inr, ⊎_elim}
use native.Mathlib.Nat.{not-suc-le-zero}
use native.Mathlib.Omega.{arith}
use Rattle.common.specs.Places.{All, In}
use Rattle.common.specs.Order.{Rising, insert, sorted}
use Rattle.common.proofs.PlaceLaws.{last-or-before}
use Rattle.common.proofs.TestLaws.{both, split}

pub all_map : (P Q : ℕ → Type 0) (xs : List ℕ) → ((x : ℕ) → P x → Q x) → All P xs → All Q xs
all_map P Q [] f a = tt
all_map P Q (x ∷ xs) f a = (f x a.0, all_map P Q xs f a.1)

pub all-has : (P : ℕ → Type 0) (xs : List ℕ) → All P xs → (x : ℕ) → In x xs → P x
all-has P [] a x h = absurd h
all-has P (y ∷ ys) a x h = ⊎_elim (λ e. subst P (sym e) a.0) (λ t. all-has P ys a.1 x t) h

module _ (before : ℕ → ℕ → Bool) where
  -- by where a place is put
  at-insert : (A : List ℕ → Type 0) (i j : ℕ) (js : List ℕ)
      → (before i j ≡ true → A (i ∷ j ∷ js)) → (before i j ≡ false → A (j ∷ insert before i js)) → A (insert before i (j ∷ js))
  unfolding insert
  at-insert A i j js f g =
      split (before i j)
      (λ t. subst (λ b. A (cond b (i ∷ j ∷ js) (j ∷ insert before i js))) (sym t) (f t))
      (λ t. subst (λ b. A (cond b (i ∷ j ∷ js) (j ∷ insert before i js))) (sym t) (g t))

  all_insert : (P : ℕ → Type 0) (i : ℕ) (js : List ℕ) → P i → All P js → All P (insert before i js)
  unfolding insert
  all_insert P i [] p a = (p, tt)
  all_insert P i (j ∷ js) p a = at-insert (All P) i j js (λ t. (p, (a.0, a.1))) (λ t. (a.0, all_insert P i js p a.1))

  has_new : (i : ℕ) (js : List ℕ) → In i (insert before i js)
  unfolding insert
  has_new i [] = inl refl
  has_new i (j ∷ js) = at-insert (In i) i j js (λ t. inl refl) (λ t. inr (has_new i js))

  has-old : (x i : ℕ) (js : List ℕ) → In x js → In x (insert before i js)
  unfolding insert
  has-old x i [] h = absurd h
  has-old x i (j ∷ js) h =
      at-insert (In x) i j js (λ t. inr h) (λ t. ⊎_elim (λ e. inl e) (λ m. inr (has-old x i js m)) h)

  rising-insert : (i : ℕ) (js : List ℕ)
      → ((a b c : ℕ) → before a b ≡ true → before b c ≡ true → before a c ≡ true)
      → All (λ j. before i j ≡ false → before j i ≡ true) js → Rising before js → Rising before (insert before i js)
  unfolding insert
  rising-insert i [] trans total r = (tt, tt)
  rising-insert i (j ∷ js) trans total r =
      at-insert (Rising before) i j js
      (λ t. ((t, all_map _ _ js (λ k b. trans i j k t b) r.0), r))
      (λ t. (all_insert (λ k. before j k ≡ true) i js (total.0 t) r.0, rising-insert i js trans total.1 r.1))

  module _ (f : ℕ → Bool) where
    -- by whether f holds at the next place
    at-sorted : (A : List ℕ → Type 0) (n : ℕ) → (f n ≡ true → A (insert before n (sorted before f n)))
        → (f n ≡ false → A (sorted before f n))
        → A (sorted before f (suc n))
    unfolding sorted
    at-sorted A n g h =
        split (f n)
        (λ t. subst (λ b. A (cond b (insert before n (sorted before f n)) (sorted before f n))) (sym t) (g t))
        (λ t. subst (λ b. A (cond b (insert before n (sorted before f n)) (sorted before f n))) (sym t) (h t))

    -- the places in order are just those at which f holds
    pub sorted_all : (P : ℕ → Type 0) (n : ℕ) → ((k : ℕ) → k < n → f k ≡ true → P k) → All P (sorted before f n)
    unfolding sorted
    sorted_all P zero g = tt
    sorted_all P (suc n) g =
        let rest = sorted_all P n (λ k h e. g k (omega arith) e) in
        at-sorted (All P) n (λ t. all_insert P n (sorted before f n) (g n (omega arith) t) rest) (λ t. rest)

    pub sorted-has : (n k : ℕ) → k < n → f k ≡ true → In k (sorted before f n)
    unfolding sorted
    sorted-has zero k h e = absurd (not-suc-le-zero h)
    sorted-has (suc n) k h e =
        last-or-before n k h
        (λ q. at-sorted (In k) n (λ t. subst (λ m. In m (insert before n (sorted before f n))) (sym q) (has_new n (sorted before f n)))
        (λ t. both (subst (λ m. f m ≡ true) q e) t))
        (λ l. at-sorted (In k) n (λ t. has-old k n (sorted before f n) (sorted-has n k l e)) (λ t. sorted-has n k l e))

    -- they rise, where any two of them are in an order
    pub sorted-rising : ((a b c : ℕ) → before a b ≡ true → before b c ≡ true → before a c ≡ true)
        → (n : ℕ) → ((i j : ℕ) → i < n → j < n → f i ≡ true → f j ≡ true → (i ≡ j → ⊥) → before i j ≡ false → before j i ≡ true)
        → Rising before (sorted before f n)
    unfolding sorted
    sorted-rising trans zero total = tt
    sorted-rising trans (suc n) total =
        let rest = sorted-rising trans n (λ i j h g. total i j (omega arith) (omega arith)) in
        at-sorted (Rising before) n
        (λ t. rising-insert n (sorted before f n) trans
        (sorted_all (λ j. before n j ≡ false → before j n ≡ true) n (λ k h e. total n k (omega arith) (omega arith) t e (λ q. omega arith)))
        rest)
        (λ t. rest)
