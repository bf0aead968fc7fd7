-- Laws of `sorted`, and of the search for its first place.
-- Assumes nothing.
use Prim.Native.Nat.{ℕ, zero, suc, ◌<◌, ◌≤◌}
use mathlib.Core.Path.{◌≡◌, refl, ap, ap₂, sym, ◌∙◌, subst}
use mathlib.Core.List.{List, [], ◌∷◌}
use mathlib.Core.Bool.{Bool, true, false, not, cond, ◌&&◌, ◌||◌}
use native.Mathlib.Omega.{arith}
use lib.Dec.{eqb}
use lib.ListN.{length}
use borrow.Author.Tests.{eq-eqb, ne_eqb}
use Rattle.common.specs.Places.{any}
use Rattle.common.specs.Order.{insert, least, sorted}
use Rattle.common.proofs.TestLaws.{and-false, both, or_left, or_right, split}
use Rattle.common.proofs.PlaceLaws.{any_none}

-- f at every place but i
abbrev pub but : (ℕ → Bool) → ℕ → ℕ → Bool
but f i j = not (eqb j i) && f j

module _ (before : ℕ → ℕ → Bool) where
  pub sorted-same : (f g : ℕ → Bool) (n : ℕ) → ((k : ℕ) → k < n → f k ≡ g k) → sorted before f n ≡ sorted before g n
  unfolding sorted
  sorted-same f g zero h = refl
  sorted-same f g (suc n) h =
      ap₂ (λ b js. cond b (insert before n js) js) (h n (omega arith)) (sorted-same f g n (λ k l. h k (omega arith)))

  pub sorted_none : (f : ℕ → Bool) (n : ℕ) → ((k : ℕ) → k < n → f k ≡ false) → sorted before f n ≡ []
  unfolding sorted
  sorted_none f zero h = refl
  sorted_none f (suc n) h = simp (h n (omega arith)) (sorted_none f n (λ k l. h k (omega arith)))

  sorted-skip : (f : ℕ → Bool) (n : ℕ) → f n ≡ false → sorted before f (suc n) ≡ sorted before f n
  unfolding sorted
  sorted-skip f n e = simp e

  sorted-in : (f : ℕ → Bool) (n : ℕ) → f n ≡ true → sorted before f (suc n) ≡ insert before n (sorted before f n)
  unfolding sorted
  sorted-in f n e = simp e

  module _ (none : ℕ) (f : ℕ → Bool) where
    pub least-none : (n : ℕ) → any n f ≡ false → least none before f n ≡ none
    unfolding least any
    least-none zero e = refl
    least-none (suc n) e = simp (or_left (f n) (any n f) e) (least-none n (or_right (f n) (any n f) e))

    pub least_skip : (n : ℕ) → f n ≡ false → least none before f (suc n) ≡ least none before f n
    unfolding least
    least_skip n e = simp e

    pub least-only : (n : ℕ) → f n ≡ true → least none before f n ≡ none → least none before f (suc n) ≡ n
    unfolding least
    least-only n e g = simp (e, eq-eqb _ _ g)

    pub least-less : (n : ℕ) → f n ≡ true → (least none before f n ≡ none → ⊥) → before n (least none before f n) ≡ true
        → least none before f (suc n) ≡ n
    unfolding least
    least-less n e g b = simp (e, ne_eqb _ _ g, b)

    pub least-keep : (n : ℕ) → f n ≡ true → (least none before f n ≡ none → ⊥) → before n (least none before f n) ≡ false
        → least none before f (suc n) ≡ least none before f n
    unfolding least
    least-keep n e g b = simp (e, ne_eqb _ _ g, b)

    -- m is a place of f below n, and the first of all in order
    abbrev First : ℕ → ℕ → Type 0
    First n m = (m < n) × (f m ≡ true) × (sorted before f n ≡ m ∷ sorted before (but f m) n)

    but-self : (n : ℕ) → but f n n ≡ false
    but-self n = simp (eq-eqb n n refl)

    but-other : (n m : ℕ) → (n ≡ m → ⊥) → but f m n ≡ f n
    but-other n m h = simp (ne_eqb n m h)

    first-skip : (n m : ℕ) → f n ≡ false → First n m → First (suc n) m
    first-skip n m e p = (
      omega arith,
      p.1,
      sorted-skip f n e ∙ p.2
          ∙ ap (λ js. m ∷ js) (sym (sorted-skip (but f m) n (ap (λ b. not (eqb n m) && b) e ∙ and-false (not (eqb n m))))),
    )

    first-only : (n : ℕ) → f n ≡ true → any n f ≡ false → First (suc n) n
    unfolding insert
    first-only n e a = (
      omega arith,
      e,
      sorted-in f n e ∙ ap (insert before n) (sorted_none f n (any_none n f a))
          ∙ ap (λ js. n ∷ js)
          (sym (sorted-skip (but f n) n (but-self n)
          ∙ sorted_none (but f n) n (λ k l. but-other k n (λ q. omega arith) ∙ any_none n f a k l))),
    )

    first-less : (n m : ℕ) → f n ≡ true → before n m ≡ true → First n m → First (suc n) n
    unfolding insert
    first-less n m e b p = (
      omega arith,
      e,
      sorted-in f n e ∙ ap (insert before n) p.2 ∙ simp b
          (ap (λ js. n ∷ js)
          (sym p.2 ∙ sym (sorted-skip (but f n) n (but-self n) ∙ sorted-same (but f n) f n (λ k l. but-other k n (λ q. omega arith))))),
    )

    first-keep : (n m : ℕ) → f n ≡ true → before n m ≡ false → First n m → First (suc n) m
    unfolding insert
    first-keep n m e b p = (
      omega arith,
      p.1,
      sorted-in f n e ∙ ap (insert before n) p.2 ∙ simp b
          (ap (λ js. m ∷ js) (sym (sorted-in (but f m) n (but-other n m (λ q. omega arith) ∙ e)))),
    )

    -- where there is a place of f, the least is one, and stands before all others
    pub least_first : (n : ℕ) → n ≤ none → any n f ≡ true → First n (least none before f n)
    unfolding any
    least_first zero h e = both e refl
    least_first (suc n) h e =
        split (f n)
        (λ t. split (any n f)
        (λ a. let p = least_first n (omega arith) a in
        let real : least none before f n ≡ none → ⊥ = λ q. omega (arith, p.0) in
        split (before n (least none before f n))
        (λ b. subst (First (suc n)) (sym (least-less n t real b)) (first-less n (least none before f n) t b p))
        (λ b. subst (First (suc n)) (sym (least-keep n t real b)) (first-keep n (least none before f n) t b p)))
        (λ a. subst (First (suc n)) (sym (least-only n t (least-none n a))) (first-only n t a)))
        (λ t. subst (First (suc n)) (sym (least_skip n t))
        (first-skip n (least none before f n) t (least_first n (omega arith) (sym (ap (λ b. b || any n f) t) ∙ e))))

module _ (before : ℕ → ℕ → Bool) where
  length-insert : (i : ℕ) (js : List ℕ) → length (insert before i js) ≡ suc (length js)
  unfolding insert
  length-insert i [] = refl
  length-insert i (j ∷ js) =
      split (before i j)
      (λ t. simp t)
      (λ t. simp t (ap suc (length-insert i js)))

  -- no more than all places are in order
  pub length-sorted : (f : ℕ → Bool) (n : ℕ) → length (sorted before f n) ≤ n
  unfolding sorted
  length-sorted f zero = omega arith
  length-sorted f (suc n) =
      split (f n)
      (λ t. simp (t, length-insert) (let h = length-sorted f n in omega arith))
      (λ t. simp t (let h = length-sorted f n in omega arith))
