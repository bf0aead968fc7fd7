-- Laws of `every`, `any` and `first`: what they say of each place.
-- Assumes nothing.
use Prim.Native.Nat.{ℕ, zero, suc, ◌+◌, ◌<◌, ◌≤◌}
use mathlib.Core.Path.{◌≡◌, refl, ap, ap₂, sym, ◌∙◌, subst}
use mathlib.Core.Bool.{Bool, true, false, ◌&&◌, ◌||◌}
use mathlib.Core.Logic.{⊎_elim}
use native.Mathlib.Nat.{eq-or-lt_of_le, not-suc-le-zero, le_of_suc-le-suc}
use native.Mathlib.Numerals.{add-one}
use native.Mathlib.Omega.{arith}
use lib.Dec.{eqb}
use borrow.Author.Tests.{eqb-false, eqb-true}
use Rattle.common.specs.Places.{any, every, first, listed}
use mathlib.Core.List.{List, [], ◌∷◌, ◌++◌}
use lib.ListN.{get_or, length, length-append, get_or-append}
use lib.Seq.{ext_get_or, get_or_at}
use Rattle.common.proofs.TestLaws.{and_both, and_left, and_right, both, or_cases, or_left, or_right, or-true, split}

-- a place below n + 1 is n, or below n
pub last-or-before : {A : Type 0} (n k : ℕ) → k < suc n → (k ≡ n → A) → (k < n → A) → A
last-or-before n k h f g = ⊎_elim f g (eq-or-lt_of_le (le_of_suc-le-suc h))

-- by whether two places are the same
pub by_place : {A : Type 0} (j i : ℕ) → (j ≡ i → A) → ((j ≡ i → ⊥) → A) → A
by_place j i f g = split (eqb j i) (λ t. f (eqb-true j i t)) (λ t. g (eqb-false j i t))

pub every-at : (n : ℕ) (f : ℕ → Bool) → every n f ≡ true → (k : ℕ) → k < n → f k ≡ true
unfolding every
every-at zero f e k h = absurd (not-suc-le-zero h)
every-at (suc n) f e k h =
    last-or-before n k h
    (λ q. ap f q ∙ and_left (f n) (every n f) e)
    (λ l. every-at n f (and_right (f n) (every n f) e) k l)

pub every-all : (n : ℕ) (f : ℕ → Bool) → ((k : ℕ) → k < n → f k ≡ true) → every n f ≡ true
unfolding every
every-all zero f h = refl
every-all (suc n) f h = and_both (h n (omega arith)) (every-all n f (λ k l. h k (omega arith)))

pub any_at : (n : ℕ) (f : ℕ → Bool) (k : ℕ) → k < n → f k ≡ true → any n f ≡ true
unfolding any
any_at zero f k h e = absurd (not-suc-le-zero h)
any_at (suc n) f k h e =
    last-or-before n k h
    (λ q. ap (λ (b : Bool). b || any n f) (ap f (sym q) ∙ e))
    (λ l. ap (λ (b : Bool). f n || b) (any_at n f k l e) ∙ or-true (f n))

pub any_none : (n : ℕ) (f : ℕ → Bool) → any n f ≡ false → (k : ℕ) → k < n → f k ≡ false
unfolding any
any_none zero f e k h = absurd (not-suc-le-zero h)
any_none (suc n) f e k h =
    last-or-before n k h
    (λ q. ap f q ∙ or_left (f n) (any n f) e)
    (λ l. any_none n f (or_right (f n) (any n f) e) k l)

pub any-not : (n : ℕ) (f : ℕ → Bool) → ((k : ℕ) → k < n → f k ≡ false) → any n f ≡ false
unfolding any
any-not zero f h = refl
any-not (suc n) f h = simp (h n (omega arith)) (any-not n f (λ k l. h k (omega arith)))

-- a place at which f holds, where there is one
pub any_place : (n : ℕ) (f : ℕ → Bool) → any n f ≡ true → (k : ℕ) × (k < n) × (f k ≡ true)
unfolding any
any_place zero f e = both e refl
any_place (suc n) f e =
    ⊎_elim
    (λ h. (n, omega arith, h))
    (λ h. let (k, l, p) = any_place n f h in (k, omega arith, p))
    (or_cases (f n) (any n f) e)

-- the laws of a loop that tests one place after the other
pub every_more : (f : ℕ → Bool) (k : ℕ) → every k f ≡ true → f k ≡ true → every (k + 1) f ≡ true
unfolding every
every_more f k h e = ap (λ (n : ℕ). every n f) (add-one k) ∙ and_both e h

pub every-fails : (n : ℕ) (f : ℕ → Bool) (k : ℕ) → k < n → f k ≡ false → every n f ≡ false
every-fails n f k h e = split (every n f) (λ t. both (every-at n f t k h) e) (λ t. t)

pub any-more : (f : ℕ → Bool) (k : ℕ) → any k f ≡ false → f k ≡ false → any (k + 1) f ≡ false
unfolding any
any-more f k h e = ap (λ (n : ℕ). any n f) (add-one k) ∙ simp (e, h)

pub every-same : (n : ℕ) (f g : ℕ → Bool) → ((k : ℕ) → k < n → f k ≡ g k) → every n f ≡ every n g
unfolding every
every-same zero f g h = refl
every-same (suc n) f g h = ap₂ ◌&&◌ (h n (omega arith)) (every-same n f g (λ k l. h k (omega arith)))

pub any_same : (n : ℕ) (f g : ℕ → Bool) → ((k : ℕ) → k < n → f k ≡ g k) → any n f ≡ any n g
unfolding any
any_same zero f g h = refl
any_same (suc n) f g h = ap₂ ◌||◌ (h n (omega arith)) (any_same n f g (λ k l. h k (omega arith)))

pub first-none : (n : ℕ) (f : ℕ → Bool) → any n f ≡ false → first n f ≡ n
unfolding first any
first-none zero f e = refl
first-none (suc n) f e = simp (or_right (f n) (any n f) e, or_left (f n) (any n f) e)

-- the first place at which f holds, where it holds at none before
pub first_found : (n : ℕ) (f : ℕ → Bool) (k : ℕ) → k < n → any k f ≡ false → f k ≡ true → first n f ≡ k
unfolding first
first_found zero f k h a e = absurd (not-suc-le-zero h)
first_found (suc n) f k h a e =
    last-or-before n k h
    (λ q. simp (subst (λ (m : ℕ). any m f ≡ false) q a, subst (λ (m : ℕ). f m ≡ true) q e) (sym q))
    (λ l. simp (any_at n f k l e) (first_found n f k l a e))

-- the laws of a list made place by place
module _ {A : Type 0} where
  pub length-listed : (n : ℕ) (f : ℕ → A) → length (listed n f) ≡ n
  unfolding listed
  length-listed zero f = refl
  length-listed (suc n) f = length-append (listed n f) (f n ∷ []) ∙ ap (λ (m : ℕ). m + 1) (length-listed n f) ∙ add-one n

  pub get_or-listed : (n : ℕ) (f : ℕ → A) (k : ℕ) (d : A) → k < n → get_or (listed n f) k d ≡ f k
  unfolding listed
  get_or-listed zero f k d h = absurd (not-suc-le-zero h)
  get_or-listed (suc n) f k d h =
      last-or-before n k h
      (λ q. ap (λ (m : ℕ). get_or (listed n f ++ (f n ∷ [])) m d) q
      ∙ get_or_at (listed n f) (f n) [] d n (length-listed n f) ∙ ap f (sym q))
      (λ l. get_or-append (listed n f) (f n ∷ []) d k (subst (λ (m : ℕ). k < m) (sym (length-listed n f)) l)
      ∙ get_or-listed n f k d l)

  pub listed_same : (n : ℕ) (f g : ℕ → A) → ((k : ℕ) → k < n → f k ≡ g k) → listed n f ≡ listed n g
  unfolding listed
  listed_same zero f g h = refl
  listed_same (suc n) f g h =
      ap₂ (λ (xs : List A) (x : A). xs ++ (x ∷ [])) (listed_same n f g (λ k l. h k (omega arith))) (h n (omega arith))

  -- a list is what stands at its places
  pub listed-places : (xs : List A) (n : ℕ) (d : A) → length xs ≡ n → listed n (λ k. get_or xs k d) ≡ xs
  listed-places xs n d e =
      ext_get_or d (listed n (λ k. get_or xs k d)) xs (length-listed n (λ k. get_or xs k d) ∙ sym e)
      (λ k h. get_or-listed n (λ k. get_or xs k d) k d (subst (λ (m : ℕ). k < m) (length-listed n (λ k. get_or xs k d)) h))

-- where f holds somewhere, the first place is one of those
pub first-within : (n : ℕ) (f : ℕ → Bool) → any n f ≡ true → first n f < n
unfolding first any
first-within zero f e = both e refl
first-within (suc n) f e =
    split (any n f)
    (λ t. simp t (let h = first-within n f t in omega arith))
    (λ t. split (f n)
    (λ u. simp (t, u) (omega arith))
    (λ u. both e (simp (t, u))))

pub first-most : (n : ℕ) (f : ℕ → Bool) → first n f ≤ n
first-most n f =
    split (any n f)
    (λ t. let h = first-within n f t in omega arith)
    (λ t. let e = first-none n f t in omega arith)

pub first_holds : (n : ℕ) (f : ℕ → Bool) → first n f < n → f (first n f) ≡ true
unfolding first
first_holds zero f h = absurd (not-suc-le-zero h)
first_holds (suc n) f h =
    split (any n f)
    (λ t. simp t (first_holds n f (first-within n f t)))
    (λ t. split (f n)
    (λ u. simp (t, u))
    (λ u. let e : first (suc n) f ≡ suc n = simp (t, u) in absurd (omega arith)))

pub first-before : (n : ℕ) (f : ℕ → Bool) (k : ℕ) → k < first n f → f k ≡ false
unfolding first
first-before zero f k h = absurd (not-suc-le-zero h)
first-before (suc n) f k h =
    split (any n f)
    (λ t. first-before n f k (simp t at h))
    (λ t. split (f n)
    (λ u. any_none n f t k (simp (t, u) at h))
    (λ u. last-or-before n k (simp (t, u) at h)
    (λ q. ap f q ∙ u)
    (any_none n f t k)))

pub first-missing : (n : ℕ) (f : ℕ → Bool) → n ≤ first n f → (k : ℕ) → k < n → f k ≡ false
first-missing n f h k l = first-before n f k (omega arith)
