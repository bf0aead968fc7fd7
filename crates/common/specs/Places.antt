-- Tests of all the places below a bound, and the members of a list.
-- Assumes nothing.
use Rattle.std.specs.Prelude.{ℕ, zero, suc, ◌+◌, ◌≡◌, List, [], ◌∷◌, ◌++◌, Bool, true, false, cond, ◌&&◌, ◌||◌, ◌⊎◌, eqb}

-- f holds at every place below n
unfoldable pub every : ℕ → (ℕ → Bool) → Bool
every zero f = true
every (suc n) f = f n && every n f

-- f holds at some place below n
unfoldable pub any : ℕ → (ℕ → Bool) → Bool
any zero f = false
any (suc n) f = f n || any n f

-- at how many places below n f holds
unfoldable pub count : ℕ → (ℕ → Bool) → ℕ
count zero f = 0
count (suc n) f = cond (f n) 1 0 + count n f

-- the first place below n at which f holds; n where there is none
unfoldable pub first : ℕ → (ℕ → Bool) → ℕ
first zero f = 0
first (suc n) f = cond (any n f) (first n f) (cond (f n) n (suc n))

-- the list of what f gives at the places below n
unfoldable pub listed {ℓ} : {A : Type ℓ} → ℕ → (ℕ → A) → List A
listed zero f = []
listed (suc n) f = listed n f ++ (f n ∷ [])

-- two lists are equal, place by place
unfoldable pub same_numbers : List ℕ → List ℕ → Bool
same_numbers [] [] = true
same_numbers [] (y ∷ ys) = false
same_numbers (x ∷ xs) [] = false
same_numbers (x ∷ xs) (y ∷ ys) = eqb x y && same_numbers xs ys

-- a member of a list
abbrev pub In : {A : Type 0} → A → List A → Type 0
In x [] = ⊥
In x (y ∷ ys) = (x ≡ y) ⊎ In x ys

-- of every member of a list
abbrev pub All : {A : Type 0} → (A → Type 0) → List A → Type 0
All P [] = Unit {0}
All P (x ∷ xs) = P x × All P xs
