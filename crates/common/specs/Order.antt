-- Places in an order.
-- Assumes nothing.
use Rattle.std.specs.Prelude.{ℕ, zero, suc, ◌≡◌, List, [], ◌∷◌, Bool, true, cond, eqb}
use Rattle.common.specs.Places.{All}

-- a place put into a list of places, before the first that it is before
unfoldable pub insert : (ℕ → ℕ → Bool) → ℕ → List ℕ → List ℕ
insert before i [] = i ∷ []
insert before i (j ∷ js) = cond (before i j) (i ∷ j ∷ js) (j ∷ insert before i js)

-- the places below n at which f holds, in order (of two that are in neither order, the greater place stands later)
unfoldable pub sorted : (ℕ → ℕ → Bool) → (ℕ → Bool) → ℕ → List ℕ
sorted before f zero = []
sorted before f (suc n) = cond (f n) (insert before n (sorted before f n)) (sorted before f n)

-- each before all that follow it
abbrev pub Rising : (ℕ → ℕ → Bool) → List ℕ → Type 0
Rising before [] = Unit {0}
Rising before (x ∷ xs) = All (λ y. before x y ≡ true) xs × Rising before xs

-- for the code, which searches: the first in order of the places below n at which f holds; `none` where there is none
unfoldable pub least : ℕ → (ℕ → ℕ → Bool) → (ℕ → Bool) → ℕ → ℕ
least none before f zero = none
least none before f (suc n) =
    let best = least none before f n in
    cond (f n) (cond (eqb best none) n (cond (before n best) n best)) best
