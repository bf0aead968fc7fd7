-- Laws of tests.
-- Assumes nothing.
use mathlib.Core.Path.{◌≡◌, refl, ap, sym, ◌∙◌}
use mathlib.Core.Bool.{Bool, true, false, ◌&&◌, ◌||◌, true≢false}
use mathlib.Core.Logic.{◌⊎◌, inl, inr}

-- a test is not both
pub both : {A : Type 0} {b : Bool} → b ≡ true → b ≡ false → A
both e f = absurd (true≢false (sym e ∙ f))

-- by the value of a test
pub split : {A : Type 0} (b : Bool) → (b ≡ true → A) → (b ≡ false → A) → A
split true f g = f refl
split false f g = g refl

pub and_left : (a b : Bool) → a && b ≡ true → a ≡ true
and_left true b e = refl
and_left false b e = e

pub and_right : (a b : Bool) → a && b ≡ true → b ≡ true
and_right true b e = e
and_right false b e = both e refl

pub and_both : {a b : Bool} → a ≡ true → b ≡ true → a && b ≡ true
and_both e f = simp (e, f)

pub and-false : (a : Bool) → a && false ≡ false
and-false true = refl
and-false false = refl

pub and-true : (a : Bool) → a && true ≡ a
and-true true = refl
and-true false = refl

pub or-true : (a : Bool) → a || true ≡ true
or-true true = refl
or-true false = refl

pub or-false : (a : Bool) → a || false ≡ a
or-false true = refl
or-false false = refl

pub or_left : (a b : Bool) → a || b ≡ false → a ≡ false
or_left true b e = e
or_left false b e = refl

pub or_right : (a b : Bool) → a || b ≡ false → b ≡ false
or_right true b e = both refl e
or_right false b e = e

pub or_cases : (a b : Bool) → a || b ≡ true → (a ≡ true) ⊎ (b ≡ true)
or_cases true b e = inl refl
or_cases false b e = inr e

-- two tests that hold together are the same
pub same : (a b : Bool) → (a ≡ true → b ≡ true) → (b ≡ true → a ≡ true) → a ≡ b
same true b f g = sym (f refl)
same false true f g = both (g refl) refl
same false false f g = refl

-- what the first test leaves to the second
pub and-go : {a : Bool} (b : Bool) → a ≡ true → a && b ≡ b
and-go b e = ap (λ x. x && b) e

pub and-stop : {a : Bool} (b : Bool) → a ≡ false → a && b ≡ false
and-stop b e = ap (λ x. x && b) e

pub or-go : {a : Bool} (b : Bool) → a ≡ false → a || b ≡ b
or-go b e = ap (λ x. x || b) e

pub or-stop : {a : Bool} (b : Bool) → a ≡ true → a || b ≡ true
or-stop b e = ap (λ x. x || b) e
