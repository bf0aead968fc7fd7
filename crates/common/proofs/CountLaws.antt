-- Sums and counts over the places below a bound.
-- Assumes nothing.
use Prim.Native.Nat.{ℕ, zero, suc, ◌+◌, ◌*◌, ◌^◌, ◌<◌, ◌≤◌}
use mathlib.Core.Path.{◌≡◌, refl, ap, ap₂, sym, ◌∙◌, subst}
use mathlib.Core.Bool.{Bool, true, false, cond}
use native.Mathlib.Nat.{not-suc-le-zero, suc-mul}
use native.Mathlib.Omega.{arith}
use lib.Dec.{eqb}
use borrow.Author.Tests.{eqb-true}
use Rattle.common.specs.Places.{count, every}
use Rattle.common.specs.Bits.{bit}
use Rattle.common.proofs.PlaceLaws.{every-at, last-or-before}
use Rattle.common.proofs.TestLaws.{both}

-- the sum of f over the places below n
pub sum_of : ℕ → (ℕ → ℕ) → ℕ
sum_of zero f = 0
sum_of (suc n) f = f n + sum_of n f

pub sum-le : (n : ℕ) (f g : ℕ → ℕ) → ((k : ℕ) → k < n → f k ≤ g k) → sum_of n f ≤ sum_of n g
unfolding sum_of
sum-le zero f g h = omega arith
sum-le (suc n) f g h = let first = h n (omega arith) in let rest = sum-le n f g (λ k l. h k (omega arith)) in omega arith

-- greater at one place, and nowhere less
pub sum_lt : (n : ℕ) (f g : ℕ → ℕ) → ((k : ℕ) → k < n → f k ≤ g k) → (p : ℕ) → p < n → f p < g p → sum_of n f < sum_of n g
unfolding sum_of
sum_lt zero f g h p l r = absurd (not-suc-le-zero l)
sum_lt (suc n) f g h p l r =
    last-or-before n p l
    (λ e. let first : f n < g n = subst (λ k. f k < g k) e r in let rest = sum-le n f g (λ k l. h k (omega arith)) in omega arith)
    (λ i. let first = h n (omega arith) in let rest = sum_lt n f g (λ k l. h k (omega arith)) p i r in omega arith)

pub sum-most : (n b : ℕ) (f : ℕ → ℕ) → ((k : ℕ) → k < n → f k ≤ b) → sum_of n f ≤ n * b
unfolding sum_of
sum-most zero b f h = omega arith
sum-most (suc n) b f h =
    let first = h n (omega arith) in
    let rest = sum-most n b f (λ k l. h k (omega arith)) in
    let step : suc n * b ≡ n * b + b = suc-mul n b in
    omega arith

-- a count is a sum of ones
abbrev one : (ℕ → Bool) → ℕ → ℕ
one f k = cond (f k) 1 0

count-sum : (n : ℕ) (f : ℕ → Bool) → count n f ≡ sum_of n (one f)
unfolding count sum_of
count-sum zero f = refl
count-sum (suc n) f = ap (λ m. cond (f n) 1 0 + m) (count-sum n f)

one-le : (f g : ℕ → Bool) (k : ℕ) → (f k ≡ true → g k ≡ true) → one f k ≤ one g k
one-le f g k = go (f k) (g k)
  where
    go : (a b : Bool) → (a ≡ true → b ≡ true) → cond a 1 0 ≤ cond b 1 0
    go false b h = omega arith
    go true true h = omega arith
    go true false h = both (h refl) refl

pub count-le : (n : ℕ) (f g : ℕ → Bool) → ((k : ℕ) → k < n → f k ≡ true → g k ≡ true) → count n f ≤ count n g
count-le n f g h =
    let l = sum-le n (one f) (one g) (λ k i. one-le f g k (h k i)) in
    let a = count-sum n f in
    let b = count-sum n g in
    omega arith

pub count-lt : (n : ℕ) (f g : ℕ → Bool) → ((k : ℕ) → k < n → f k ≡ true → g k ≡ true) → (p : ℕ) → p < n → f p ≡ false → g p ≡ true
    → count n f < count n g
count-lt n f g h p i u t =
    let l = sum_lt n (one f) (one g) (λ k i. one-le f g k (h k i)) p i (less u t) in
    let a = count-sum n f in
    let b = count-sum n g in
    omega arith
  where
    less : f p ≡ false → g p ≡ true → one f p < one g p
    less u t = subst (λ b. cond b 1 0 < cond (g p) 1 0) (sym u) (subst (λ b. 0 < cond b 1 0) (sym t) (omega arith))

pub count_most : (n : ℕ) (f : ℕ → Bool) → count n f ≤ n
unfolding count
count_most zero f = omega arith
count_most (suc n) f = let rest = count_most n f in let first = at_most (f n) in omega arith
  where
    at_most : (b : Bool) → cond b 1 0 ≤ 1
    at_most true = omega arith
    at_most false = omega arith

sum_same : (n : ℕ) (f g : ℕ → ℕ) → ((k : ℕ) → k < n → f k ≡ g k) → sum_of n f ≡ sum_of n g
unfolding sum_of
sum_same zero f g h = refl
sum_same (suc n) f g h = ap₂ ◌+◌ (h n (omega arith)) (sum_same n f g (λ k l. h k (omega arith)))

-- what a bit adds to its byte
abbrev weight : ℕ → ℕ → ℕ
weight d k = cond (bit d k) (2 ^ k) 0

byte-sum : (d : ℕ) → d < 256 → d ≡ sum_of 8 (weight d)
unfolding every sum_of
byte-sum d h = eqb-true _ _ (every-at 256 (λ d. eqb d (sum_of 8 (weight d))) refl d h)

-- a byte is known by its bits
pub same_byte : (a b : ℕ) → a < 256 → b < 256 → ((k : ℕ) → k < 8 → bit a k ≡ bit b k) → a ≡ b
same_byte a b ha hb e = byte-sum a ha ∙ sum_same 8 (weight a) (weight b) (λ k h. ap (λ x. cond x (2 ^ k) 0) (e k h)) ∙ sym (byte-sum b hb)
