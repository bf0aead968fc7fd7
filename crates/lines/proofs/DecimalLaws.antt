-- Laws of decimal digits.
-- Assumes nothing.
use Prim.Native.Nat.{ℕ, zero, suc, ◌/◌, ◌%◌, ◌<◌, ◌≤◌, ◌^◌}
use mathlib.Core.Path.{◌≡◌, ap, sym, ◌∙◌, subst}
use mathlib.Core.List.{List, [], ◌∷◌, ◌++◌}
use native.Mathlib.Nat.{pow-suc}
use native.Mathlib.Omega.{arith}
use borrow.Author.Tests.{le-ltb, lt-ltb, ltb-false, ltb-true}
use lib.Dec.{ltb}
use lib.ListN.{length, length-append}
use mathlib.Core.Logic.{⊎_elim}
use Rattle.std.proofs.lemmas.Fmt.{decimal_from_appends, decimal_step, length-decimal-le}
use Rattle.std.specs.Fmt.{decimal as written}
use Rattle.common.specs.Places.{In}
use Rattle.common.proofs.MemberLaws.{in-append}
use Rattle.common.proofs.TestLaws.{split}
use Rattle.lines.specs.Decimal.{decimal, digit, digits}

pub digits-one : (k n : ℕ) → n < 10 → digits (suc k) n ≡ digit n ∷ []
unfolding digits
digits-one k n h = simp (lt-ltb _ _ h)

pub digits_more : (k n : ℕ) → 10 ≤ n → digits (suc k) n ≡ digits k (n / 10) ++ (digit (n % 10) ∷ [])
unfolding digits
digits_more k n h = simp (le-ltb _ _ h)

pub length_digits : (k n : ℕ) → length (digits k n) ≤ k
unfolding digits
length_digits zero n = omega arith
length_digits (suc k) n =
    split (ltb n 10)
    (λ t. simp t (omega arith))
    (λ t. simp (t, length-append) (let less = length_digits k (n / 10) in omega arith))

pub tenth-less : (j rest : ℕ) → rest < 10 ^ suc j → rest / 10 < 10 ^ j
tenth-less j rest h = let e = pow-suc 10 j in omega arith

-- what the library says of a number in decimal holds of ours
pub decimal-is : (n : ℕ) → n < 2 ^ 64 → decimal n ≡ written n
decimal-is n h = decimal_from_appends digits (record { one = digits-one; more = digits_more }) 20 n h (length-decimal-le 20 n (omega arith) (omega arith) h)

-- the digits of the tenth part, and then the last one
pub decimal-more : (n : ℕ) → n < 2 ^ 64 → 10 ≤ n → decimal (n / 10) ++ (digit (n % 10) ∷ []) ≡ decimal n
decimal-more n h more =
    ap (λ (l : List ℕ). l ++ (digit (n % 10) ∷ [])) (decimal-is (n / 10) (omega arith)) ∙ sym (decimal-is n h ∙ decimal_step n more h)

-- every byte is a digit, `0` to `9`
pub digits_are : (k n b : ℕ) → In b (digits k n) → (48 ≤ b) × (b ≤ 57)
unfolding digits
digits_are zero n b i = absurd i
digits_are (suc k) n b i =
    split (ltb n 10)
    (λ t. let less = ltb-true _ _ t in
    ⊎_elim (λ e. (omega (arith, e, less), omega (arith, e, less))) (λ z. absurd z) (subst (In b) (digits-one k n less) i))
    (λ t. let more = ltb-false _ _ t in
    ⊎_elim
    (λ h. digits_are k (n / 10) b h)
    (λ h. ⊎_elim (λ e. (omega (arith, e), omega (arith, e))) (λ z. absurd z) h)
    (in-append b (digits k (n / 10)) (digit (n % 10) ∷ []) (subst (In b) (digits_more k n more) i)))
