-- Laws of numbers as bytes, over the width.
-- Assumes nothing.
use Prim.Native.Nat.{ℕ, zero, suc, ◌+◌, ◌*◌, ◌/◌, ◌%◌, ◌^◌, ◌<◌, ◌≤◌}
use mathlib.Core.Path.{◌≡◌, refl, ap, ap₂, sym, ◌∙◌, subst, subst⁻¹}
use mathlib.Core.List.{List, [], ◌∷◌, ◌++◌}
use native.Mathlib.Nat.{pow-zero, pow-suc, mul_assoc, mul_comm, add-mul, add_assoc, mod-eq_of_lt, mod-one, pow-succ'}
use native.Mathlib.Numerals.{add-one}
use native.Mathlib.Omega.{arith}
use lib.ListN.{length, get_or, take, drop, set, length-append}
use lib.Seq.{drop-cons, drop-drop, get_or-drop, sets}
use Rattle.frame.proofs.Stores.{set-sets}
use lib.Arith.{mod-mul, digits_div, digits_mod, digits_lt}
use Rattle.std.specs.Int.{w16, w32, from_be_bytes}
use Rattle.frame.specs.Typed.{Bytes}
use Rattle.frame.specs.Digits.{bytes_of, number_of, unpack}

-- a part of bytes is bytes
pub bytes_drop : (n : ℕ) (bs : List ℕ) → Bytes bs → Bytes (drop n bs)
bytes_drop n bs h i = subst⁻¹ (λ (x : ℕ). x < 256) (get_or-drop n bs i 0) (h (n + i))

pub bytes_take : (n : ℕ) (bs : List ℕ) → Bytes bs → Bytes (take n bs)
bytes_take zero bs h i = omega arith
bytes_take (suc n) [] h i = omega arith
bytes_take (suc n) (b ∷ bs) h zero = h 0
bytes_take (suc n) (b ∷ bs) h (suc i) = bytes_take n bs (λ j. h (suc j)) i

pub pow_pos : (w : ℕ) → 0 < 256 ^ w
pow_pos zero = subst⁻¹ (λ (x : ℕ). 0 < x) (pow-zero 256) (omega arith)
pow_pos (suc w) = subst⁻¹ (λ (x : ℕ). 0 < x) (pow-suc 256 w) (let h = pow_pos w in omega arith)

pub length-bytes_of : (w x : ℕ) → length (bytes_of w x) ≡ w
unfolding bytes_of
length-bytes_of zero x = refl
length-bytes_of (suc w) x = ap suc (length-bytes_of w _)

pub bytes_of-bytes : (w x : ℕ) → Bytes (bytes_of w x)
unfolding bytes_of
bytes_of-bytes zero x i = omega arith
bytes_of-bytes (suc w) x zero = omega arith
bytes_of-bytes (suc w) x (suc i) = bytes_of-bytes w _ i

-- a number in w bytes keeps what w bytes can hold
pub number_of-bytes_of : (w x : ℕ) → number_of (bytes_of w x) ≡ x % 256 ^ w
unfolding bytes_of number_of
number_of-bytes_of zero x = sym (ap (λ (m : ℕ). x % m) (pow-zero 256) ∙ mod-one x)
number_of-bytes_of (suc w) x =
    ap₂ (λ (n m : ℕ). x / 256 ^ w % 256 * 256 ^ n + m) (length-bytes_of w x) (number_of-bytes_of w x)
    ∙ sym (mod-mul x {m = 256} {c = 256 ^ w} (omega arith) (pow_pos w))
    ∙ ap (λ (m : ℕ). x % m) (mul_comm 256 (256 ^ w) ∙ sym (pow-suc 256 w))

pub number_of-lt : (bs : List ℕ) → Bytes bs → number_of bs < 256 ^ length bs
unfolding number_of
number_of-lt [] h = pow_pos 0
number_of-lt (b ∷ bs) h =
    rw (pow-succ' 256 (length bs)) (digits_lt (h 0) (number_of-lt bs (λ i. h (suc i))))

-- one more byte behind
pub number_of-snoc : (bs : List ℕ) (b : ℕ) → number_of (bs ++ (b ∷ [])) ≡ number_of bs * 256 + b
unfolding number_of
number_of-snoc [] b = simp (pow-zero) (omega arith)
number_of-snoc (a ∷ bs) b =
    ap₂ (λ (n m : ℕ). a * 256 ^ n + m) (length-append bs (b ∷ []) ∙ add-one (length bs)) (number_of-snoc bs b)
    ∙ simp (pow-suc, add-mul, mul_assoc, add_assoc)

-- equal lengths and equal numbers: the same bytes
pub number_of-one : (cs bs : List ℕ) → Bytes cs → Bytes bs → length cs ≡ length bs → number_of cs ≡ number_of bs → cs ≡ bs
unfolding number_of
number_of-one [] [] ha hb l e = refl
number_of-one [] (b ∷ bs) ha hb l e = absurd (omega arith)
number_of-one (a ∷ cs) [] ha hb l e = absurd (omega arith)
number_of-one (a ∷ cs) (b ∷ bs) ha hb l e =
    let n : length cs ≡ length bs = omega arith in
    let low : number_of cs < 256 ^ length bs = subst (λ (k : ℕ). number_of cs < 256 ^ k) n (number_of-lt cs (λ i. ha (suc i))) in
    let low' : number_of bs < 256 ^ length bs = number_of-lt bs (λ i. hb (suc i)) in
    let same : a * 256 ^ length bs + number_of cs ≡ b * 256 ^ length bs + number_of bs =
    ap (λ (k : ℕ). a * 256 ^ k + number_of cs) (sym n) ∙ e in
    ap₂ ◌∷◌
    (sym (digits_div a low) ∙ ap (λ (x : ℕ). x / 256 ^ length bs) same ∙ digits_div b low')
    (number_of-one cs bs (λ i. ha (suc i)) (λ i. hb (suc i)) n
    (sym (digits_mod a low) ∙ ap (λ (x : ℕ). x % 256 ^ length bs) same ∙ digits_mod b low'))

pub bytes_of-number_of : (bs : List ℕ) → Bytes bs → bytes_of (length bs) (number_of bs) ≡ bs
bytes_of-number_of bs h =
    number_of-one (bytes_of (length bs) (number_of bs)) bs (bytes_of-bytes (length bs) (number_of bs)) h
    (length-bytes_of (length bs) (number_of bs))
    (number_of-bytes_of (length bs) (number_of bs) ∙ mod-eq_of_lt (number_of-lt bs h))

pub number_of-kept : (w x : ℕ) → x < 256 ^ w → number_of (bytes_of w x) ≡ x
number_of-kept w x h = number_of-bytes_of w x ∙ mod-eq_of_lt h

-- one byte, and the number that it is
pub number_of-byte : (bs : List ℕ) (i : ℕ) → i < length bs → number_of (take 1 (drop i bs)) ≡ get_or bs i 0
unfolding number_of
number_of-byte bs i h = rw (drop-cons bs i 0 h) (omega arith)

-- two bytes and four, high byte first, as the library's methods count them
pub number_of-two : (bs : List ℕ) (i : ℕ) → i + 2 ≤ length bs
    → number_of (take 2 (drop i bs)) ≡ from_be_bytes w16 (get_or bs i 0 ∷ get_or bs (suc i) 0 ∷ [])
unfolding number_of
number_of-two bs i h = rw (drop-cons bs i 0 (omega arith), drop-cons bs (suc i) 0 (omega arith)) (omega arith)

pub number_of-four : (bs : List ℕ) (i : ℕ) → i + 4 ≤ length bs
    → number_of (take 4 (drop i bs))
    ≡ from_be_bytes w32 (get_or bs i 0 ∷ get_or bs (suc i) 0 ∷ get_or bs (suc (suc i)) 0 ∷ get_or bs (suc (suc (suc i))) 0 ∷ [])
unfolding number_of
number_of-four bs i h =
    rw (
      drop-cons bs i 0 (omega arith),
      drop-cons bs (suc i) 0 (omega arith),
      drop-cons bs (suc (suc i)) 0 (omega arith),
      drop-cons bs (suc (suc (suc i))) 0 (omega arith),
    ) (omega arith)

-- the first number and the others, by their places in the whole
pub unpack-at : (w : ℕ) (ws : List ℕ) (n : ℕ) (bs : List ℕ)
    → unpack (w ∷ ws) (drop n bs) ≡ number_of (take w (drop n bs)) ∷ unpack ws (drop (n + w) bs)
unfolding unpack
unpack-at w ws n bs = ap (λ (l : List ℕ). number_of (take w (drop n bs)) ∷ unpack ws l) (drop-drop w n bs)

pub unpack-none : (bs : List ℕ) → unpack [] bs ≡ []
unfolding unpack
unpack-none bs = refl

-- one byte more in front of those that are written
pub put-more : (l : List ℕ) (at w x rest : ℕ) → rest ≡ x / 256 ^ w
    → set (sets l (suc at) (bytes_of w x)) at (rest % 256) ≡ sets l at (bytes_of (suc w) x)
unfolding bytes_of
put-more l at w x rest e =
    set-sets l at (suc at) (rest % 256) (bytes_of w x) (omega arith)
    ∙ ap (λ (r : ℕ). sets (set l at (r % 256)) (suc at) (bytes_of w x)) e
