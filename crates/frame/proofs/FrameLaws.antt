-- Laws of reading and writing_of, one for each way through their definitions.
-- Assumes nothing.
use Prim.Native.Nat.{ℕ, suc, ◌+◌, ◌<◌, ◌≤◌}
use mathlib.Core.Path.{◌≡◌, refl, ap, ap₂, sym, ◌∙◌}
use native.Mathlib.Nat.{div-one, mod-eq_of_lt, pow-zero}
use native.Mathlib.Numerals.{one-add}
use mathlib.Core.List.{List, [], ◌∷◌, ◌++◌}
use mathlib.Core.Bool.{true, false, not, cond}
use native.Mathlib.Omega.{arith}
use lib.ListN.{length, get_or, drop, length-append}
use lib.Dec.{eqb, ltb}
use borrow.Author.Tests.{eq-eqb, eqb-true, ne_eqb, le-ltb, lt-ltb, not-false}
use Rattle.common.proofs.TestLaws.{or_right, or-true, split}
use Rattle.frame.specs.Frames.{Told, Values, body, frame_bytes, frame_values, known, not_a_frame}
use Rattle.frame.specs.Frames.{nothing, putting, reading, table, total, writing_of, wrote}
use Rattle.std.specs.Prelude.{Result, Ok, Err}
use Rattle.frame.specs.declared.TooShort.{TooShort}
use Rattle.std.specs.Int.{w16, w32, from_be_bytes, to_be_bytes}
use Rattle.frame.specs.Digits.{bytes_of, pack, sum, unpack}
use Rattle.frame.proofs.DigitLaws.{length-bytes_of, number_of-byte, number_of-four, number_of-two, unpack-at, unpack-none}

abbrev pub refused : Told
refused = record { answer = 3; frame = nothing }

pub reading-taken : (bs : List ℕ) → not_a_frame bs ≡ false → reading bs ≡ record { answer = 0; frame = frame_values bs }
unfolding reading
reading-taken bs e = simp e

pub reading-refused : (bs : List ℕ) → not_a_frame bs ≡ true → reading bs ≡ refused
unfolding reading
reading-refused bs e = simp e

pub not_a_frame-unknown : (bs : List ℕ) → known table (get_or bs 0 0) ≡ false → not_a_frame bs ≡ true
unfolding not_a_frame
not_a_frame-unknown bs e = simp (e, or-true)

pub not_a_frame-length : (bs : List ℕ) (k : ℕ) → get_or bs 0 0 ≡ k → (length bs ≡ total k → ⊥) → not_a_frame bs ≡ true
unfolding not_a_frame
not_a_frame-length bs k e h = simp (e, ne_eqb _ _ h, or-true)

pub not_a_frame-whole : (bs : List ℕ) (k : ℕ) → get_or bs 0 0 ≡ k → known table k ≡ true → length bs ≡ total k → not_a_frame bs ≡ false
unfolding not_a_frame
not_a_frame-whole bs k e h l = simp (e, h, eq-eqb _ _ l, ne_eqb (length bs) 0 (λ z. omega arith))

pub reading-whole : (bs : List ℕ) (k : ℕ) → get_or bs 0 0 ≡ k → known table k ≡ true → length bs ≡ total k
    → reading bs ≡ record { answer = 0; frame = record { kind = k; numbers = unpack (body table k) (drop 1 bs) } }
reading-whole bs k e h l =
    reading-taken bs (not_a_frame-whole bs k e h l)
    ∙ ap (λ (n : ℕ). record { answer = 0; frame = record { kind = n; numbers = unpack (body table n) (drop 1 bs) } }) e

-- a frame that is read is as long as its kind says
pub not_a_frame-exact : (bs : List ℕ) → not_a_frame bs ≡ false → length bs ≡ total (get_or bs 0 0)
unfolding not_a_frame
not_a_frame-exact bs e =
    eqb-true (length bs) (total (get_or bs 0 0))
    (not-false (eqb (length bs) (total (get_or bs 0 0)))
    (or_right (not (known table (get_or bs 0 0))) _ (or_right (eqb (length bs) 0) _ e)))

-- all but a MULTICAST of 6 bytes and a PROPOSE of 9
pub not_a_frame-else : (bs : List ℕ) → (length bs ≡ 6 → get_or bs 0 0 ≡ 1 → ⊥) → (length bs ≡ 9 → get_or bs 0 0 ≡ 2 → ⊥)
    → not_a_frame bs ≡ true
unfolding body known sum
not_a_frame-else bs m p =
    split (eqb (get_or bs 0 0) 1)
    (λ t. let k = eqb-true (get_or bs 0 0) 1 t in not_a_frame-length bs 1 k (λ l. m l k))
    (λ t. split (eqb (get_or bs 0 0) 2)
    (λ u. let k = eqb-true (get_or bs 0 0) 2 u in not_a_frame-length bs 2 k (λ l. p l k))
    (λ u. not_a_frame-unknown bs (simp (t, u))))

pub reading-else : (bs : List ℕ) → (length bs ≡ 6 → get_or bs 0 0 ≡ 1 → ⊥) → (length bs ≡ 9 → get_or bs 0 0 ≡ 2 → ⊥)
    → reading bs ≡ refused
reading-else bs m p = reading-refused bs (not_a_frame-else bs m p)

-- a whole frame of each kind, by its bytes and by what the library's methods make of those of its numbers
pub reading-multicast : (bs : List ℕ) (payment : ℕ) → get_or bs 0 0 ≡ 1 → length bs ≡ 6
    → payment ≡ from_be_bytes w32 (get_or bs 1 0 ∷ get_or bs 2 0 ∷ get_or bs 3 0 ∷ get_or bs 4 0 ∷ [])
    → record { answer = 0; frame = record { kind = 1; numbers = payment ∷ get_or bs 5 0 ∷ [] } } ≡ reading bs
unfolding body known sum
reading-multicast bs payment e l p =
    simp (p, reading-whole bs 1 e refl l, unpack-at, unpack-none, number_of-four bs 1 (omega arith), number_of-byte bs 5 (omega arith))

pub reading-propose : (bs : List ℕ) (payment time : ℕ) → get_or bs 0 0 ≡ 2 → length bs ≡ 9
    → payment ≡ from_be_bytes w32 (get_or bs 1 0 ∷ get_or bs 2 0 ∷ get_or bs 3 0 ∷ get_or bs 4 0 ∷ [])
    → time ≡ from_be_bytes w16 (get_or bs 7 0 ∷ get_or bs 8 0 ∷ [])
    → record { answer = 0; frame = record { kind = 2; numbers = payment ∷ get_or bs 5 0 ∷ get_or bs 6 0 ∷ time ∷ [] } } ≡ reading bs
unfolding body known sum
reading-propose bs payment time e l p t =
    simp (
      p,
      t,
      reading-whole bs 2 e refl l,
      unpack-at,
      unpack-none,
      number_of-four bs 1 (omega arith),
      number_of-two bs 7 (omega arith),
      number_of-byte bs 5 (omega arith),
      number_of-byte bs 6 (omega arith),
    )

-- what `read` asks for
pub ruleset read_laws = (reading-else, reading-multicast, reading-propose)

pub writing-short : (v : Values) (buf : List ℕ) → length buf < total v.kind
    → writing_of v buf ≡ record { answer = 2; written = 0; buffer = buf }
unfolding writing_of
writing-short v buf h = simp (lt-ltb _ _ h)

pub writing-fits : (v : Values) (buf : List ℕ) → total v.kind ≤ length buf
    → writing_of v buf ≡ record { answer = 0; written = total v.kind; buffer = frame_bytes v ++ drop (total v.kind) buf }
unfolding writing_of
writing-fits v buf h = simp (le-ltb _ _ h)

length-pack : (ws vs : List ℕ) → length vs ≡ length ws → length (pack ws vs) ≡ sum ws
unfolding pack sum
length-pack [] vs e = refl
length-pack (w ∷ ws) [] e = absurd (omega arith)
length-pack (w ∷ ws) (v ∷ vs) e =
    length-append (bytes_of w v) (pack ws vs)
    ∙ ap₂ ◌+◌ (length-bytes_of w v) (length-pack ws vs (omega arith))

pub length-frame_bytes : (v : Values) → length v.numbers ≡ length (body table v.kind) → length (frame_bytes v) ≡ total v.kind
length-frame_bytes v l = ap suc (length-pack (body table v.kind) v.numbers l) ∙ sym (one-add (sum (body table v.kind)))

-- the bytes of a frame, put at a buffer's front, are its writing
putting-frame : (v : Values) (buf bs : List ℕ) → length v.numbers ≡ length (body table v.kind) → bs ≡ frame_bytes v
    → putting bs buf ≡ writing_of v buf
unfolding writing_of
putting-frame v buf bs l e =
    ap (λ cs. putting cs buf) e
    ∙ ap (λ n. cond (ltb (length buf) n)
    (record { answer = 2; written = 0; buffer = buf })
    (record { answer = 0; written = n; buffer = frame_bytes v ++ drop n buf })) (length-frame_bytes v l)

-- the bytes that write each kind of frame, by the bytes of its numbers
abbrev pub multicast_listed : List ℕ → ℕ → List ℕ
multicast_listed paid destinations = 1 ∷ get_or paid 0 0 ∷ get_or paid 1 0 ∷ get_or paid 2 0 ∷ get_or paid 3 0 ∷ destinations ∷ []

abbrev pub propose_listed : List ℕ → ℕ → ℕ → List ℕ → List ℕ
propose_listed paid destinations source timed =
    2
    ∷ get_or paid 0 0 ∷ get_or paid 1 0 ∷ get_or paid 2 0 ∷ get_or paid 3 0
    ∷ destinations ∷ source
    ∷ get_or timed 0 0 ∷ get_or timed 1 0 ∷ []

pub writing-multicast : (payment destinations : ℕ) (buf : List ℕ) {paid : List ℕ} → destinations < 256
    → paid ≡ to_be_bytes w32 payment
    → putting (multicast_listed paid destinations) buf
    ≡ writing_of (record { kind = 1; numbers = payment ∷ destinations ∷ [] }) buf
unfolding body pack bytes_of
writing-multicast payment destinations buf {paid} small e =
    putting-frame (record { kind = 1; numbers = payment ∷ destinations ∷ [] }) buf (multicast_listed paid destinations) refl
    (simp (e, pow-zero, div-one, mod-eq_of_lt small))

pub writing-propose : (payment destinations source time : ℕ) (buf : List ℕ) {paid timed : List ℕ} → destinations < 256
    → source < 256 → paid ≡ to_be_bytes w32 payment → timed ≡ to_be_bytes w16 time
    → putting (propose_listed paid destinations source timed) buf
    ≡ writing_of (record { kind = 2; numbers = payment ∷ destinations ∷ source ∷ time ∷ [] }) buf
unfolding body pack bytes_of
writing-propose payment destinations source time buf {paid} {timed} small low e f =
    putting-frame (record { kind = 2; numbers = payment ∷ destinations ∷ source ∷ time ∷ [] }) buf
    (propose_listed paid destinations source timed) refl
    (simp (e, f, pow-zero, div-one, mod-eq_of_lt small, mod-eq_of_lt low))

-- what `write` asks for
pub ruleset write_laws = (writing-multicast, writing-propose)

-- whatever the answer, what stands in the buffer is what is told of it
pub wrote-buffer : (r : Result ℕ TooShort) (buffer : List ℕ) → (wrote r buffer).buffer ≡ buffer
wrote-buffer (Ok n) buffer = refl
wrote-buffer (Err short) buffer = refl

-- what is told of a reading, by its answer
pub told-refused : (bs : List ℕ) (o : Told) → o ≡ reading bs → o.answer ≡ 3 → not_a_frame bs ≡ true
told-refused bs o e a =
    split (not_a_frame bs) (λ t. t)
    (λ t. let answers : ◌≡◌ {A = ℕ} 0 3 = sym (ap (λ o. o.answer) (e ∙ reading-taken bs t)) ∙ a in absurd (omega arith))

pub told-accepted : (bs : List ℕ) (o : Told) → o ≡ reading bs → o.answer ≡ 0 → (not_a_frame bs ≡ false) × (frame_values bs ≡ o.frame)
told-accepted bs o e a =
    split (not_a_frame bs)
    (λ t. let answers : ◌≡◌ {A = ℕ} 3 0 = sym (ap (λ o. o.answer) (e ∙ reading-refused bs t)) ∙ a in absurd (omega arith))
    (λ t. (t, sym (ap (λ o. o.frame) (e ∙ reading-taken bs t))))
