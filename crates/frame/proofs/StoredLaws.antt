-- A frame that is stored number by number, each behind the one before it, is its writing.
-- Assumes nothing.
use Prim.Native.Nat.{ℕ, ◌+◌, ◌%◌, ◌<◌, ◌≤◌}
use mathlib.Core.Path.{◌≡◌, refl, ap, sym, ◌∙◌}
use native.Mathlib.Nat.{div-one, mod-eq_of_lt}
use mathlib.Core.List.{List, [], ◌∷◌, ◌++◌}
use native.Mathlib.Omega.{arith}
use lib.ListN.{length, drop, set}
use lib.Seq.{sets, sets-eq}
use Rattle.frame.specs.Frames.{Values, body, frame_bytes, table, total, writing_of}
use Rattle.frame.specs.Digits.{bytes_of, pack, sum}
use Rattle.frame.proofs.DigitLaws.{length-bytes_of}
use Rattle.frame.proofs.FrameLaws.{length-frame_bytes, writing-fits}
use Rattle.frame.proofs.Stores.{sets-append}

-- numbers put one behind the other
abbrev pub puts : List ℕ → ℕ → List ℕ → List ℕ → List ℕ
puts buf at [] vs = buf
puts buf at (w ∷ ws) [] = buf
puts buf at (w ∷ ws) (v ∷ vs) = puts (sets buf at (bytes_of w v)) (at + w) ws vs

puts-pack : (buf : List ℕ) (at : ℕ) (ws vs : List ℕ) → puts buf at ws vs ≡ sets buf at (pack ws vs)
unfolding pack
puts-pack buf at [] vs = refl
puts-pack buf at (w ∷ ws) [] = refl
puts-pack buf at (w ∷ ws) (v ∷ vs) =
    puts-pack (sets buf at (bytes_of w v)) (at + w) ws vs
    ∙ ap (λ (n : ℕ). sets (sets buf at (bytes_of w v)) (at + n) (pack ws vs)) (sym (length-bytes_of w v))
    ∙ sym (sets-append buf at (bytes_of w v) (pack ws vs))

byte-alone : (b : ℕ) → b < 256 → bytes_of 1 b ≡ b ∷ []
unfolding bytes_of
byte-alone b h = ap (λ (n : ℕ). n ∷ []) (ap (λ (n : ℕ). n % 256) (div-one b) ∙ mod-eq_of_lt h)

-- a byte that is stored is a number put in one byte
put_byte : (l : List ℕ) (at b : ℕ) → b < 256 → set l at b ≡ sets l at (bytes_of 1 b)
put_byte l at b h = ap (sets l at) (sym (byte-alone b h))

-- the frame is put by its kind and its numbers, in a buffer that is long enough
pub writing-puts : (v : Values) (buf : List ℕ) → v.kind < 256 → length v.numbers ≡ length (body table v.kind)
    → total v.kind ≤ length buf
    → record {
      answer = 0;
      written = total v.kind;
      buffer = puts buf 0 (1 ∷ body table v.kind)
          (v.kind ∷ v.numbers);
    } ≡ writing_of v buf
unfolding pack
writing-puts v buf small l fits =
    let body = body table v.kind in
    let size = length-frame_bytes v l in
    let end : 0 + length (frame_bytes v) ≡ total v.kind = omega arith in
    let done : puts buf 0 (1 ∷ body) (v.kind ∷ v.numbers) ≡ frame_bytes v ++ drop (total v.kind) buf =
    puts-pack buf 0 (1 ∷ body) (v.kind ∷ v.numbers)
    ∙ ap (λ (k : List ℕ). sets buf 0 (k ++ pack body v.numbers)) (byte-alone v.kind small)
    ∙ sets-eq (frame_bytes v) buf 0 (omega arith)
    ∙ ap (λ (n : ℕ). frame_bytes v ++ drop n buf) end in
    ap (λ (b : List ℕ). record { answer = 0; written = total v.kind; buffer = b }) done ∙ sym (writing-fits v buf fits)

-- one number more, by a store or by a put, where the buffer before it is known
then-byte : (at b : ℕ) {old buf : List ℕ} → b < 256 → old ≡ buf → set old at b ≡ sets buf at (bytes_of 1 b)
then-byte at b {buf = buf} small e = ap (λ (l : List ℕ). set l at b) e ∙ put_byte buf at b small

then-put : (at w v : ℕ) {old buf new : List ℕ} → old ≡ buf → new ≡ sets old at (bytes_of w v) → new ≡ sets buf at (bytes_of w v)
then-put at w v e n = n ∙ ap (λ (l : List ℕ). sets l at (bytes_of w v)) e

-- the stores that write each kind of frame, by the places of its numbers
pub writing-multicast : (payment destinations : ℕ) (buf : List ℕ) {paid : List ℕ} → destinations < 256 → 6 ≤ length buf
    → paid ≡ sets (set buf 0 1) 1 (bytes_of 4 payment)
    → record { answer = 0; written = 6; buffer = set paid 5 destinations }
    ≡ writing_of (record { kind = 1; numbers = payment ∷ destinations ∷ [] }) buf
unfolding body sum
writing-multicast payment destinations buf small fits paid =
    ap (λ (l : List ℕ). record { answer = 0; written = 6; buffer = l })
    (then-byte 5 destinations small (then-put 1 4 payment (put_byte buf 0 1 (omega arith)) paid))
    ∙ writing-puts (record { kind = 1; numbers = payment ∷ destinations ∷ [] }) buf (omega arith) refl fits

pub writing-propose : (payment destinations source time : ℕ) (buf : List ℕ) {paid timed : List ℕ} → destinations < 256
    → source < 256 → 9 ≤ length buf → paid ≡ sets (set buf 0 2) 1 (bytes_of 4 payment)
    → timed ≡ sets (set (set paid 5 destinations) 6 source) 7 (bytes_of 2 time)
    → record { answer = 0; written = 9; buffer = timed }
    ≡ writing_of (record { kind = 2; numbers = payment ∷ destinations ∷ source ∷ time ∷ [] }) buf
unfolding body sum
writing-propose payment destinations source time buf small low fits paid timed =
    ap (λ (l : List ℕ). record { answer = 0; written = 9; buffer = l })
    (then-put 7 2 time
    (then-byte 6 source low (then-byte 5 destinations small (then-put 1 4 payment (put_byte buf 0 2 (omega arith)) paid)))
    timed)
    ∙ writing-puts (record { kind = 2; numbers = payment ∷ destinations ∷ source ∷ time ∷ [] }) buf (omega arith) refl fits
