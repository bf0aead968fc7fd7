-- The two round trips: a frame that is written and then read [F4], and bytes that are read and then written [F5].
-- Assumes nothing.
use Prim.Native.Nat.{ℕ, suc, ◌^◌, ◌≤◌}
use mathlib.Core.Path.{◌≡◌, refl, ap, ap₂, sym, ◌∙◌}
use mathlib.Core.List.{List, [], ◌∷◌, ◌++◌}
use mathlib.Core.Bool.{true, false}
use native.Mathlib.Omega.{arith}
use lib.ListN.{length, take, drop, length-take, length-drop, take-append-drop}
use lib.Seq.{take_at, drop_at}
use lib.Dec.{ltb}
use borrow.Author.Tests.{lt-ltb, ltb-false, ltb-true}
use Rattle.common.proofs.TestLaws.{and_left, and_right, both, split}
use Rattle.frame.specs.Digits.{bytes_of, number_of, pack, unpack, sum, fitting}
use Rattle.frame.specs.Typed.{Bytes, Typed}
use Rattle.frame.specs.Frames.{Values, body, frame_bytes, frame_values, kind_in, known, not_a_frame}
use Rattle.frame.specs.Frames.{reading, table, told, total, values_of, writing, writing_of}
use Rattle.frame.specs.declared.Frame.{Frame}
use Rattle.frame.specs.declared.Frame.TheVariants.{Multicast, Propose}
use Rattle.std.specs.Prelude.{Ok}
use Rattle.frame.proofs.DigitLaws.{bytes_drop, bytes_take, bytes_of-number_of, length-bytes_of, number_of-kept}
use Rattle.frame.proofs.FrameLaws.{length-frame_bytes, not_a_frame-exact, not_a_frame-whole, reading-refused}
use Rattle.frame.proofs.FrameLaws.{reading-taken, reading-whole, writing-fits, writing-short}

fitting-length : (ws vs : List ℕ) → fitting ws vs ≡ true → length vs ≡ length ws
unfolding fitting
fitting-length [] [] e = refl
fitting-length [] (v ∷ vs) e = both e refl
fitting-length (w ∷ ws) [] e = both e refl
fitting-length (w ∷ ws) (v ∷ vs) e = ap suc (fitting-length ws vs (and_right (ltb v (256 ^ w)) (fitting ws vs) e))

unpack-pack : (ws vs : List ℕ) → fitting ws vs ≡ true → unpack ws (pack ws vs) ≡ vs
unfolding unpack pack fitting
unpack-pack [] [] e = refl
unpack-pack [] (v ∷ vs) e = both e refl
unpack-pack (w ∷ ws) [] e = both e refl
unpack-pack (w ∷ ws) (v ∷ vs) e =
    ap₂ ◌∷◌
    (ap number_of (take_at (bytes_of w v) (pack ws vs) w (length-bytes_of w v))
    ∙ number_of-kept w v (ltb-true v (256 ^ w) (and_left (ltb v (256 ^ w)) (fitting ws vs) e)))
    (ap (unpack ws) (drop_at (bytes_of w v) (pack ws vs) w (length-bytes_of w v))
    ∙ unpack-pack ws vs (and_right (ltb v (256 ^ w)) (fitting ws vs) e))

pack-unpack : (ws bs : List ℕ) → Bytes bs → length bs ≡ sum ws → pack ws (unpack ws bs) ≡ bs
unfolding unpack pack sum
pack-unpack [] [] h e = refl
pack-unpack [] (b ∷ bs) h e = absurd (omega arith)
pack-unpack (w ∷ ws) bs h e =
    let part : length (take w bs) ≡ w = simp length-take (omega arith) in
    ap₂ ◌++◌
    (ap (λ (n : ℕ). bytes_of n (number_of (take w bs))) (sym part) ∙ bytes_of-number_of (take w bs) (bytes_take w bs h))
    (pack-unpack ws (drop w bs) (bytes_drop w bs h) (simp length-drop (omega arith)))
    ∙ take-append-drop w bs

values-again : (v : Values) (buf : List ℕ) → known table v.kind ≡ true → fitting (body table v.kind) v.numbers ≡ true
    → (writing_of v buf).answer ≡ 0
    → reading (take (writing_of v buf).written (writing_of v buf).buffer) ≡ record { answer = 0; frame = v }
values-again v buf k f w =
    let size = length-frame_bytes v (fitting-length (body table v.kind) v.numbers f) in
    split (ltb (length buf) (total v.kind))
    (λ t. let z : ◌≡◌ {A = ℕ} 2 0 = sym (ap (λ o. o.answer) (writing-short v buf (ltb-true _ _ t))) ∙ w in absurd (omega arith))
    (λ t. let fits = writing-fits v buf (ltb-false _ _ t) in
    ap reading
    (ap₂ take (ap (λ o. o.written) fits) (ap (λ o. o.buffer) fits)
    ∙ take_at (frame_bytes v) (drop (total v.kind) buf) (total v.kind) size)
    ∙ reading-whole (frame_bytes v) v.kind refl k size
    ∙ ap (λ ns. record { answer = 0; frame = record { kind = v.kind; numbers = ns } }) (unpack-pack (body table v.kind) v.numbers f))

bytes-again : (bs : List ℕ) → Bytes bs → length bs ≡ total (kind_in bs) → frame_bytes (frame_values bs) ≡ bs
bytes-again [] h e = absurd (omega arith)
bytes-again (b ∷ bs) h e = ap (λ cs. b ∷ cs) (pack-unpack (body table b) bs (λ i. h (suc i)) (omega arith))

typed-known : (f : Frame) → known table (values_of f).kind ≡ true
unfolding known
typed-known (Multicast p d) = refl
typed-known (Propose p d s t) = refl

typed-fitting : (f : Frame) → Typed f → fitting (body table (values_of f).kind) (values_of f).numbers ≡ true
unfolding body fitting
typed-fitting (Multicast p d) h = simp (lt-ltb _ _ h.0, lt-ltb _ _ h.1)
typed-fitting (Propose p d s t) h = simp (lt-ltb _ _ h.0, lt-ltb _ _ h.1, lt-ltb _ _ h.2, lt-ltb _ _ h.3)

-- [F4] written, then read: the values come back
pub written_read : (frame : Frame) (buffer : List ℕ) → Typed frame → (writing frame buffer).answer ≡ 0
    → reading (take (writing frame buffer).written (writing frame buffer).buffer) ≡ told (Ok frame)
written_read frame buffer h w = values-again (values_of frame) buffer (typed-known frame) (typed-fitting frame h) w

-- [F5] read, then written: the bytes come back
pub read-written : (bytes buffer : List ℕ) (frame : Frame) → Bytes bytes → told (Ok frame) ≡ reading bytes
    → length bytes ≤ length buffer
    → writing frame buffer ≡ record { answer = 0; written = length bytes; buffer = bytes ++ drop (length bytes) buffer }
read-written bytes buffer frame h r l =
    split (not_a_frame bytes)
    (λ t. let z : ◌≡◌ {A = ℕ} 0 3 = ap (λ o. o.answer) (r ∙ reading-refused bytes t) in absurd (omega arith))
    (λ t. let size = not_a_frame-exact bytes t in
    ap (λ o. writing_of o.frame buffer) (r ∙ reading-taken bytes t)
    ∙ writing-fits (frame_values bytes) buffer (omega arith)
    ∙ ap₂ (λ n cs. record { answer = 0; written = n; buffer = cs ++ drop n buffer }) (sym size) (bytes-again bytes h size))

-- the totals of the table
pub totals : (total 1 ≡ 6) × (total 2 ≡ 9)
unfolding body sum
totals = (refl, refl)

-- the bytes of a frame of a known kind whose numbers have room are read as that frame
pub bytes_read : (v : Values) → known table v.kind ≡ true → fitting (body table v.kind) v.numbers ≡ true
    → (not_a_frame (frame_bytes v) ≡ false) × (frame_values (frame_bytes v) ≡ v)
bytes_read v k f =
    let size = length-frame_bytes v (fitting-length (body table v.kind) v.numbers f) in
    let again = unpack-pack (body table v.kind) v.numbers f in
    (not_a_frame-whole (frame_bytes v) v.kind refl k size, ap (λ ns. record { kind = v.kind; numbers = ns }) again)
