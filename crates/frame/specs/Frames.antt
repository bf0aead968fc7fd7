-- Frames [F1 to F7], and which bytes are none [A3]. The two round trips [F4, F5] are theorems: proofs/RoundTrip.antt.
-- Assumes nothing.
use Rattle.std.specs.Prelude.{ℕ, ◌+◌, List, [], ◌∷◌, ◌++◌, Bool, false, not, ◌||◌, cond, Result, Ok, Err, length, get_or, drop, eqb, ltb}
use Rattle.frame.specs.Digits.{pack, unpack, sum}
use Rattle.frame.specs.declared.Frame.{Frame}
use Rattle.frame.specs.declared.Frame.TheVariants.{Multicast, Propose}
use Rattle.frame.specs.declared.NotAFrame.{NotAFrame}
use Rattle.frame.specs.declared.TooShort.{TooShort}

-- [F1] a row of the table: a kind, and how many bytes each number of its body takes
pub record Row : Type 0 where
  pub kind : ℕ
  pub body : List ℕ

-- [F2] MULTICAST, 6 bytes: the kind, then the payment in 4 and the destinations in 1
abbrev pub multicast : Row
multicast = record { kind = 1; body = 4 ∷ 1 ∷ [] }

-- [F3] PROPOSE, 9 bytes: the kind, then the payment in 4, the destinations in 1, the source in 1 and the time in 2
abbrev pub propose : Row
propose = record { kind = 2; body = 4 ∷ 1 ∷ 1 ∷ 2 ∷ [] }

abbrev pub table : List Row
table = multicast ∷ propose ∷ []

-- a frame's kind, and the numbers of its body in the table's order
pub record Values : Type 0 where
  pub kind : ℕ
  pub numbers : List ℕ

-- [P5] which kind and which numbers each case of a frame has
abbrev pub values_of : Frame → Values
values_of (Multicast payment destinations) =
    record { kind = multicast.kind; numbers = payment.0 ∷ destinations ∷ [] }
values_of (Propose payment destinations source time) =
    record { kind = propose.kind; numbers = payment.0 ∷ destinations ∷ source.0 ∷ time.0 ∷ [] }

-- a kind is known if the table has a row for it
unfoldable pub known : List Row → ℕ → Bool
known [] k = false
known (r ∷ rs) k = eqb k r.kind || known rs k

-- the body that the table gives to a kind; none where it has no such kind
unfoldable pub body : List Row → ℕ → List ℕ
body [] k = []
body (r ∷ rs) k = cond (eqb k r.kind) r.body (body rs k)

-- [F1] the kind takes one byte, and the rest is the body that goes with it
abbrev pub total_in : List Row → ℕ → ℕ
total_in rows k = 1 + sum (body rows k)

-- the total length of a frame of a known kind
abbrev pub total : ℕ → ℕ
total k = total_in table k

-- [F1] the bytes of a frame: its kind, then its numbers, each with the high byte in front
abbrev pub frame_bytes : Values → List ℕ
frame_bytes v = v.kind ∷ pack (body table v.kind) v.numbers

-- the first byte; 0, which is no kind, where there is none
abbrev pub kind_in : List ℕ → ℕ
kind_in bytes = get_or bytes 0 0

-- the frame that bytes hold, where they hold one
abbrev pub frame_values : List ℕ → Values
frame_values bytes = record { kind = kind_in bytes; numbers = unpack (body table (kind_in bytes)) (drop 1 bytes) }

-- [A3] no frame: no byte at all, a kind that is not in the table, or more or fewer bytes than the kind has
unfoldable pub not_a_frame : List ℕ → Bool
not_a_frame bytes =
    eqb (length bytes) 0 || (not (known table (kind_in bytes)) || not (eqb (length bytes) (total (kind_in bytes))))

-- what a reading tells: the answer, and the frame's values
pub record Told : Type 0 where
  pub answer : ℕ
  pub frame : Values

-- the values of a refused reading: the table has no kind 0
abbrev pub nothing : Values
nothing = record { kind = 0; numbers = [] }

-- [F6] reading has no other refusal than 3, and judges no value
unfoldable pub reading : List ℕ → Told
reading bytes =
    cond (not_a_frame bytes) (record { answer = 3; frame = nothing }) (record { answer = 0; frame = frame_values bytes })

-- [P5] which answer and which values each case of a reading stands for
abbrev pub told : Result Frame NotAFrame → Told
told (Ok frame) = record { answer = 0; frame = values_of frame }
told (Err none) = record { answer = 3; frame = nothing }

-- what a writing leaves: the answer, how many bytes were written (ours: docs/DECISIONS.md), and the whole buffer
pub record Wrote : Type 0 where
  pub answer : ℕ
  pub written : ℕ
  pub buffer : List ℕ

-- bytes at a buffer's front; answer 2 and the buffer as it was where it is shorter
abbrev pub putting : List ℕ → List ℕ → Wrote
putting bytes buffer =
    cond (ltb (length buffer) (length bytes))
    (record { answer = 2; written = 0; buffer = buffer })
    (record { answer = 0; written = length bytes; buffer = bytes ++ drop (length bytes) buffer })

-- [F7] a buffer that the frame does not fit into is answered 2 and left as it was; else the frame is put at its front
unfoldable pub writing_of : Values → List ℕ → Wrote
writing_of v buffer =
    cond (ltb (length buffer) (total v.kind))
    (record { answer = 2; written = 0; buffer = buffer })
    (record { answer = 0; written = total v.kind; buffer = frame_bytes v ++ drop (total v.kind) buffer })

-- the writing of a frame
abbrev pub writing : Frame → List ℕ → Wrote
writing frame buffer = writing_of (values_of frame) buffer

-- [P5] which answer and which count each case of a writing stands for, beside the buffer as it is left
abbrev pub wrote : Result ℕ TooShort → List ℕ → Wrote
wrote (Ok n) buffer = record { answer = 0; written = n; buffer = buffer }
wrote (Err short) buffer = record { answer = 2; written = 0; buffer = buffer }
