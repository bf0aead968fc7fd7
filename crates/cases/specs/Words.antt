-- Words for a frame, for a call and for what is expected of it, so that the table reads as it would be told [CA to CJ, CL].
-- Assumes nothing.
use Rattle.std.specs.Prelude.{ℕ, List, [], ◌∷◌}
use Prim.Native.Char.{Char}
use Rattle.frame.specs.Frames.{frame_bytes, multicast, propose}
use Rattle.cases.specs.Cases.{Call, Case, Expected, Sent, Stamped}

infix 90 MULTICAST◌to◌
infix 90 PROPOSE◌to◌from◌time◌
infix 90 answer◌clock◌
infixl 80 ◌posts◌
infixl 80 ◌bytes◌recipients◌copies◌
infixl 80 ◌payment◌own-time◌stamp◌
infix 70 ledger◌gets◌⇒◌
-- the bytes of a frame
abbrev pub MULTICAST◌to◌ : ℕ → ℕ → List ℕ
MULTICAST p to d = frame_bytes (record { kind = multicast.kind; numbers = p ∷ d ∷ [] })

abbrev pub PROPOSE◌to◌from◌time◌ : ℕ → ℕ → ℕ → ℕ → List ℕ
PROPOSE p to d from s time t = frame_bytes (record { kind = propose.kind; numbers = p ∷ d ∷ s ∷ t ∷ [] })

abbrev pub no_frame : Sent
no_frame = record { bytes = []; recipients = 0; copies = 0 }

-- this answer and this clock; nothing is posted and no frame is sent, unless a word below follows
abbrev pub answer◌clock◌ : ℕ → ℕ → Expected
answer a clock t = record { answer = a; clock = t; posts = []; sent = no_frame; stamped = [] }

-- and these payments are posted, in this order
abbrev pub ◌posts◌ : Expected → List ℕ → Expected
e posts ns = record { answer = e.answer; clock = e.clock; posts = ns; sent = e.sent; stamped = e.stamped }

-- and these bytes are sent
abbrev pub ◌bytes◌recipients◌copies◌ : Expected → List ℕ → ℕ → ℕ → Expected
e bytes bs recipients r copies n =
    let sent : Sent = record { bytes = bs; recipients = r; copies = n } in
    record { answer = e.answer; clock = e.clock; posts = e.posts; sent = sent; stamped = e.stamped }

-- and this payment has this own time and this stamp
abbrev pub ◌payment◌own-time◌stamp◌ : Expected → ℕ → ℕ → ℕ × ℕ → Expected
e payment p own-time t stamp s =
    let stamped : List Stamped = record { payment = p; own_time = t; stamp = s } ∷ e.stamped in
    record { answer = e.answer; clock = e.clock; posts = e.posts; sent = e.sent; stamped = stamped }

-- one call, and one case with its letter
abbrev pub ledger◌gets◌⇒◌ : ℕ → List ℕ → Expected → Call
ledger k gets bs ⇒ e = record { ledger = k; frame = bs; expected = e }

abbrev pub case : Char → List Call → Case
case letter calls = record { letter = letter; calls = calls }
