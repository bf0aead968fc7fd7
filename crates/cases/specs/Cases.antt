-- What a worked case is [C1], and when it runs as written.
-- Assumes nothing.
use Rattle.common.specs.Places.{same_numbers}
use Rattle.std.specs.Prelude.{ℕ, ◌-◌, List, [], ◌∷◌, ◌++◌, Bool, true, cond, ◌&&◌, eqb, length, replicate}
use Prim.Native.Char.{Char}
use Rattle.payment.specs.Payments.{has_stamp, stamp_of, time_from}
use Rattle.held.specs.Held.{at, limit, place_of}
use Rattle.ledger.specs.State.{set_up}
use Rattle.ledger.specs.Step.{Outcome, step}
use Rattle.ledger.specs.declared.Ledger.{Ledger}

-- the frame that is sent: its bytes, none where no frame is sent, and for whom
pub record Sent : Type 0 where
  pub bytes : List ℕ
  pub recipients : ℕ
  pub copies : ℕ

-- a payment's own time and its stamp, a time with a ledger
pub record Stamped : Type 0 where
  pub payment : ℕ
  pub own_time : ℕ
  pub stamp : ℕ × ℕ

-- what is expected of a call: the answer, the clock afterwards, the payments posted in order, the frame sent, and where the case
-- says so how payments stand afterwards
pub record Expected : Type 0 where
  pub answer : ℕ
  pub clock : ℕ
  pub posts : List ℕ
  pub sent : Sent
  pub stamped : List Stamped

-- one call: the ledger it goes to, 1 or 2, the frame's bytes, and what is expected
pub record Call : Type 0 where
  pub ledger : ℕ
  pub frame : List ℕ
  pub expected : Expected

-- one case: its letter, and its calls one after the other
pub record Case : Type 0 where
  pub letter : Char
  pub calls : List Call

-- [C1] ledgers 1 and 2 of 2
pub record Ledgers : Type 0 where
  pub one : Ledger
  pub two : Ledger

-- [C1] fresh for each case
abbrev pub fresh : Ledgers
fresh = record { one = (set_up 2 1).state; two = (set_up 2 2).state }

abbrev pub ledger_of : Ledgers → ℕ → Ledger
ledger_of ls k = cond (eqb k 1) ls.one ls.two

-- the ledgers with ledger k's next state
abbrev pub keeping : Ledgers → ℕ → Ledger → Ledgers
keeping ls k next = record { one = cond (eqb k 1) next ls.one; two = cond (eqb k 1) ls.two next }

abbrev pub zeros : ℕ → List ℕ
zeros n = replicate n 0

-- a call gets an outgoing buffer of 9 zeros and a posting list of zeros
abbrev pub calling : Ledgers → Call → Outcome
calling ls c = step (ledger_of ls c.ledger) c.frame (zeros 9) (zeros limit)

-- a buffer of this size has these numbers from its first place, and is zeros from there on
abbrev pub holds_only : ℕ → List ℕ → List ℕ → Bool
holds_only size numbers buffer = same_numbers buffer (numbers ++ zeros (size - length numbers))

-- the payments are stamped at ledger k, with these own times and stamps
unfoldable pub stand : Ledger → ℕ → List Stamped → Bool
stand l k [] = true
stand l k (s ∷ ss) =
    let p = at l.payments (place_of l.payments s.payment) in
    has_stamp p
    && (eqb (time_from p k) s.own_time
    && (eqb (stamp_of p).time.0 s.stamp.0 && (eqb (stamp_of p).ledger.0 s.stamp.1 && stand l k ss)))

-- what a call handed back is what is expected
unfoldable pub as_expected : Call → Outcome → Bool
as_expected c o =
    let e = c.expected in
    eqb o.answer e.answer
    && (eqb o.state.clock.0 e.clock
    && (eqb o.postings (length e.posts)
    && (holds_only limit e.posts o.list
    && (holds_only 9 e.sent.bytes o.outgoing
    && (eqb o.recipients e.sent.recipients
    && (eqb o.copies e.sent.copies
    && stand o.state c.ledger e.stamped))))))

-- every call hands back what is expected, each on the state that its ledger last handed back
unfoldable pub run_from : Ledgers → List Call → Bool
run_from ls [] = true
run_from ls (c ∷ cs) =
    let o = calling ls c in
    as_expected c o && run_from (keeping ls c.ledger o.state) cs

-- a case runs as written
abbrev pub runs : Case → Bool
runs c = run_from fresh c.calls

-- [C2] every case of a table runs as written
unfoldable pub all_run : List Case → Bool
all_run [] = true
all_run (c ∷ cs) = runs c && all_run cs
