-- What a run of several ledgers is [G1 to G7].
-- Assumes nothing.
use Rattle.std.specs.Prelude.{ℕ, ◌<◌, ◌≤◌, ◌^◌, ◌≡◌, List, [], ◌∷◌, ◌++◌, true, cond, ◌⊎◌, eqb, get_or, length, take}
use Rattle.common.specs.Places.{In, count}
use Rattle.frame.specs.Frames.{frame_bytes, propose, total, values_of}
use Rattle.frame.specs.declared.Frame.TheVariants.{Multicast}
use Rattle.ledgers.specs.Ledgers.{has, most_ledgers}
use Rattle.held.specs.Held.{limit}
use Rattle.ledger.specs.State.{set_up}
use Rattle.ledger.specs.Step.{step}
use Rattle.ledger.specs.declared.Ledger.{Ledger}

-- [G2] a payment of a run: its number and its destinations
pub record Entry : Type 0 where
  pub number : ℕ
  pub destinations : ℕ

-- what stands beyond the table's end
abbrev pub no_entry : Entry
no_entry = record { number = 0; destinations = 0 }

-- the payments of a run of N ledgers, with what is asked of how many they are
pub record LawfulWith (n : ℕ) (table : List Entry) (few-enough : Type 0) : Type 0 where
  -- [G1] so many ledgers can make a group
  pub ledgers : (1 ≤ n) × (n ≤ most_ledgers)
  -- [G2] no two payments have the same number
  pub differ : (i j : ℕ) → i < j → j < length table → (get_or table i no_entry).number ≡ (get_or table j no_entry).number → ⊥
  -- none is 0, and each has 32 bits [N2]
  pub number : (e : Entry) → In e table → (e.number ≡ 0 → ⊥) × (e.number < 2 ^ 32)
  -- each is for some ledger, and for none past N
  pub destinations : (e : Entry) → In e table → (e.destinations ≡ 0 → ⊥) × (e.destinations < 2 ^ n)
  pub few : few-enough

-- [G3] no ledger is a destination of more payments than it can hold (why this is asked: docs/DECISIONS.md, "The run")
abbrev pub Lawful : ℕ → List Entry → Type 0
Lawful n table = LawfulWith n table ((k : ℕ) → count (length table) (λ i. has (get_or table i no_entry).destinations k) ≤ limit)

-- [G3] there are no more payments in all than a ledger can hold
abbrev pub LawfulInAll : ℕ → List Entry → Type 0
LawfulInAll n table = LawfulWith n table (length table ≤ limit)

-- [G5] a PROPOSE that a step wrote, with its recipients: each of them gets a copy
pub record Written : Type 0 where
  pub frame : List ℕ
  pub recipients : ℕ

-- what the calls so far have left: each ledger's state as it last handed it back, the written PROPOSEs and the answers, the newest
-- first, and each ledger's log: what its steps wrote into the posting lists, in order
pub record World : Type 0 where
  pub ledgers : ℕ → Ledger
  pub written : List Written
  pub logs : ℕ → List ℕ
  pub answers : List ℕ

-- [G1] every ledger of the group is set up (any other number has the all-zero state, and is never called)
abbrev pub start : ℕ → World
start n = record { ledgers = λ k. (set_up n k).state; written = []; logs = λ k. []; answers = [] }

-- a call: a frame handed to a ledger, with the two buffers it is lent
pub record Call : Type 0 where
  pub to : ℕ
  pub frame : List ℕ
  pub outgoing : List ℕ
  pub list : List ℕ

-- with the value at k replaced
abbrev pub replaced : {A : Type 0} → (ℕ → A) → ℕ → A → ℕ → A
replaced f k x j = cond (eqb j k) x (f j)

-- [G4, G15] a call steps on what its ledger gave back before; a PROPOSE was written where there are recipients; the first `postings`
-- places of the list as handed back go to the end of the log
unfoldable pub called : World → Call → World
called w c =
    let o = step (w.ledgers c.to) c.frame c.outgoing c.list in
    record {
      ledgers = replaced w.ledgers c.to o.state;
      written = cond (eqb o.recipients 0) w.written (record { frame = take (total propose.kind) o.outgoing; recipients = o.recipients } ∷ w.written);
      logs = replaced w.logs c.to (w.logs c.to ++ take o.postings o.list);
      answers = o.answer ∷ w.answers;
    }

-- the group after a list of calls, the newest first
unfoldable pub after : ℕ → List Call → World
after n [] = start n
after n (c ∷ cs) = called (after n cs) c

-- [G5] the MULTICAST copy of a payment
abbrev pub multicast_copy : Entry → List ℕ
multicast_copy e = frame_bytes (values_of (Multicast (record { 0 = e.number }) e.destinations))

-- [G5, B3] a MULTICAST copy of a payment, for one of its destinations
pub record OfDesk (table : List Entry) (c : Call) : Type 0 where
  pub entry : Entry
  pub in_table : In entry table
  pub frame : c.frame ≡ multicast_copy entry
  pub destination : has entry.destinations c.to ≡ true

-- [G5] a copy of a PROPOSE that an earlier step wrote, for one of its recipients
pub record OfLedger (w : World) (c : Call) : Type 0 where
  pub propose : Written
  pub written : In propose w.written
  pub frame : c.frame ≡ propose.frame
  pub recipient : has propose.recipients c.to ≡ true

-- [G6] what may be handed in: any such copy, whenever and as often as one likes (so does a desk that tries again), to a ledger of the
-- group, with buffers that have room [G4]
pub record May (n : ℕ) (table : List Entry) (w : World) (c : Call) : Type 0 where
  pub ledger : (1 ≤ c.to) × (c.to ≤ n)
  pub outgoing : total propose.kind ≤ length c.outgoing
  pub list : limit ≤ length c.list
  pub copy : OfDesk table c ⊎ OfLedger w c

-- calls, the newest first, each of which may be made after those before it
abbrev pub Calls : ℕ → List Entry → List Call → Type 0
Calls n table [] = Unit {0}
Calls n table (c ∷ cs) = May n table (after n cs) c × Calls n table cs

-- a run of N ledgers with the payments of the table
pub record Run (n : ℕ) (table : List Entry) (cs : List Call) : Type 0 where
  pub lawful : Lawful n table
  pub calls : Calls n table cs

-- [G3] a run of no more payments in all than a ledger can hold: what demand 3 is worded for
pub record RunInAll (n : ℕ) (table : List Entry) (cs : List Call) : Type 0 where
  pub lawful : LawfulInAll n table
  pub calls : Calls n table cs
