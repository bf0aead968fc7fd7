-- Demand 3: what is claimed of every run [G8 to G15].
-- Assumes nothing.
use Rattle.std.specs.Prelude.{ℕ, ◌<◌, ◌≤◌, ◌≡◌, List, [], ◌∷◌, ◌++◌, true, ◌⊎◌}
use Rattle.ledgers.specs.Ledgers.{has}
use Rattle.payment.specs.Payments.{has_stamp, stamp_of}
use Rattle.payment.specs.Stamps.{below}
use Rattle.payment.specs.declared.Payment.{Payment}
use Rattle.payment.specs.declared.Stamp.{Stamp}
use Rattle.held.specs.Held.{at, limit}
use Rattle.ledger.specs.declared.Ledger.{Ledger}
use Rattle.common.specs.Places.{In}
use Rattle.agreement.specs.Run.{Call, Calls, Entry, Run, RunInAll, World, Written, after, multicast_copy}

-- a ledger holds payment m, and P is so of it
pub record Holds (l : Ledger) (m : ℕ) (P : Payment → Type 0) : Type 0 where
  pub at_place : ℕ
  pub within : at_place < limit
  pub used : at_place < l.count
  pub number : (at l.payments at_place).number.0 ≡ m
  pub so : P (at l.payments at_place)

-- stamped or posted, with stamp s
abbrev pub WithStamp : Stamp → Payment → Type 0
WithStamp s p = (has_stamp p ≡ true) × (stamp_of p ≡ s)

-- a ledger holds payment m with stamp s
abbrev pub HasStamp : Ledger → ℕ → Stamp → Type 0
HasStamp l m s = Holds l m (WithStamp s)

-- at a ledger, the stamp of payment x is below that of payment y
pub record Earlier (l : Ledger) (x y : ℕ) : Type 0 where
  pub first : Stamp
  pub second : Stamp
  pub of-first : HasStamp l x first
  pub of-second : HasStamp l y second
  pub below-it : below first second ≡ true

-- x stands before y in a list
abbrev pub Precedes : ℕ → ℕ → List ℕ → Type 0
Precedes x y [] = ⊥
Precedes x y (z ∷ zs) = ((x ≡ z) × In y zs) ⊎ Precedes x y zs

-- payment m of the table has ledger k among its destinations
pub record Addressed (table : List Entry) (k m : ℕ) : Type 0 where
  pub entry : Entry
  pub in_table : In entry table
  pub number : entry.number ≡ m
  pub destination : has entry.destinations k ≡ true

-- a frame was handed to ledger k
pub record HandedIn (frame : List ℕ) (k : ℕ) (cs : List Call) : Type 0 where
  pub call : Call
  pub among : In call cs
  pub to : call.to ≡ k
  pub bytes : call.frame ≡ frame

-- [G7] every copy is handed in: that of each payment to each destination, and that of each written PROPOSE to each
-- recipient, at least once
pub record AllHandedIn (n : ℕ) (table : List Entry) (cs : List Call) : Type 0 where
  pub multicasts : (e : Entry) → In e table → (k : ℕ) → has e.destinations k ≡ true → HandedIn (multicast_copy e) k cs
  pub proposes : (x : Written) → In x (after n cs).written → (k : ℕ) → has x.recipients k ≡ true → HandedIn x.frame k cs

-- ledger k is one of the group
abbrev pub OfGroup : ℕ → ℕ → Type 0
OfGroup n k = (1 ≤ k) × (k ≤ n)

-- [G14] what has been stamped or posted stays so: every stamp is kept, and what was posted stays at the beginning of the log
pub record Stays (k : ℕ) (now later : World) : Type 0 where
  pub stamps : (m : ℕ) (s : Stamp) → HasStamp (now.ledgers k) m s → HasStamp (later.ledgers k) m s
  pub added : List ℕ
  pub log : later.logs k ≡ now.logs k ++ added

-- demand 3, after the calls cs of a run
pub record Demand3 (n : ℕ) (table : List Entry) (cs : List Call) : Type 0 where
  -- [G8] taken or a repeat: nothing else is answered
  pub answers : (a : ℕ) → In a (after n cs).answers → (a ≡ 0) ⊎ (a ≡ 9)
  -- [G9] two ledgers that have stamped a payment have the same stamp for it
  pub one-stamp : (j k m : ℕ) (s r : Stamp) → OfGroup n j → OfGroup n k
      → HasStamp ((after n cs).ledgers j) m s → HasStamp ((after n cs).ledgers k) m r → s ≡ r
  -- [G10] two payments have different stamps, at one ledger or at two
  pub no-two-alike : (j k x y : ℕ) (s : Stamp) → OfGroup n j → OfGroup n k
      → HasStamp ((after n cs).ledgers j) x s → HasStamp ((after n cs).ledgers k) y s → x ≡ y
  -- [G11] of two postings of a ledger the earlier has the lower stamp
  pub rising : (k x y : ℕ) → OfGroup n k → Precedes x y ((after n cs).logs k) → Earlier ((after n cs).ledgers k) x y
  -- [G11, G13] so no payment is posted twice
  pub once : (k x : ℕ) → OfGroup n k → Precedes x x ((after n cs).logs k) → ⊥
  -- [G12] and two ledgers post what both post in the same order
  pub same-order : (j k x y : ℕ) → OfGroup n j → OfGroup n k → Precedes x y ((after n cs).logs j)
      → In x ((after n cs).logs k) → In y ((after n cs).logs k) → Precedes x y ((after n cs).logs k)
  -- [G12] and nothing is missing before what is posted: a payment for this ledger whose stamp, at whatever ledger, is below has been posted
  pub no_gaps : (j k x y : ℕ) (s r : Stamp) → OfGroup n j → OfGroup n k → Addressed table k x → HasStamp ((after n cs).ledgers j) x s
      → In y ((after n cs).logs k) → HasStamp ((after n cs).ledgers k) y r → below s r ≡ true → Precedes x y ((after n cs).logs k)
  -- [G11] what is posted has a stamp
  pub stamped : (k m : ℕ) → OfGroup n k → In m ((after n cs).logs k) → (s : Stamp) × HasStamp ((after n cs).ledgers k) m s
  -- [G13] a ledger posts only its payments
  pub only-its : (k m : ℕ) → OfGroup n k → In m ((after n cs).logs k) → Addressed table k m
  -- [G13] of which a MULTICAST copy was handed to it
  pub asked : (k m : ℕ) → OfGroup n k → In m ((after n cs).logs k) → (e : Entry) × In e table × (e.number ≡ m) × HandedIn (multicast_copy e) k cs
  -- [G13] when every copy is handed in, a ledger has posted all that is for it (with the fields above: just this, and nothing twice)
  pub all-posted : AllHandedIn n table cs → (k m : ℕ) → OfGroup n k → Addressed table k m → In m ((after n cs).logs k)
  -- [G14] what has been stamped or posted stays so in every longer run
  pub stays : (ds : List Call) → Calls n table (ds ++ cs) → (k : ℕ) → OfGroup n k → Stays k (after n cs) (after n (ds ++ cs))

-- demand 3 is of every run
abbrev pub Agreement : Type 0
Agreement = (n : ℕ) (table : List Entry) (cs : List Call) → Run n table cs → Demand3 n table cs

-- [G3] and of every run of no more payments in all than a ledger can hold
abbrev pub AgreementInAll : Type 0
AgreementInAll = (n : ℕ) (table : List Entry) (cs : List Call) → RunInAll n table cs → Demand3 n table cs

-- [G7] and every run can be gone on with until every copy is handed in
abbrev pub Completion : Type 0
Completion = (n : ℕ) (table : List Entry) (cs : List Call) → Run n table cs
    → (ds : List Call) × Run n table (ds ++ cs) × AllHandedIn n table (ds ++ cs)
