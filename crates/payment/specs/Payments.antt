-- What is kept for each payment [K4 to K6], and which numbers are times [N3].
-- Assumes nothing.
use Rattle.std.specs.Prelude.{ℕ, zero, suc, List, Bool, cond, ◌&&◌, ◌||◌, get_or, replicate, set, eqb, leb, ltb}
use Rattle.frame.specs.declared.Time.{Time}
use Rattle.ledgers.specs.Ledgers.{has, most_ledgers, with}
use Rattle.payment.specs.Stamps.{below}
use Rattle.payment.specs.declared.Stamp.{Stamp}
use Rattle.payment.specs.declared.Payment.{Payment}

-- [N3] the last time
abbrev pub last_time : ℕ
last_time = 60000

abbrev pub is_time : ℕ → Bool
is_time t = leb 1 t && leb t last_time

abbrev pub no_time : Time
no_time = record { 0 = 0 }

abbrev pub no_stamp : Stamp
no_stamp = record { time = no_time; ledger = record { 0 = 0 } }

-- [K4] the time kept from ledger k; 0, which is no time, where there is no such ledger
unfoldable pub time_in : List Time → ℕ → Time
time_in times zero = no_time
time_in times (suc k) = cond (ltb k most_ledgers) (get_or times k no_time) no_time

-- [N4] the proposal of ledger k, as a stamp: its time with its number
abbrev pub proposal : List Time → ℕ → Stamp
proposal times k = record { time = time_in times k; ledger = record { 0 = k } }

-- [R31] the highest proposal [N5] of those heard from the ledgers 1 to k; none, all zero, where none was heard
unfoldable pub greatest : List Time → ℕ → ℕ → Stamp
greatest times heard zero = no_stamp
greatest times heard (suc k) =
    let best = greatest times heard k in
    cond (has heard (suc k) && below best (proposal times (suc k))) (proposal times (suc k)) best

-- [K4] whether ledger k was heard, and the time that it proposed
abbrev pub heard_from : Payment → ℕ → Bool
heard_from p k = has p.heard k

abbrev pub time_from : Payment → ℕ → ℕ
time_from p k = (time_in p.times k).0

-- [R31] the highest proposal heard: the stamp, once there is one (it is not stored beside the times, which then never change)
abbrev pub stamp_of : Payment → Stamp
stamp_of p = greatest p.times p.heard most_ledgers

-- [R31] all destinations are heard: no more can be, since only destinations are [S4]
abbrev pub all_heard : Payment → Bool
all_heard p = eqb p.heard p.destinations

-- [K5] the phases; waiting is 0, since a place not in use is all zero and counts as waiting [K6]
abbrev pub waiting : ℕ
waiting = 0

abbrev pub proposed : ℕ
proposed = 1

abbrev pub stamped : ℕ
stamped = 2

abbrev pub posted : ℕ
posted = 3

abbrev pub is_waiting : Payment → Bool
is_waiting p = eqb p.phase waiting

abbrev pub is_proposed : Payment → Bool
is_proposed p = eqb p.phase proposed

abbrev pub is_stamped : Payment → Bool
is_stamped p = eqb p.phase stamped

abbrev pub is_posted : Payment → Bool
is_posted p = eqb p.phase posted

abbrev pub has_stamp : Payment → Bool
has_stamp p = is_stamped p || is_posted p

-- the payment's stamp is of ledger k (0 is no ledger)
abbrev pub stamp_is_of : Payment → ℕ → Bool
stamp_is_of p k = has_stamp p && (leb 1 k && eqb (stamp_of p).ledger.0 k)

-- ledger k's time t is held for the payment as a proposal
abbrev pub has_proposal : Payment → ℕ → ℕ → Bool
has_proposal p k t = heard_from p k && eqb (time_from p k) t

-- [A8, S6] ledger k's time t is kept for the payment, proposed or in its stamp (which is always one of the proposals)
abbrev pub keeps : Payment → ℕ → ℕ → Bool
keeps p k t = has_proposal p k t || (stamp_is_of p k && eqb (stamp_of p).time.0 t)

-- [K4] the payment with ledger k's time kept
unfoldable pub hear : Payment → ℕ → Time → Payment
hear p zero t = p
hear p (suc k) t =
    cond (ltb k most_ledgers)
    (record {
      number = p.number;
      destinations = p.destinations;
      heard = with p.heard (suc k);
      times = set p.times k t;
      phase = p.phase;
    })
    p

-- [R11, R21] a payment that comes in: nothing is heard, and it is waiting
abbrev pub new_payment : ℕ → ℕ → Payment
new_payment number destinations =
    record {
      number = record { 0 = number };
      destinations = destinations;
      heard = 0;
      times = replicate most_ledgers no_time;
      phase = waiting;
    }

-- [K5] the payment in another phase
abbrev pub in_phase : ℕ → Payment → Payment
in_phase phase p =
    record { number = p.number; destinations = p.destinations; heard = p.heard; times = p.times; phase = phase }
