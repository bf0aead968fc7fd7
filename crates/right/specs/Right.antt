-- What soundness asks of one payment, and of two [S2 to S8].
-- Assumes nothing.
use Rattle.std.specs.Prelude.{ℕ, suc, Bool, cond, not, ◌&&◌, eqb, ltb}
use Rattle.common.specs.Places.{every}
use Rattle.payment.specs.Payments.{all_heard, has_stamp, heard_from, is_proposed, is_time, is_waiting, keeps, stamp_is_of, stamp_of, time_from}
use Rattle.ledgers.specs.Ledgers.{has, most_ledgers, unlawful}
use Rattle.payment.specs.declared.Payment.{Payment}

-- [S2] the number is not 0
abbrev pub number_not_zero : Payment → Bool
number_not_zero p = not (eqb p.number.0 0)

-- [S3] the destinations are not refused here
abbrev pub lawful : ℕ → ℕ → Payment → Bool
lawful group own p = not (unlawful group own p.destinations)

-- [S4] of ledger k: if it was heard it is a destination, and a time is kept from it; if it was not, 0 is kept
abbrev pub time_right : Payment → ℕ → Bool
time_right p k = cond (heard_from p k) (has p.destinations k && is_time (time_from p k)) (eqb (time_from p k) 0)

-- [S4] so it is of every ledger
unfoldable pub heard_right : Payment → Bool
heard_right p = every most_ledgers (λ k. time_right p (suc k))

-- [S7] neither the own time nor the time in the stamp is later than the clock
unfoldable pub not_above_clock : ℕ → ℕ → Payment → Bool
not_above_clock own clock p =
    not (heard_from p own && ltb clock (time_from p own)) && not (has_stamp p && ltb clock (stamp_of p).time.0)

-- [S8] waiting: another is heard, this one is not; proposed: this one is heard, another is not; stamped or posted: all are heard
-- (since only destinations are heard [S4]: somebody and not own is another; own and not all leaves another out)
unfoldable pub phase_right : ℕ → Payment → Bool
phase_right own p =
    cond (is_waiting p) (not (heard_from p own) && not (eqb p.heard 0))
    (cond (is_proposed p) (heard_from p own && not (all_heard p)) (has_stamp p && all_heard p))

-- [S5, K6] a place not in use: zero all through, and so waiting
unfoldable pub unused : Payment → Bool
unused p =
    eqb p.number.0 0
    && (eqb p.destinations 0
    && (eqb p.heard 0 && (is_waiting p && every most_ledgers (λ k. eqb (time_from p (suc k)) 0))))

-- [S2] two payments have different numbers
abbrev pub numbers_differ : Payment → Payment → Bool
numbers_differ p q = not (eqb p.number.0 q.number.0)

-- [S6] no ledger has a time that is kept for both payments, proposed or in a stamp
unfoldable pub times_differ : Payment → Payment → Bool
times_differ p q =
    every most_ledgers
    (λ k. not (heard_from p (suc k) && keeps q (suc k) (time_from p (suc k)))
    && not (stamp_is_of p (suc k) && keeps q (suc k) (stamp_of p).time.0))

-- for the code: what is asked of one held payment, all at once
abbrev pub right : ℕ → ℕ → ℕ → Payment → Bool
right group own clock p =
    number_not_zero p && (lawful group own p && (heard_right p && (not_above_clock own clock p && phase_right own p)))

-- for the code: what is asked of two held payments, all at once
abbrev pub apart : Payment → Payment → Bool
apart p q = numbers_differ p q && times_differ p q
