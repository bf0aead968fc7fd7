-- When a state is sound, clause by clause [S1 to S11]. That there are as many places as the limit, eight times in
-- each and one byte of heard ledgers is said by the types: crate soundness, Shaped.
-- Assumes nothing.
use Rattle.std.specs.Prelude.{Bool, ◌&&◌, leb}
use Rattle.ledgers.specs.Ledgers.{is_ledger_of}
use Rattle.payment.specs.Payments.{last_time}
use Rattle.right.specs.Right.{heard_right, lawful, not_above_clock, number_not_zero, numbers_differ, times_differ, phase_right}
use Rattle.payment.specs.declared.Payment.{Payment}
use Rattle.held.specs.Held.{limit}
use Rattle.posting.specs.Posting.{none_free}
use Rattle.checked.specs.Checked.{held_all, held_pairs, posted_below, unused_all}
use Rattle.ledger.specs.declared.Ledger.{Ledger}

-- [S1] N, own number, clock and count lie within their bounds
abbrev pub in_range : Ledger → Bool
in_range l = is_ledger_of l.group l.own.0 && (leb l.clock.0 last_time && leb l.count limit)

-- of each held payment
abbrev pub each : Ledger → (Payment → Bool) → Bool
each l f = held_all l.payments l.count f

-- of each two held payments
abbrev pub pairs : Ledger → (Payment → Payment → Bool) → Bool
pairs l f = held_pairs l.payments l.count f

unfoldable pub sound : Ledger → Bool
sound l =
    -- [S1] bounds
    in_range l
    -- [S2] the numbers, which differ and are not 0; then [S3] the destinations
    && (pairs l numbers_differ
    && (each l number_not_zero
    && (each l (lawful l.group l.own.0)
    -- [S4] who was heard, and the times
    && (each l heard_right
    -- [S5] the places not in use
    && (unused_all l.payments l.count
    -- [S6] no time twice
    && (pairs l times_differ
    -- [S7] nothing is ahead of the clock
    && (each l (not_above_clock l.own.0 l.clock.0)
    -- [S8] each phase fits who was heard
    && (each l (phase_right l.own.0)
    -- [S9] whatever is stamped and not posted is held back
    && (none_free l.payments l.own.0
    -- [S10] what is posted is before what is stamped, and [S11] before what is proposed
    && posted_below l.payments l.own.0)))))))))
