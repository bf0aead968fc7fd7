-- One name for all that a step computes with: a proof that computes a step says `unfolding computing`.
-- Assumes nothing.
use Rattle.common.specs.Bits.{bits, with_bit, without_bit}
use Rattle.common.specs.Order.{insert, sorted}
use Rattle.common.specs.Places.{any, count, every, first, listed, same_numbers}
use Rattle.frame.specs.Digits.{bytes_of, number_of, pack, sum, unpack}
use Rattle.frame.specs.Frames.{body, known, not_a_frame, writing_of}
use Rattle.ledgers.specs.Ledgers.{has, unlawful, with, without}
use Rattle.payment.specs.Payments.{greatest, hear, time_in}
use Rattle.payment.specs.Stamps.{below}
use Rattle.right.specs.Right.{heard_right, not_above_clock, phase_right, times_differ, unused}
use Rattle.posting.specs.Posting.{after_posting, holds_back, is_free}
use Rattle.checked.specs.Checked.{comes_after}
use Rattle.refusals.specs.Refusals.{first_given}
use Rattle.ledger.specs.Sound.{sound}
use Rattle.ledger.specs.State.{set_up}
use Rattle.ledger.specs.Step.{multicast_rule, post_rule, propose_rule, stamp_rule, step}

unfoldable pub computing : Unit {0}
unfolding
    step post_rule stamp_rule propose_rule multicast_rule set_up sound first_given
    after_posting is_free holds_back comes_after
    below unused phase_right times_differ not_above_clock heard_right unlawful time_in hear greatest has with without
    writing_of not_a_frame known body unpack sum pack number_of bytes_of
    any count every first listed same_numbers insert sorted bits with_bit without_bit
computing = tt
