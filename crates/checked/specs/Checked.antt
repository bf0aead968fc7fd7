-- What soundness asks of the held payments together [S2 to S8, S10, S11].
-- Assumes nothing.
use Rattle.std.specs.Prelude.{ℕ, List, Bool, not, ◌&&◌, ◌||◌, leb, ltb}
use Rattle.common.specs.Places.{every}
use Rattle.payment.specs.Payments.{is_posted, is_proposed, is_stamped, proposal, stamp_of}
use Rattle.right.specs.Right.{apart, right, unused}
use Rattle.payment.specs.Stamps.{below}
use Rattle.payment.specs.declared.Payment.{Payment}
use Rattle.payment.specs.declared.Stamp.{Stamp}
use Rattle.held.specs.Held.{at, limit}

-- [S5] f holds of the payment at a place, where the place is in use: the count tells how many of the first places are
abbrev pub held_at : List Payment → ℕ → (Payment → Bool) → ℕ → Bool
held_at payments count f i = leb count i || f (at payments i)

-- of every held payment
abbrev pub held_all : List Payment → ℕ → (Payment → Bool) → Bool
held_all payments count f = every limit (held_at payments count f)

-- f holds of the payment at a place with each before it, where the place is used
abbrev pub paired_at : List Payment → ℕ → (Payment → Payment → Bool) → ℕ → Bool
paired_at payments count f i = leb count i || every i (λ j. f (at payments i) (at payments j))

-- of every two held payments, each pair once
abbrev pub held_pairs : List Payment → ℕ → (Payment → Payment → Bool) → Bool
held_pairs payments count f = every limit (paired_at payments count f)

-- [S5] the place is in use, or all zero
abbrev pub unused_at : List Payment → ℕ → ℕ → Bool
unused_at payments count i = ltb i count || unused (at payments i)

-- [S5] every place from the count on is all zero (that those before it are in use is said by their numbers, which are not 0 [S2])
abbrev pub unused_all : List Payment → ℕ → Bool
unused_all payments count = every limit (unused_at payments count)

-- [S10, S11] a payment may stand unposted beside a posted stamp: if it is stamped, its stamp is higher; if it is proposed, its own
-- proposal is higher; of any other nothing is asked
unfoldable pub comes_after : ℕ → Stamp → Payment → Bool
comes_after own stamp p =
    (not (is_stamped p) || below stamp (stamp_of p)) && (not (is_proposed p) || below stamp (proposal p.times own))

-- where p is posted, every payment comes after it
abbrev pub below_all : List Payment → ℕ → Payment → Bool
below_all payments own p = not (is_posted p) || every limit (λ j. comes_after own (stamp_of p) (at payments j))

-- [S10, S11] so it is of each that is posted
abbrev pub posted_below : List Payment → ℕ → Bool
posted_below payments own = every limit (λ i. below_all payments own (at payments i))

-- for the code: what soundness asks of the held payments, in the order of its checks; ledger/Sound has the clauses one by one
unfoldable pub held_right : List Payment → ℕ → ℕ → ℕ → ℕ → Bool
held_right payments count group own clock =
    held_all payments count (right group own clock)
    && (held_pairs payments count apart && (unused_all payments count && posted_below payments own))
