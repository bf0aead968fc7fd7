-- Rule 4: which stamped payments are posted, and in which order [R41 to R44].
-- Assumes nothing.
use Rattle.std.specs.Prelude.{ℕ, Option, Some, None, List, map, ◌++◌, Bool, cond, not, ◌&&◌, length, drop, eqb, ltb}
use Rattle.common.specs.Places.{any, listed}
use Rattle.common.specs.Order.{least, sorted}
use Rattle.payment.specs.Payments.{in_phase, is_proposed, is_stamped, posted, proposal, stamp_of}
use Rattle.payment.specs.Stamps.{below}
use Rattle.payment.specs.declared.Payment.{Payment}
use Rattle.payment.specs.declared.Stamp.{Stamp}
use Rattle.held.specs.Held.{at, limit}
use Rattle.posting.specs.declared.Posted.{Posted}

-- [R42] a payment holds a stamp back: it is in phase proposed, and its own proposal is below the stamp
unfoldable pub holds_back : ℕ → Stamp → Payment → Bool
holds_back own stamp p = is_proposed p && below (proposal p.times own) stamp

-- [R42] a stamp is held back while there is a payment that does it
abbrev pub held_back : List Payment → ℕ → Stamp → Bool
held_back payments own stamp = any limit (λ j. holds_back own stamp (at payments j))

-- [R43] free to post: stamped, not posted, and not held back
unfoldable pub is_free : List Payment → ℕ → ℕ → Bool
is_free payments own i =
    is_stamped (at payments i) && not (held_back payments own (stamp_of (at payments i)))

-- [S9] whatever is stamped and not posted is held back
abbrev pub none_free : List Payment → ℕ → Bool
none_free payments own = not (any limit (is_free payments own))

-- [N5] the order of posting: by stamp
abbrev pub before : List Payment → ℕ → ℕ → Bool
before payments i j = below (stamp_of (at payments i)) (stamp_of (at payments j))

-- [R43, X5] for the code, which posts one after the other: the place of the next, free and of the lowest stamp, where there is one
abbrev pub first_free : List Payment → ℕ → Option ℕ
first_free payments own =
    let i = least limit (before payments) (is_free payments own) limit in cond (eqb i limit) None (Some i)

-- [R43] the places of all that are free, the lowest stamp first
abbrev pub to_post : List Payment → ℕ → List ℕ
to_post payments own = sorted (before payments) (is_free payments own) limit

-- [R43] all that are free are posted; every other payment is as it was
unfoldable pub after_posting : List Payment → ℕ → List Payment
after_posting payments own =
    listed limit (λ i. cond (is_free payments own i) (in_phase posted (at payments i)) (at payments i))

-- [R44] their numbers, in the order of posting
abbrev pub numbers : List Payment → ℕ → List ℕ
numbers payments own = map (λ i. (at payments i).number.0) (to_post payments own)

-- what posting leaves: the payments, how many were posted, and the whole posting list
pub record Posting : Type 0 where
  pub payments : List Payment
  pub count : ℕ
  pub list : List ℕ

abbrev pub left : Posted → List ℕ → Posting
left r list = record { payments = r.payments; count = r.count; list = list }

-- [R44, R4] the numbers are put at the front of the list, and the rest of it stays
abbrev pub written : List Payment → ℕ → List ℕ → Posting
written payments own list =
    let ns = numbers payments own in
    record { payments = after_posting payments own; count = length ns; list = ns ++ drop (length ns) list }

-- the promise of the code's post: into a list that is too short nothing is posted (ours: the step has answered 2 before)
unfoldable pub posting : List Payment → ℕ → List ℕ → Posting
posting payments own list =
    cond (ltb (length list) limit) (record { payments = payments; count = 0; list = list }) (written payments own list)
