-- The payments that a ledger holds, each at its place [K2, K3].
-- Assumes nothing.
use Rattle.std.specs.Prelude.{ℕ, Option, Some, None, List, [], Bool, cond, not, ◌&&◌, get_or, eqb, ltb}
use Rattle.common.specs.Places.{any, first}
use Rattle.payment.specs.Payments.{keeps}
use Rattle.payment.specs.declared.Payment.{Payment}

-- [K2] the most payments that a ledger holds
abbrev pub limit : ℕ
limit = 32

-- what stands beyond the last place
abbrev pub no_payment : Payment
no_payment = record { number = record { 0 = 0 }; destinations = 0; heard = 0; times = []; phase = 0 }

-- the payment at a place
abbrev pub at : List Payment → ℕ → Payment
at payments i = get_or payments i no_payment

-- the payment at a place has this number
abbrev pub is_number : List Payment → ℕ → ℕ → Bool
is_number payments number i = eqb (at payments i).number.0 number

-- the place of the payment of this number, which is not 0 (an unused place has number 0); the limit where it is not held
abbrev pub place_of : List Payment → ℕ → ℕ
place_of payments number = first limit (is_number payments number)

-- [A10] a payment of this number, which is not 0, is held
abbrev pub holds : List Payment → ℕ → Bool
holds payments number = ltb (place_of payments number) limit

-- its place, where it is held
abbrev pub found_at : List Payment → ℕ → Option ℕ
found_at payments number = cond (holds payments number) (Some (place_of payments number)) None

-- [A8] the payment at a place has another number, and ledger k's time t is kept for it, proposed or in its stamp
abbrev pub is_for_another : List Payment → ℕ → ℕ → ℕ → ℕ → Bool
is_for_another payments number k t i = not (is_number payments number i) && keeps (at payments i) k t

-- [A8] ledger k's time t is kept for another payment than this number's
abbrev pub held_for_another : List Payment → ℕ → ℕ → ℕ → Bool
held_for_another payments number k t = any limit (is_for_another payments number k t)
