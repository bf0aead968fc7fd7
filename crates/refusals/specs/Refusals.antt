-- The rows of the table that judge a frame [A3 to A11], in their order. Each says what it reads of the ledger.
-- Assumes nothing.
use Rattle.std.specs.Prelude.{ℕ, ◌<◌, ◌≡◌, List, [], ◌∷◌, Bool, true, false, cond, not, ◌&&◌, ◌||◌, get_or, length, eqb, ltb}
use Rattle.std.specs.Prelude.{Option, Some, None, Result, Ok, Err}
use Rattle.std.specs.Option.{option_map}
use Rattle.frame.specs.Frames.{Values, frame_values, not_a_frame, propose, values_of}
use Rattle.frame.specs.declared.Frame.{Frame}
use Rattle.ledgers.specs.Ledgers.{has, unlawful}
use Rattle.payment.specs.Payments.{has_proposal, heard_from, is_time, is_waiting, last_time, new_payment, time_from}
use Rattle.payment.specs.declared.Payment.{Payment}
use Rattle.held.specs.Held.{at, found_at, held_for_another, holds, limit, place_of}
use Rattle.refusals.specs.declared.Incoming.{Incoming}
use Rattle.refusals.specs.declared.Judged.{Judged}
use Rattle.refusals.specs.declared.Refusal.{Refusal}
use Rattle.refusals.specs.declared.Refused.{Refused}
use Rattle.refusals.specs.declared.Refusal.TheVariants.{Unsound, TooShort, NotAFrame, PaymentZero, Unlawful, BadSource, BadTime}
use Rattle.refusals.specs.declared.Refusal.TheVariants.{Conflict, Repeat, Full, ClockAtEnd}

-- a row of the table: the number, and whether its condition holds
pub record Row : Type 0 where
  pub no : ℕ
  pub given : Bool

abbrev pub row : ℕ → Bool → Row
row n b = record { no = n; given = b }

-- [T1] the first that applies; 0 where none does
unfoldable pub first_given : List Row → ℕ
first_given [] = 0
first_given (r ∷ rs) = cond r.given r.no (first_given rs)

-- the row at place k, counted from 0, applies
abbrev pub applies : List Row → ℕ → Bool
applies rs k = (get_or rs k (row 0 false)).given

-- [T2] it applies, and none before it does
pub record First (rs : List Row) (k : ℕ) : Type 0 where
  pub inside : k < length rs
  pub so : applies rs k ≡ true
  pub none_before : (j : ℕ) → j < k → applies rs j ≡ false

-- [P5] the number of each refusal
abbrev pub no_of : Refusal → ℕ
no_of Unsound = 1
no_of TooShort = 2
no_of NotAFrame = 3
no_of PaymentZero = 4
no_of Unlawful = 5
no_of BadSource = 6
no_of BadTime = 7
no_of Conflict = 8
no_of Repeat = 9
no_of Full = 10
no_of ClockAtEnd = 11

-- [P5, T1] the number of an answer: 0 where nothing is refused
abbrev pub answer_no : Result (Unit {0}) Refusal → ℕ
answer_no (Ok taken) = 0
answer_no (Err refusal) = no_of refusal

-- the frame's values by name; a MULTICAST has no source and no time: 0
abbrev pub incoming : Values → Incoming
incoming v =
    record {
      kind = v.kind;
      payment = record { 0 = get_or v.numbers 0 0 };
      destinations = get_or v.numbers 1 0;
      source = record { 0 = get_or v.numbers 2 0 };
      time = record { 0 = get_or v.numbers 3 0 };
    }

-- a frame that was read
abbrev pub received : Frame → Incoming
received f = incoming (values_of f)

-- the frame is a PROPOSE; any other that was read is a MULTICAST
abbrev pub is_propose : Incoming → Bool
is_propose f = eqb f.kind propose.kind

-- the place of the payment of the frame's number
abbrev pub found : List Payment → Incoming → ℕ
found payments f = place_of payments f.payment.0

-- a payment is held under the frame's number
abbrev pub is_held : List Payment → Incoming → Bool
is_held payments f = holds payments f.payment.0

-- that payment
abbrev pub held_one : List Payment → Incoming → Payment
held_one payments f = at payments (found payments f)

-- [A6] a PROPOSE whose source is no ledger of the group, no destination, or this very ledger
abbrev pub bad_source : ℕ → ℕ → Incoming → Bool
bad_source group own f =
    is_propose f
    && (eqb f.source.0 0
    || (ltb group f.source.0 || (not (has f.destinations f.source.0) || eqb f.source.0 own)))

-- [A7] a PROPOSE whose time is 0 or later than the last one
abbrev pub bad_time : Incoming → Bool
bad_time f = is_propose f && not (is_time f.time.0)

-- [A8] the payment is held, and its destinations are others than the frame says
abbrev pub other_destinations : List Payment → Incoming → Bool
other_destinations payments f = is_held payments f && not (eqb (held_one payments f).destinations f.destinations)

-- [A8] the source has been heard for the payment, with a different time
abbrev pub another_time : List Payment → Incoming → Bool
another_time payments f =
    is_held payments f
    && (heard_from (held_one payments f) f.source.0 && not (eqb (time_from (held_one payments f) f.source.0) f.time.0))

-- [A8] the frame goes against what is held: other destinations; or, of a PROPOSE, a different time of its source for the payment, or its
-- time kept for a different payment
abbrev pub conflict : List Payment → Incoming → Bool
conflict payments f =
    other_destinations payments f
    || (is_propose f && (another_time payments f || held_for_another payments f.payment.0 f.source.0 f.time.0))

-- [A9] a frame brings nothing new to a payment: a PROPOSE whose time is kept, or a MULTICAST when it is no longer waiting
abbrev pub repeats : Payment → Incoming → Bool
repeats p f = cond (is_propose f) (has_proposal p f.source.0 f.time.0) (not (is_waiting p))

-- [A9] a repeat
abbrev pub repeat : List Payment → Incoming → Bool
repeat payments f = is_held payments f && repeats (held_one payments f) f

-- [A10] the payment is not held, and as many are as can be
abbrev pub no_room : ℕ → List Payment → Incoming → Bool
no_room count payments f = not (is_held payments f) && eqb count limit

-- [A11] a MULTICAST, and the clock has no next time
abbrev pub clock_at_end : ℕ → Incoming → Bool
clock_at_end clock f = not (is_propose f) && eqb clock last_time

-- [A4 to A11] the rows that judge values; the first of them refuses payment number 0
abbrev pub rows : ℕ → ℕ → ℕ → ℕ → List Payment → Incoming → List Row
rows group own clock count payments f =
    row 4 (eqb f.payment.0 0)
    ∷ row 5 (unlawful group own f.destinations)
    ∷ row 6 (bad_source group own f)
    ∷ row 7 (bad_time f)
    ∷ row 8 (conflict payments f)
    ∷ row 9 (repeat payments f)
    ∷ row 10 (no_room count payments f)
    ∷ row 11 (clock_at_end clock f)
    ∷ []

-- [A3 to A11] the rows that judge a frame: that the bytes are none, and then those of its values
abbrev pub frame_rows : ℕ → ℕ → ℕ → ℕ → List Payment → List ℕ → List Row
frame_rows group own clock count payments bytes =
    row 3 (not_a_frame bytes) ∷ rows group own clock count payments (incoming (frame_values bytes))

-- [R11, R21] the frame's payment: the one that is held, or a new one
abbrev pub payment_in : List Payment → Incoming → Payment
payment_in payments f = cond (is_held payments f) (held_one payments f) (new_payment f.payment.0 f.destinations)

-- [K3] its place: a new one goes behind the held ones, which in a sound state is the first place not in use
abbrev pub place_in : ℕ → List Payment → Incoming → ℕ
place_in count payments f = cond (is_held payments f) (found payments f) count

-- for the code: a frame with its payment, the held one at its place, or a new one
abbrev pub looked_up : List Payment → Frame → Judged
looked_up payments f =
    record { frame = f; place = found_at payments (received f).payment.0; payment = payment_in payments (received f) }

-- what is known of a frame: its values, its place where its payment is held, and that payment or a new one
pub record Known : Type 0 where
  pub frame : Values
  pub place : Option ℕ
  pub payment : Payment

-- what judging tells: the answer, and what is known where the bytes are a frame
pub record Judgement : Type 0 where
  pub answer : ℕ
  pub known : Option Known

-- [P5] what the code knows of a frame, by the numbers of the rules
abbrev pub known_of : Judged → Known
known_of j = record { frame = values_of j.frame; place = j.place; payment = j.payment }

-- [P5] which answer each case of a judging stands for, and what it knows
abbrev pub told : Result Judged Refused → Judgement
told (Ok j) = record { answer = 0; known = Some (known_of j) }
told (Err r) = record { answer = no_of r.refusal; known = option_map known_of r.judged }

-- what is known of bytes that are a frame
abbrev pub known_in : List Payment → List ℕ → Known
known_in payments bytes =
    let f = incoming (frame_values bytes) in
    record { frame = frame_values bytes; place = found_at payments f.payment.0; payment = payment_in payments f }

-- [T1] judging: the first row that applies gives the answer
unfoldable pub judge : ℕ → ℕ → ℕ → ℕ → List Payment → List ℕ → Judgement
judge group own clock count payments bytes =
    record {
      answer = first_given (frame_rows group own clock count payments bytes);
      known = cond (not_a_frame bytes) None (Some (known_in payments bytes));
    }
