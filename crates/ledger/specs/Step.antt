-- The step: rules 1 to 4 [R11 to R44], and what a call hands back [R2].
-- Assumes nothing.
use Rattle.std.specs.Prelude.{ℕ, ◌+◌, ◌<◌, ◌≤◌, max, ◌≡◌, List, Option, cond, set, eqb, unwrap_or, Err}
use Rattle.std.specs.Option.{is_some}
use Rattle.frame.specs.Frames.{frame_values}
use Rattle.frame.specs.declared.Time.{Time}
use Rattle.ledgers.specs.Ledgers.{how_many}
use Rattle.payment.specs.Payments.{all_heard, hear, in_phase, last_time, proposed, stamp_of, stamped}
use Rattle.payment.specs.declared.Payment.{Payment}
use Rattle.held.specs.Held.{at, found_at, limit}
use Rattle.posting.specs.Posting.{written as posting}
use Rattle.refusals.specs.Refusals.{answer_no, incoming, is_held, is_propose, payment_in, place_in, received}
use Rattle.refusals.specs.declared.Incoming.{Incoming}
use Rattle.refusals.specs.declared.Judged.{Judged}
use Rattle.refusals.specs.declared.Refusal.{Refusal}
use Rattle.sending.specs.Sending.{recipients, written}
use Rattle.ledger.specs.Table.{answer_to}
use Rattle.ledger.specs.declared.Ledger.{Ledger}
use Rattle.ledger.specs.declared.Step.{Step}

-- [R11, R21] the frame's payment, held or new; its place [K3]; and how many are held with it
abbrev pub payment_for : Ledger → Incoming → Payment
payment_for l f = payment_in l.payments f

abbrev pub place_for : Ledger → Incoming → ℕ
place_for l f = place_in l.count l.payments f

abbrev pub count_for : Ledger → Incoming → ℕ
count_for l f = cond (is_held l.payments f) l.count (l.count + 1)

-- the ledger with the frame's payment kept so, and this clock
abbrev pub keeping : Ledger → Incoming → Time → Payment → Ledger
keeping l f clock p =
    record {
      group = l.group;
      own = l.own;
      clock = clock;
      count = count_for l f;
      payments = set l.payments (place_for l f) p;
    }

-- [R12] the next own time: one more than the clock
abbrev pub new_own_time : Ledger → Time
new_own_time l = record { 0 = l.clock.0 + 1 }

-- [R11, R12] rule 1: the payment of a MULTICAST is kept, proposed, with the next own time, and the clock shows that time
unfoldable pub multicast_rule : Ledger → Incoming → Ledger
multicast_rule l f = keeping l f (new_own_time l) (in_phase proposed (hear (payment_for l f) l.own.0 (new_own_time l)))

-- [R21, R22] rule 2: the payment of a PROPOSE is kept with the time of its source, and the clock stays where it is
unfoldable pub propose_rule : Ledger → Incoming → Ledger
propose_rule l f = keeping l f l.clock (hear (payment_for l f) f.source.0 f.time)

abbrev pub after_hearing : Ledger → Incoming → Ledger
after_hearing l f = cond (is_propose f) (propose_rule l f) (multicast_rule l f)

-- [R31, R32] rule 3: a payment that has heard all its destinations is stamped, and a clock behind the stamp's time is put forward
-- (a payment stamped before never comes here: no frame of it is taken)
unfoldable pub stamp_rule : Ledger → ℕ → Ledger
stamp_rule l i =
    let p = at l.payments i in
    cond (all_heard p)
    (record {
      group = l.group;
      own = l.own;
      clock = record { 0 = max l.clock.0 (stamp_of p).time.0 };
      count = l.count;
      payments = set l.payments i (in_phase stamped p);
    })
    l

-- after rules 1 to 3
abbrev pub after_stamping : Ledger → Incoming → Ledger
after_stamping l f = stamp_rule (after_hearing l f) (place_for l f)

-- what rule 4 leaves: the ledger, the number of postings, and the whole posting list
pub record AfterPosting : Type 0 where
  pub state : Ledger
  pub count : ℕ
  pub list : List ℕ

-- [R42 to R44] rule 4: all that are free are posted
unfoldable pub post_rule : Ledger → List ℕ → AfterPosting
post_rule l list =
    let posts = posting l.payments l.own.0 list in
    record {
      state = record { group = l.group; own = l.own; clock = l.clock; count = l.count; payments = posts.payments };
      count = posts.count;
      list = posts.list;
    }

abbrev pub left : Ledger × ℕ → List ℕ → AfterPosting
left r list = record { state = r.0; count = r.1; list = list }

-- [R13, R22] to whom this ledger sends
abbrev pub recipients_of : Ledger → Incoming → ℕ
recipients_of l f = recipients l.own.0 f

-- [R14, R4] the outgoing buffer with what it sends: its PROPOSE, with the next own time
abbrev pub sent : Ledger → Incoming → List ℕ → List ℕ
sent l f outgoing = written l.own (new_own_time l) f outgoing

-- [R2] all that a call hands back, and the two buffers whole
pub record Outcome : Type 0 where
  pub state : Ledger
  pub answer : ℕ
  pub recipients : ℕ
  pub copies : ℕ
  pub postings : ℕ
  pub outgoing : List ℕ
  pub list : List ℕ

-- what the code's step handed back, beside the two buffers as they were left
abbrev pub outcome : Step → List ℕ → List ℕ → Outcome
outcome r outgoing list =
    record {
      state = r.state;
      answer = answer_no r.answer;
      recipients = r.recipients;
      copies = r.copies;
      postings = r.postings;
      outgoing = outgoing;
      list = list;
    }

-- [T3] what a refusal hands back: the same state, nobody to send to, no copies and no postings
abbrev pub refusing : Ledger → Refusal → Step
refusing l refusal = record { state = l; answer = Err refusal; recipients = 0; copies = 0; postings = 0 }

-- [T3] a refusal by its number, and both buffers as they were
abbrev pub refused : Ledger → ℕ → List ℕ → List ℕ → Outcome
refused l answer outgoing list =
    record { state = l; answer = answer; recipients = 0; copies = 0; postings = 0; outgoing = outgoing; list = list }

-- for the code: what is known of a frame that no refusal applies to
pub record MayTake (l : Ledger) (j : Judged) : Type 0 where
  pub place : j.place ≡ found_at l.payments (received j.frame).payment.0
  pub payment : j.payment ≡ payment_for l (received j.frame)
  pub room : place_for l (received j.frame) < limit
  pub count : l.count ≤ limit
  pub clock : l.clock.0 ≤ last_time

-- for the code: the ledger with a payment kept at the place of the held one, or behind those held, and then counted
abbrev pub kept_at : Ledger → Option ℕ → Payment → Ledger
kept_at l place p =
    record {
      group = l.group;
      own = l.own;
      clock = l.clock;
      count = cond (is_some place) l.count (l.count + 1);
      payments = set l.payments (unwrap_or place l.count) p;
    }

-- [A0, R41] a frame that is taken: rules 1 to 4, posting last; [R3] a copy for each recipient
abbrev pub taken : Ledger → Incoming → List ℕ → List ℕ → Outcome
taken l f outgoing list =
    let after = post_rule (after_stamping l f) list in
    record {
      state = after.state;
      answer = 0;
      recipients = recipients_of l f;
      copies = how_many (recipients_of l f);
      postings = after.count;
      outgoing = sent l f outgoing;
      list = after.list;
    }

-- [T1, T3] the step: taken where no row of the whole table applies, and else refused by the first that does
unfoldable pub step : Ledger → List ℕ → List ℕ → List ℕ → Outcome
step l frame outgoing list =
    let answer = answer_to l frame outgoing list in
    cond (eqb answer 0)
    (taken l (incoming (frame_values frame)) outgoing list)
    (refused l answer outgoing list)
