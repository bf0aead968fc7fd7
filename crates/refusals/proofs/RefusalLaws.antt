-- The conditions asked of the frame's payment, held or new, are those asked of the held one.
-- Assumes nothing.
use Prim.Native.Nat.{ℕ}
use mathlib.Core.Path.{◌≡◌, refl, ap, ap₂, sym, ◌∙◌}
use mathlib.Core.List.{List}
use mathlib.Core.Bool.{Bool, true, false, not, cond, ◌&&◌, ◌||◌}
use lib.Dec.{eqb}
use borrow.Author.Tests.{eq-eqb, ne_eqb}
use Rattle.common.proofs.TestLaws.{and-go, and-stop, or-false, split}
use Rattle.ledgers.proofs.LedgerLaws.{has-empty}
use Rattle.frame.specs.Frames.{frame_values, not_a_frame, reading, told as read-told}
use Rattle.frame.specs.declared.NotAFrame.{NotAFrame as FrameNone}
use Rattle.frame.proofs.FrameLaws.{told-accepted}
use Rattle.payment.specs.Payments.{has_proposal, heard_from, new_payment, time_from}
use Rattle.frame.specs.declared.Frame.TheVariants.{Propose}
use Rattle.frame.specs.declared.LedgerNo.{LedgerNo}
use Rattle.frame.specs.declared.PaymentNo.{PaymentNo}
use Rattle.frame.specs.declared.Time.{Time}
use Rattle.frame.specs.declared.Frame.{Frame}
use Rattle.refusals.specs.declared.Judged.{Judged}
use Rattle.refusals.specs.declared.Refusal.{Refusal}
use Rattle.refusals.specs.declared.Refusal.TheVariants.{Unsound, TooShort, NotAFrame, PaymentZero, Unlawful, BadSource, BadTime}
use Rattle.refusals.specs.declared.Refusal.TheVariants.{Conflict, Repeat, Full, ClockAtEnd}
use Rattle.payment.specs.declared.Payment.{Payment}
use Rattle.held.specs.Held.{found_at, held_for_another}
use Rattle.std.specs.Prelude.{Some, None, Result, Ok}
use Rattle.refusals.specs.Refusals.{Judgement, Known, another_time, answer_no, conflict, first_given, held_one, incoming, is_held, is_propose}
use Rattle.refusals.specs.Refusals.{judge, known_in, known_of, looked_up, no_of, other_destinations, payment_in, received, repeat, repeats, rows}
use Rattle.refusals.specs.declared.Incoming.{Incoming}

module _ (payments : List Payment) (f : Incoming) where
  abbrev new : Payment
  new = new_payment f.payment.0 f.destinations

  -- what does not hold of a new payment is asked of the held one alone
  asked : (g : Payment → Bool) → g new ≡ false → is_held payments f && g (held_one payments f) ≡ g (payment_in payments f)
  asked g n =
      split (is_held payments f)
      (λ t. and-go _ t ∙ sym (ap (λ b. g (cond b (held_one payments f) new)) t))
      (λ t. and-stop _ t ∙ sym (ap (λ b. g (cond b (held_one payments f) new)) t ∙ n))

  pub other-in : other_destinations payments f ≡ not (eqb (payment_in payments f).destinations f.destinations)
  other-in = asked (λ p. not (eqb p.destinations f.destinations)) (ap not (eq-eqb f.destinations f.destinations refl))

  pub another-in : another_time payments f
      ≡ heard_from (payment_in payments f) f.source.0 && not (eqb (time_from (payment_in payments f) f.source.0) f.time.0)
  another-in =
      asked (λ p. heard_from p f.source.0 && not (eqb (time_from p f.source.0) f.time.0)) (and-stop _ (has-empty f.source.0))

  pub repeat-in : repeat payments f ≡ repeats (payment_in payments f) f
  repeat-in =
      asked (λ p. repeats p f)
      (split (is_propose f)
      (λ t. ap (λ b. cond b (has_proposal new f.source.0 f.time.0) false) t ∙ and-stop _ (has-empty f.source.0))
      (λ t. ap (λ b. cond b (has_proposal new f.source.0 f.time.0) false) t))

  pub conflict-multicast : (f.kind ≡ 2 → ⊥) → conflict payments f ≡ other_destinations payments f
  conflict-multicast k = ap (λ b. other_destinations payments f || b) (and-stop _ (ne_eqb _ _ k)) ∙ or-false _

-- what row 8 asks of a PROPOSE, said of its payment, held or new
pub conflict-propose : (payments : List Payment) (number : PaymentNo) (destinations : ℕ) (source : LedgerNo) (time : Time) (p : Payment)
    → p ≡ payment_in payments (received (Propose number destinations source time))
    → not (eqb p.destinations destinations) ||
    (heard_from p source.0 && not (eqb (time_from p source.0) time.0) || held_for_another payments number.0 source.0 time.0)
    ≡ conflict payments (received (Propose number destinations source time))
conflict-propose payments number destinations source time p e =
    let f = received (Propose number destinations source time) in
    ap₂ (λ other another. other || (another || held_for_another payments number.0 source.0 time.0))
    (ap (λ q. not (eqb q.destinations destinations)) e ∙ sym (other-in payments f))
    (ap (λ q. heard_from q source.0 && not (eqb (time_from q source.0) time.0)) e ∙ sym (another-in payments f))

-- what judging tells, by whether the bytes are a frame
module _ (group own clock count : ℕ) (payments : List Payment) (bytes : List ℕ) where
  pub judge-none : not_a_frame bytes ≡ true → judge group own clock count payments bytes ≡ record { answer = 3; known = None }
  unfolding judge first_given
  judge-none t = simp t

  pub judge-some : not_a_frame bytes ≡ false
      → judge group own clock count payments bytes
      ≡ record { answer = first_given (rows group own clock count payments (incoming (frame_values bytes))); known = Some (known_in payments bytes) }
  unfolding judge first_given
  judge-some t = simp t

-- no refusal has number 0
pub not_zero : (r : Refusal) → eqb (no_of r) 0 ≡ false
not_zero Unsound = refl
not_zero TooShort = refl
not_zero NotAFrame = refl
not_zero PaymentZero = refl
not_zero Unlawful = refl
not_zero BadSource = refl
not_zero BadTime = refl
not_zero Conflict = refl
not_zero Repeat = refl
not_zero Full = refl
not_zero ClockAtEnd = refl

-- judging bytes that hold a frame, by what checking it answers
module _ (group own clock count : ℕ) (payments : List Payment) (bytes : List ℕ) (frame : Frame) (j : Judged) (answer : Result (Unit {0}) Refusal)
    {r : Result Frame FrameNone} (read : read-told r ≡ reading bytes) (is-frame : r ≡ Ok frame) (look : j ≡ looked_up payments frame)
    (checked : answer_no answer ≡ first_given (rows group own clock count payments (received j.frame))) where
  pub judge-read : (given : Result (Unit {0}) Refusal) → answer ≡ given
      → ◌≡◌ {A = Judgement} record { answer = answer_no given; known = Some (known_of j) } (judge group own clock count payments bytes)
  judge-read given e =
      let some = told-accepted bytes (read-told r) read (ap (λ x. (read-told x).answer) is-frame) in
      let is = some.1 ∙ ap (λ x. (read-told x).frame) is-frame in
      (λ k. record {
        answer = (sym (ap answer_no e) ∙ checked
            ∙ ap (λ f. first_given (rows group own clock count payments f)) (ap (λ k. received k.frame) look ∙ ap incoming (sym is))) k;
        known = Some ((ap known_of look
            ∙ ap {B = Known} (λ v. record { frame = v; place = found_at payments (incoming v).payment.0; payment = payment_in payments (incoming v) })
            (sym is)) k);
      })
      ∙ sym (judge-some group own clock count payments bytes some.0)
