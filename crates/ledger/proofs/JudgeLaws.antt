-- The step by the table: which row is given first, and what a frame that none refuses may rely on.
-- Assumes nothing.
use Prim.Native.Nat.{ℕ, ◌<◌, ◌≤◌}
use mathlib.Core.Path.{◌≡◌, refl, ap, sym, ◌∙◌, subst}
use mathlib.Core.List.{List}
use mathlib.Core.Bool.{true, false, not, cond, ◌||◌}
use native.Mathlib.Omega.{arith}
use lib.Dec.{eqb, leb, ltb}
use lib.ListN.{drop, length}
use borrow.Author.Tests.{eq-eqb, eqb-false, leb-true, ltb-true, ne_eqb}
use Rattle.common.proofs.TestLaws.{and-go, and_left, and_right, split}
use Rattle.frame.specs.Digits.{sum}
use Rattle.frame.specs.Frames.{body, frame_values, not_a_frame}
use Rattle.ledgers.specs.Ledgers.{is_ledger_of}
use Rattle.payment.specs.Payments.{last_time}
use Rattle.held.specs.Held.{found_at, limit}
use Rattle.refusals.specs.Refusals.{first_given, found, frame_rows, incoming, is_held, judge, known_in, known_of, no_of, payment_in, received, row, told}
use Rattle.refusals.specs.declared.Incoming.{Incoming}
use Rattle.refusals.specs.declared.Judged.{Judged}
use Rattle.refusals.specs.declared.Refused.{Refused}
use Rattle.std.specs.Prelude.{Result, Ok, Err, unwrap_or}
use Rattle.refusals.proofs.RefusalLaws.{judge-none, judge-some, not_zero}
use Rattle.refusals.proofs.TableLaws.{after-first, all_numbered, give, none-given, pass}
use Rattle.ledger.specs.Sound.{in_range, sound}
use Rattle.ledger.specs.Table.{answer_to, value_rows, refusals}
use Rattle.ledger.specs.Step.{MayTake, place_for, refused, step, taken}
use Rattle.ledger.specs.declared.Ledger.{Ledger}
use Rattle.ledger.proofs.SoundLaws.{clauses}

-- by whether a number is 0
pub by_answer : {A : Type 0} (n : ℕ) (zero-case other-case : A) → (n ≡ 0 → ⊥) → cond (eqb n 0) zero-case other-case ≡ other-case
by_answer n a b h = ap (λ t. cond t a b) (ne_eqb _ _ h)

pub by_zero : {A : Type 0} (n : ℕ) (zero-case other-case : A) → n ≡ 0 → cond (eqb n 0) zero-case other-case ≡ zero-case
by_zero n a b h = ap (λ t. cond t a b) (eq-eqb _ _ h)

-- what the ranges of a sound state say
pub clock-range : (l : Ledger) → in_range l ≡ true → l.clock.0 ≤ last_time
clock-range l s =
    leb-true _ _ (and_left (leb l.clock.0 last_time) (leb l.count limit) (and_right (is_ledger_of l.group l.own.0) _ s))

pub count-range : (l : Ledger) → in_range l ≡ true → l.count ≤ limit
count-range l s =
    leb-true _ _ (and_right (leb l.clock.0 last_time) (leb l.count limit) (and_right (is_ledger_of l.group l.own.0) _ s))

-- a frame that is taken has a place
pub place-range : (l : Ledger) (f : Incoming) → sound l ≡ true → first_given (value_rows l f) ≡ 0 → place_for l f < limit
unfolding all_numbered
place-range l f s e =
    split (is_held l.payments f)
    (λ t. subst (λ n. n < limit) (sym (ap (λ b. cond b (found l.payments f) l.count) t)) (ltb-true _ _ t))
    (λ t. let room = none-given (value_rows l f) refl e 6 (omega arith) in
    let other : l.count ≡ limit → ⊥ = eqb-false _ _ (sym (and-go (eqb l.count limit) (ap not t)) ∙ room) in
    let few = count-range l (clauses l s).kept.range in
    subst (λ n. n < limit) (sym (ap (λ b. cond b (found l.payments f) l.count) t)) (omega arith))

module _ (l : Ledger) (frame outgoing list : List ℕ) where
  refused-with : (n : ℕ) → answer_to l frame outgoing list ≡ n → (n ≡ 0 → ⊥) → step l frame outgoing list ≡ refused l n outgoing list
  unfolding step
  refused-with n e h =
      by_answer (answer_to l frame outgoing list) (taken l (incoming (frame_values frame)) outgoing list)
      (refused l (answer_to l frame outgoing list) outgoing list) (λ z. h (sym e ∙ z))
      ∙ ap (λ m. refused l m outgoing list) e

  pub step-unsound : sound l ≡ false → step l frame outgoing list ≡ refused l 1 outgoing list
  step-unsound s = refused-with 1 (give 0 (refusals l frame outgoing list) (omega arith) refl (ap not s)) (λ e. omega arith)

  past_one : sound l ≡ true → answer_to l frame outgoing list ≡ first_given (drop 1 (refusals l frame outgoing list))
  past_one s = pass 0 (refusals l frame outgoing list) (omega arith) refl (ap not s)

  pub step-short : sound l ≡ true → ltb (length outgoing) 9 || ltb (length list) limit ≡ true
      → step l frame outgoing list ≡ refused l 2 outgoing list
  unfolding body sum
  step-short s h = refused-with 2 (give 1 (refusals l frame outgoing list) (omega arith) (past_one s) h) (λ e. omega arith)

  past_two : sound l ≡ true → ltb (length outgoing) 9 || ltb (length list) limit ≡ false
      → answer_to l frame outgoing list ≡ first_given (drop 2 (refusals l frame outgoing list))
  unfolding body sum
  past_two s h = pass 1 (refusals l frame outgoing list) (omega arith) (past_one s) h

  -- what judging tells of the frame
  module _ (r : Result Judged Refused) (e : told r ≡ judge l.group l.own.0 l.clock.0 l.count l.payments frame) where
    answer-is : first_given (frame_rows l.group l.own.0 l.clock.0 l.count l.payments frame) ≡ (told r).answer
    unfolding judge
    answer-is = sym (ap (λ x. x.answer) e)

    pub step-refused : sound l ≡ true → ltb (length outgoing) 9 || ltb (length list) limit ≡ false → (refused-by : Refused) → r ≡ Err refused-by
        → step l frame outgoing list ≡ refused l (no_of refused-by.refusal) outgoing list
    step-refused s h by q =
        refused-with (no_of by.refusal) (past_two s h ∙ answer-is ∙ ap (λ x. (told x).answer) q) (eqb-false _ _ (not_zero by.refusal))

    -- a frame that no row refuses
    module _ (j : Judged) (q : r ≡ Ok j) where
      no_row : first_given (frame_rows l.group l.own.0 l.clock.0 l.count l.payments frame) ≡ 0
      no_row = answer-is ∙ ap (λ x. (told x).answer) q

      no_value_row : first_given (value_rows l (incoming (frame_values frame))) ≡ 0
      no_value_row = after-first (row 3 (not_a_frame frame)) (value_rows l (incoming (frame_values frame))) refl no_row

      known-is : known_of j ≡ known_in l.payments frame
      known-is =
          split (not_a_frame frame)
          (λ t. let three : 3 ≡ 0 = sym (ap (λ x. x.answer) (e ∙ judge-none l.group l.own.0 l.clock.0 l.count l.payments frame t))
          ∙ ap (λ x. (told x).answer) q in absurd (omega (arith, three)))
          (λ t. ap (λ x. unwrap_or x.known (known_in l.payments frame))
          (sym (ap told q) ∙ e ∙ judge-some l.group l.own.0 l.clock.0 l.count l.payments frame t))

      pub frame-is : received j.frame ≡ incoming (frame_values frame)
      frame-is = ap (λ x. incoming x.frame) known-is

      pub step-taken : sound l ≡ true → ltb (length outgoing) 9 || ltb (length list) limit ≡ false
          → step l frame outgoing list ≡ taken l (received j.frame) outgoing list
      unfolding step
      step-taken s h =
          by_zero (answer_to l frame outgoing list) (taken l (incoming (frame_values frame)) outgoing list)
          (refused l (answer_to l frame outgoing list) outgoing list) (past_two s h ∙ no_row)
          ∙ ap (λ f. taken l f outgoing list) (sym frame-is)

      pub may-take : sound l ≡ true → MayTake l j
      may-take s =
          let range = (clauses l s).kept.range in
          record {
            place = ap (λ x. x.place) known-is ∙ ap (λ f. found_at l.payments f.payment.0) (sym frame-is);
            payment = ap (λ x. x.payment) known-is ∙ ap (payment_in l.payments) (sym frame-is);
            room = place-range l (received j.frame) s (ap (λ f. first_given (value_rows l f)) frame-is ∙ no_value_row);
            count = count-range l range;
            clock = clock-range l range;
          }
