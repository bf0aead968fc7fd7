-- The step on a sound state, whatever the frame and the buffers.
-- Assumes nothing.
use Prim.Native.Nat.{ℕ, ◌≤◌}
use mathlib.Core.Path.{◌≡◌, refl, ap, sym, ◌∙◌, subst}
use mathlib.Core.List.{List}
use mathlib.Core.Bool.{true, false}
use native.Mathlib.Omega.{arith}
use lib.Dec.{eqb, ltb}
use lib.ListN.{length}
use borrow.Author.Tests.{eqb-false, eqb-true, ltb-false, not-false}
use Rattle.common.proofs.TestLaws.{or_left, or_right, split}
use Rattle.frame.specs.Digits.{sum}
use Rattle.frame.specs.Frames.{body, frame_values, not_a_frame}
use Rattle.held.specs.Held.{limit}
use Rattle.ledger.specs.Sound.{sound}
use Rattle.ledger.specs.Table.{answer_to, value_rows, refusals}
use Rattle.refusals.specs.Refusals.{first_given, incoming}
use Rattle.ledger.specs.Step.{refused, step, taken}
use Rattle.ledger.specs.declared.Ledger.{Ledger}
use Rattle.ledger.proofs.JudgeLaws.{by_answer, by_zero}
use Rattle.refusals.proofs.TableLaws.{all_numbered, none-given, pass}
use Rattle.soundness.specs.Shaped.{Shaped}
use Rattle.soundness.proofs.Kept.{taken-shaped, taken-sound}

-- what answer 0 says
pub record Taken (l : Ledger) (frame outgoing list : List ℕ) : Type 0 where
  pub is-sound : sound l ≡ true
  pub outgoing-fits : 9 ≤ length outgoing
  pub list-fits : limit ≤ length list
  pub is-frame : not_a_frame frame ≡ false
  pub unrefused : first_given (value_rows l (incoming (frame_values frame))) ≡ 0
  pub so : step l frame outgoing list ≡ taken l (incoming (frame_values frame)) outgoing list

module _ (l : Ledger) (frame outgoing list : List ℕ) where
  pub is-taken : answer_to l frame outgoing list ≡ 0 → Taken l frame outgoing list
  unfolding all_numbered step body sum
  is-taken e =
      let row = none-given (refusals l frame outgoing list) refl e in
      let r₁ = row 0 (omega arith) in
      let r₂ = row 1 (omega arith) in
      let r₃ = row 2 (omega arith) in
      record {
        is-sound = not-false _ r₁;
        outgoing-fits = ltb-false _ _ (or_left (ltb (length outgoing) 9) _ r₂);
        list-fits = ltb-false _ _ (or_right (ltb (length outgoing) 9) _ r₂);
        is-frame = r₃;
        unrefused =
            sym (pass 2 (refusals l frame outgoing list) (omega arith)
            (pass 1 (refusals l frame outgoing list) (omega arith)
            (pass 0 (refusals l frame outgoing list) (omega arith) refl r₁) r₂) r₃) ∙ e;
        so = by_zero (answer_to l frame outgoing list) (taken l (incoming (frame_values frame)) outgoing list)
            (refused l (answer_to l frame outgoing list) outgoing list) e;
      }

  pub is-refused : (answer_to l frame outgoing list ≡ 0 → ⊥) → step l frame outgoing list ≡ refused l
      (answer_to l frame outgoing list) outgoing list
  unfolding step
  is-refused n = by_answer (answer_to l frame outgoing list) (taken l (incoming (frame_values frame)) outgoing list)
      (refused l (answer_to l frame outgoing list) outgoing list) n

  -- the answer that is handed back is the table's
  pub answer-is : (step l frame outgoing list).answer ≡ answer_to l frame outgoing list
  answer-is =
      split (eqb (answer_to l frame outgoing list) 0)
      (λ t. let e = eqb-true _ _ t in ap (λ o. o.answer) (is-taken e).so ∙ sym e)
      (λ t. ap (λ o. o.answer) (is-refused (eqb-false _ _ t)))

  -- [S12] a sound state stays sound when a frame is taken; a refusal leaves it as it was
  pub step-sound : Shaped l → sound l ≡ true → sound (step l frame outgoing list).state ≡ true
  step-sound shape s =
      split (eqb (answer_to l frame outgoing list) 0)
      (λ t. let k = is-taken (eqb-true _ _ t) in
      ap (λ o. sound o.state) k.so ∙ taken-sound l (incoming (frame_values frame)) s shape k.unrefused outgoing list)
      (λ t. ap (λ o. sound o.state) (is-refused (eqb-false _ _ t)) ∙ s)

  pub step-shaped : Shaped l → Shaped (step l frame outgoing list).state
  step-shaped shape =
      split (eqb (answer_to l frame outgoing list) 0)
      (λ t. let k = is-taken (eqb-true _ _ t) in
      subst (λ o. Shaped o.state) (sym k.so)
      (taken-shaped l (incoming (frame_values frame)) k.is-sound shape k.unrefused outgoing list))
      (λ t. subst (λ o. Shaped o.state) (sym (is-refused (eqb-false _ _ t))) shape)
