-- No second outcome satisfies the promise of `judge` or of `number`: the definitions `told` and `answer_no`, by which the promises give
-- the numbers of the rules, take no two outcomes for one.
-- Assumes nothing.
use Rattle.std.specs.Prelude.{ℕ, ◌≡◌, List, [], ◌∷◌, get_or, Option, Some, None, Result, Ok, Err, eqb, unwrap_or}
use Rattle.std.specs.Option.{is_some, option_map}
use Rattle.common.proofs.TestLaws.{both}
use Rattle.refusals.proofs.RefusalLaws.{not_zero}
use mathlib.Core.Path.{refl, ap, sym, ◌∙◌}
use Rattle.frame.proofs.Settled.{values_one}
use Rattle.payment.specs.declared.Payment.{Payment}
use Rattle.refusals.specs.Refusals.{answer_no, judge, known_of, no_of, told}
use Rattle.refusals.specs.declared.Judged.{Judged}
use Rattle.refusals.specs.declared.Refusal.{Refusal}
use Rattle.refusals.specs.declared.Refused.{Refused}
use Rattle.refusals.specs.declared.Refusal.TheVariants.{Unsound, TooShort, NotAFrame, PaymentZero, Unlawful, BadSource, BadTime}
use Rattle.refusals.specs.declared.Refusal.TheVariants.{Conflict, Repeat, Full, ClockAtEnd}

-- the refusals in the order of their numbers; at 0, which is none, any
refusal_at : ℕ → Refusal
refusal_at n =
    get_or (Unsound ∷ Unsound ∷ TooShort ∷ NotAFrame ∷ PaymentZero ∷ Unlawful ∷ BadSource ∷ BadTime ∷ Conflict ∷ Repeat ∷ Full ∷ ClockAtEnd ∷ [])
    n Unsound

numbered : (r : Refusal) → refusal_at (no_of r) ≡ r
unfolding refusal_at
numbered Unsound = refl
numbered TooShort = refl
numbered NotAFrame = refl
numbered PaymentZero = refl
numbered Unlawful = refl
numbered BadSource = refl
numbered BadTime = refl
numbered Conflict = refl
numbered Repeat = refl
numbered Full = refl
numbered ClockAtEnd = refl

-- each refusal has a number of its own
pub no_one : (r s : Refusal) → no_of r ≡ no_of s → r ≡ s
no_one r s e = sym (numbered r) ∙ ap refusal_at e ∙ numbered s

pub answer-one : (r s : Result (Unit {0}) Refusal) → answer_no r ≡ answer_no s → r ≡ s
answer-one (Ok a) (Ok b) e = refl
answer-one (Ok a) (Err s) e = both (sym (ap (λ n. eqb n 0) e)) (not_zero s)
answer-one (Err r) (Ok a) e = both (ap (λ n. eqb n 0) e) (not_zero r)
answer-one (Err r) (Err s) e = ap Err (no_one r s e)

judged_one : (j k : Judged) → known_of j ≡ known_of k → j ≡ k
judged_one j k e = λ i. record {
  frame = values_one j.frame k.frame (ap (λ x. x.frame) e) i;
  place = ap (λ x. x.place) e i;
  payment = ap (λ x. x.payment) e i;
}

maybe-one : (m n : Option Judged) → option_map known_of m ≡ option_map known_of n → m ≡ n
maybe-one None None e = refl
maybe-one None (Some k) e = both refl (sym (ap is_some e))
maybe-one (Some j) None e = both refl (ap is_some e)
maybe-one (Some j) (Some k) e = ap Some (judged_one j k (ap (λ o. unwrap_or o (known_of j)) e))

told-one : (r s : Result Judged Refused) → told r ≡ told s → r ≡ s
told-one (Ok j) (Ok k) e = ap Ok (judged_one j k (ap (λ o. unwrap_or o.known (known_of j)) e))
told-one (Ok j) (Err s) e = both (sym (ap (λ o. eqb o.answer 0) e)) (not_zero s.refusal)
told-one (Err r) (Ok k) e = both (ap (λ o. eqb o.answer 0) e) (not_zero r.refusal)
told-one (Err r) (Err s) e =
    let refusals = no_one r.refusal s.refusal (ap (λ o. o.answer) e) in
    let judged = maybe-one r.judged s.judged (ap (λ o. o.known) e) in
    λ i. Err (record { refusal = refusals i; judged = judged i })

-- what `number` promises of an answer tells the answer
pub number-settled : (n : ℕ) (r s : Result (Unit {0}) Refusal) → n ≡ answer_no r → n ≡ answer_no s → r ≡ s
number-settled n r s p q = answer-one r s (sym p ∙ q)

-- what `judge` promises, only one result keeps
pub judge-settled : (group own clock count : ℕ) (payments : List Payment) (bytes : List ℕ) (r s : Result Judged Refused)
    → told r ≡ judge group own clock count payments bytes → told s ≡ judge group own clock count payments bytes → r ≡ s
judge-settled group own clock count payments bytes r s p q = told-one r s (p ∙ sym q)
