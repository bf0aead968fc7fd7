-- No second outcome satisfies the promise of a public function of this crate.
-- Assumes nothing.
use Prim.Native.Nat.{ℕ}
use mathlib.Core.Path.{◌≡◌, ap, sym, ◌∙◌}
use mathlib.Core.List.{List}
use Rattle.common.proofs.Settled.{one-outcome}
use Rattle.refusals.proofs.Settled.{answer-one}
use Rattle.ledger.specs.State.{fresh, set_up, told}
use Rattle.ledger.specs.Step.{outcome, step}
use Rattle.ledger.specs.declared.Ledger.{Ledger}
use Rattle.ledger.specs.declared.SetUp.{SetUp}
use Rattle.ledger.specs.declared.Step.{Step}

pub nothing-settled : (r s : Ledger) → r ≡ fresh 0 0 → s ≡ fresh 0 0 → r ≡ s
nothing-settled r s p q = one-outcome p q

-- of a set-up: the state and the answer
pub set-up-settled : (group own : ℕ) (r s : SetUp) → told r ≡ set_up group own → told s ≡ set_up group own → r ≡ s
set-up-settled group own r s p q =
    let same = p ∙ sym q in
    let answers = answer-one r.answer s.answer (ap (λ o. o.answer) same) in
    λ i. record { state = (same i).state; answer = answers i }

-- of a step: the state, the answer, the recipients, both counts, and both buffers to their last place
pub step-settled : (l : Ledger) (frame outgoing list : List ℕ) (r s : Step) (b c d e : List ℕ)
    → outcome r b d ≡ step l frame outgoing list → outcome s c e ≡ step l frame outgoing list → (r ≡ s) × (b ≡ c) × (d ≡ e)
step-settled l frame outgoing list r s b c d e p q =
    let same = p ∙ sym q in
    let answers = answer-one r.answer s.answer (ap (λ o. o.answer) same) in (
      λ i. record {
        state = (same i).state;
        answer = answers i;
        recipients = (same i).recipients;
        copies = (same i).copies;
        postings = (same i).postings;
      },
      ap (λ o. o.outgoing) same,
      ap (λ o. o.list) same,
    )
