-- A promise that is an equation has one outcome: two that keep it are the same.
-- Assumes nothing.
use mathlib.Core.Path.{◌≡◌, ap, sym, ◌∙◌}

pub one-outcome {ℓ} : {A : Type ℓ} {promised r s : A} → r ≡ promised → s ≡ promised → r ≡ s
one-outcome p q = p ∙ sym q

-- so of what is told of a result beside a buffer: the result, and every place of the buffer
pub same-told : {A B C : Type 0} (result : A → B) (buffer : A → C) {promised x y : A} → x ≡ promised → y ≡ promised
    → (result x ≡ result y) × (buffer x ≡ buffer y)
same-told result buffer p q = let same = one-outcome p q in (ap result same, ap buffer same)
