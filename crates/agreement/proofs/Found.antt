-- A payment that is held under a number stands at a used place.
-- Assumes nothing.
use Prim.Native.Nat.{ℕ, ◌<◌}
use mathlib.Core.Path.{◌≡◌, refl, ap, sym, ◌∙◌, subst}
use mathlib.Core.Bool.{true, cond}
use native.Mathlib.Nat.{lt_irrefl}
use lib.Dec.{ltb}
use borrow.Author.Tests.{ltb-false, ltb-true}
use Rattle.ledgers.proofs.LedgerLaws.{has-empty}
use Rattle.common.proofs.TestLaws.{both, split}
use Rattle.payment.specs.Payments.{heard_from, new_payment}
use Rattle.right.specs.Right.{unused}
use Rattle.payment.specs.declared.Payment.{Payment}
use Rattle.right.proofs.RightLaws.{unused-heard}
use Rattle.held.specs.Held.{at, holds, limit, place_of}
use Rattle.checked.proofs.ReflectLaws.{unused-at}
use Rattle.refusals.specs.Refusals.{first_given, held_one, is_held}
use Rattle.ledger.specs.Table.{value_rows}
use Rattle.ledger.specs.Sound.{sound}
use Rattle.ledger.specs.Step.{payment_for, place_for}
use Rattle.refusals.specs.declared.Incoming.{Incoming}
use Rattle.ledger.specs.declared.Ledger.{Ledger}
use Rattle.ledger.proofs.JudgeLaws.{place-range}
use Rattle.ledger.proofs.SoundLaws.{clauses}
use Rattle.soundness.proofs.Accepted.{found, missing, unused-number}
use Rattle.agreement.specs.Claims.{Holds}

module _ (l : Ledger) (is-sound : sound l ≡ true) where
  -- what is not unused is used
  used-by : (i : ℕ) → i < limit → (unused (at l.payments i) ≡ true → ⊥) → i < l.count
  used-by i h n =
      split (ltb i l.count) (λ t. ltb-true _ _ t)
      (λ t. absurd (n (unused-at l.payments l.count (clauses l is-sound).kept.unused i h (ltb-false _ _ t))))

  pub heard-used : (i q : ℕ) → i < limit → heard_from (at l.payments i) q ≡ true → i < l.count
  heard-used i q h e = used-by i h (λ u. both e (unused-heard (at l.payments i) u q))

  -- held under a number that is not 0: at a used place
  pub holds_at : (m : ℕ) → (m ≡ 0 → ⊥) → holds l.payments m ≡ true → Holds l m (λ p. p ≡ at l.payments (place_of l.payments m))
  holds_at m n e =
      let h = ltb-true _ _ e in
      let is = found l.payments m e in
      record {
        at_place = place_of l.payments m;
        within = h;
        used = used-by (place_of l.payments m) h (λ u. n (sym is ∙ unused-number (at l.payments (place_of l.payments m)) u));
        number = is;
        so = refl;
      }

  pub at-holds : (m : ℕ) (P : Payment → Type 0) → Holds l m P → holds l.payments m ≡ true
  at-holds m P x = split (holds l.payments m) (λ t. t) (λ t. absurd (missing l.payments m x.at_place t x.within x.number))

  -- what was heard for the frame's payment stands at its place
  pub place-heard : (f : Incoming) → first_given (value_rows l f) ≡ 0 → (q : ℕ)
      → heard_from (at l.payments (place_for l f)) q ≡ heard_from (payment_for l f) q
  place-heard f e q =
      split (is_held l.payments f)
      (λ h. ap (λ c. heard_from (at l.payments (cond c (place_of l.payments f.payment.0) l.count)) q) h
      ∙ sym (ap (λ c. heard_from (cond c (held_one l.payments f) (new_payment f.payment.0 f.destinations)) q) h))
      (λ h. split (heard_from (at l.payments (place_for l f)) q)
      (λ t. let u = heard-used (place_for l f) q (place-range l f is-sound e) t in
      absurd (lt_irrefl l.count (subst (λ i. i < l.count) (ap (λ c. cond c (place_of l.payments f.payment.0) l.count) h) u)))
      (λ t. t ∙ sym (ap (λ c. heard_from (cond c (held_one l.payments f) (new_payment f.payment.0 f.destinations)) q) h
      ∙ has-empty q)))
