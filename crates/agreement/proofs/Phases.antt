-- What a taken step does to the phases: a stamp stays, and just the free payments are posted.
-- Assumes nothing.
use Prim.Native.Nat.{ℕ, ◌<◌, ◌≤◌}
use mathlib.Core.Path.{◌≡◌, refl, ap, ap₂, sym, ◌∙◌, subst}
use mathlib.Core.Bool.{Bool, true, false, cond, ◌||◌}
use mathlib.Core.Logic.{⊎_elim}
use native.Mathlib.Omega.{arith}
use lib.ListN.{length}
use lib.Seq.{get_or-set_other, get_or-set_same}
use borrow.Author.Tests.{ne_eqb}
use Rattle.common.proofs.TestLaws.{both, split}
use Rattle.payment.specs.Payments.{all_heard, has_stamp, in_phase, is_posted, posted}
use Rattle.payment.specs.declared.Payment.{Payment}
use Rattle.payment.specs.declared.Stamp.{Stamp}
use Rattle.held.specs.Held.{at, no_payment}
use Rattle.posting.specs.Posting.{is_free}
use Rattle.refusals.specs.Refusals.{first_given}
use Rattle.ledger.specs.Table.{value_rows}
use Rattle.ledger.specs.Sound.{sound}
use Rattle.ledger.specs.Step.{after_stamping, count_for, payment_for, place_for}
use Rattle.refusals.specs.declared.Incoming.{Incoming}
use Rattle.ledger.specs.declared.Ledger.{Ledger}
use Rattle.ledger.proofs.JudgeLaws.{place-range}
use Rattle.ledger.proofs.SoundLaws.{clauses}
use Rattle.soundness.specs.Shaped.{Shaped}
use Rattle.soundness.proofs.Accepted.{accepted, base}
use Rattle.soundness.proofs.Kept.{brings, heard_of-open, heard_of-stamped, heard_payment, posted-ledger}
use Rattle.soundness.proofs.Taking.{place-grown}
use Rattle.agreement.specs.Claims.{HasStamp, WithStamp}
use Rattle.agreement.proofs.View.{posted-place}
use Rattle.agreement.proofs.Hearing.{is-payment}

-- a phase before stamped
early : (p : Payment) → p.phase ≤ 1 → has_stamp p ≡ false
early p h = ap₂ ◌||◌ (ne_eqb p.phase 2 (λ z. omega (arith, h, z))) (ne_eqb p.phase 3 (λ z. omega (arith, h, z)))

module _ (l : Ledger) (f : Incoming) (is-sound : sound l ≡ true) (shape : Shaped l) (e : first_given (value_rows l f) ≡ 0) where
  inside : place_for l f < length l.payments
  inside = subst (λ n. place_for l f < n) (sym shape.places) (place-range l f is-sound e)

  -- rules 1 to 3 change no other payment than the frame's
  pub others-stay : (i : ℕ) → (i ≡ place_for l f → ⊥) → at (after_stamping l f).payments i ≡ at l.payments i
  others-stay i n =
      split (all_heard (heard_payment l f))
      (λ t. ap (λ m. at m.payments i) (heard_of-stamped l f inside t)
      ∙ get_or-set_other l.payments (place_for l f) i (in_phase 2 (heard_payment l f)) no_payment n)
      (λ t. ap (λ m. at m.payments i) (heard_of-open l f inside t)
      ∙ get_or-set_other l.payments (place_for l f) i (heard_payment l f) no_payment n)

  pub same_count : (after_stamping l f).count ≡ count_for l f
  same_count = split (all_heard (heard_payment l f)) (λ t. ap (λ m. m.count) (heard_of-stamped l f inside t))
      (λ t. ap (λ m. m.count) (heard_of-open l f inside t))

  pub same-own : (after_stamping l f).own ≡ l.own
  same-own = split (all_heard (heard_payment l f)) (λ t. ap (λ m. m.own) (heard_of-stamped l f inside t))
      (λ t. ap (λ m. m.own) (heard_of-open l f inside t))

  -- the frame's payment had no stamp
  pub unstamped-before : (i : ℕ) → i < l.count → has_stamp (at l.payments i) ≡ true → i ≡ place_for l f → ⊥
  unstamped-before i u s q =
      both s (ap has_stamp (sym (is-payment l f is-sound shape e i u q)) ∙ early (payment_for l f)
      (⊎_elim (λ x. subst (λ m. m ≤ 1) (sym x.0) (omega arith)) (λ x. subst (λ m. m ≤ 1) (sym x.0) (omega arith))
      (base l f (clauses l is-sound).kept shape (accepted l f e)).phase))

  -- and rules 1 to 3 post nothing
  pub unposted-now : is_posted (at (after_stamping l f).payments (place_for l f)) ≡ false
  unposted-now =
      split (all_heard (heard_payment l f))
      (λ t. ap (λ m. is_posted (at m.payments (place_for l f))) (heard_of-stamped l f inside t)
      ∙ ap is_posted (get_or-set_same l.payments (place_for l f) (in_phase 2 (heard_payment l f)) no_payment inside))
      (λ t. ap (λ m. is_posted (at m.payments (place_for l f))) (heard_of-open l f inside t)
      ∙ ap is_posted (get_or-set_same l.payments (place_for l f) (heard_payment l f) no_payment inside)
      ∙ ne_eqb (heard_payment l f).phase 3 (λ z. omega (arith, small, z)))
    where
      small : (heard_payment l f).phase ≤ 1
      small =
          let b = brings l f is-sound shape e in
          ⊎_elim
          (λ x. subst (λ m. m ≤ 1) (sym (b.phase-is ∙ x.0)) (omega arith))
          (λ x. subst (λ m. m ≤ 1) (sym (b.phase-is ∙ x.0)) (omega arith))
          b.so_far

  -- what was held is held
  pub still-used : (i : ℕ) → i < l.count → i < (after_stamping l f).count
  still-used i u = subst (λ c. i < c) (sym same_count) (let g = place-grown l f in omega arith)

  -- a stamp stays
  pub stamp-stays : (m : ℕ) (s : Stamp) → HasStamp l m s → HasStamp (posted-ledger (after_stamping l f)) m s
  stamp-stays m s x =
      let o = others-stay x.at_place (unstamped-before x.at_place x.used x.so.0) in
      let was : ((at (after_stamping l f).payments x.at_place).number.0 ≡ m)
      × WithStamp s (at (after_stamping l f).payments x.at_place)
      = subst (λ p. (p.number.0 ≡ m) × WithStamp s p) (sym o) (x.number, x.so) in
      let now = subst (λ p. (p.number.0 ≡ m) × WithStamp s p) (sym (posted-place (after_stamping l f) x.at_place x.within))
      (either (is_free (after_stamping l f).payments (after_stamping l f).own.0 x.at_place)
      (at (after_stamping l f).payments x.at_place) was) in
      record {
        at_place = x.at_place;
        within = x.within;
        used = still-used x.at_place x.used;
        number = now.0;
        so = now.1;
      }
    where
      either : (b : Bool) (p : Payment) → (p.number.0 ≡ m) × WithStamp s p → ((cond b (in_phase posted p) p).number.0 ≡ m)
          × WithStamp s (cond b (in_phase posted p) p)
      either true p h = (h.0, (refl, h.1.1))
      either false p h = h
