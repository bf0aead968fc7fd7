-- A step seen by places: which payment's record changed, and how; the others are as they were but for being posted.
-- Assumes nothing.
use Prim.Native.Nat.{ℕ, ◌<◌, ◌≤◌, max}
use mathlib.Core.Path.{◌≡◌, refl, sym, ◌∙◌, subst}
use mathlib.Core.List.{List}
use mathlib.Core.Bool.{Bool, true, false, cond}
use mathlib.Core.Logic.{◌⊎◌, inl, inr}
use native.Mathlib.Nat.{le-max_left, le_of_lt, le_refl, max-eq_left, max-eq_right}
use lib.Dec.{leb}
use borrow.Author.Tests.{leb-false, leb-true}
use Rattle.soundness.proofs.Replacing.{with-payment}
use lib.ListN.{length}
use lib.Seq.{get_or-set_other, get_or-set_same}
use Rattle.common.proofs.PlaceLaws.{get_or-listed}
use Rattle.common.proofs.TestLaws.{split}
use Rattle.payment.specs.Payments.{all_heard, in_phase, posted, stamp_of}
use Rattle.payment.specs.declared.Payment.{Payment}
use Rattle.held.specs.Held.{at, limit, no_payment}
use Rattle.posting.specs.Posting.{after_posting, is_free}
use Rattle.ledger.specs.Step.{after_stamping, count_for, place_for, post_rule, taken}
use Rattle.refusals.specs.declared.Incoming.{Incoming}
use Rattle.ledger.specs.declared.Ledger.{Ledger}
use Rattle.soundness.specs.Shaped.{Shaped}
use Rattle.soundness.proofs.Kept.{heard_clock, heard_of-open, heard_of-stamped, heard_payment, posted-ledger}

-- the same payment, whatever its phase
pub record Same (p q : Payment) : Type 0 where
  pub number : p.number ≡ q.number
  pub destinations : p.destinations ≡ q.destinations
  pub heard : p.heard ≡ q.heard
  pub times : p.times ≡ q.times

same_refl : (p : Payment) → Same p p
same_refl p = record { number = refl; destinations = refl; heard = refl; times = refl }

-- what stands at a place after posting
pub posted-place : (l : Ledger) (j : ℕ) → j < limit
    → at (posted-ledger l).payments j ≡ cond (is_free l.payments l.own.0 j) (in_phase posted (at l.payments j))
    (at l.payments j)
unfolding after_posting
posted-place l j h = get_or-listed limit _ j no_payment h

-- posting changes nothing but the phase
posted-same : (l : Ledger) (j : ℕ) → j < limit → Same (at (posted-ledger l).payments j) (at l.payments j)
posted-same l j h = subst (λ p. Same p (at l.payments j)) (sym (posted-place l j h)) (either (is_free l.payments l.own.0 j))
  where
    either : (b : Bool) → Same (cond b (in_phase posted (at l.payments j)) (at l.payments j)) (at l.payments j)
    either true = record { number = refl; destinations = refl; heard = refl; times = refl }
    either false = same_refl (at l.payments j)

same-trans : {p q r : Payment} → Same p q → Same q r → Same p r
same-trans a b =
    record {
      number = a.number ∙ b.number;
      destinations = a.destinations ∙ b.destinations;
      heard = a.heard ∙ b.heard;
      times = a.times ∙ b.times;
    }

-- what a taken frame changes: one place, the count and the clock
pub record View (l : Ledger) (f : Incoming) (after : Ledger) : Type 0 where
  pub group : after.group ≡ l.group
  pub own : after.own ≡ l.own
  pub count : after.count ≡ count_for l f
  pub self : Same (at after.payments (place_for l f)) (heard_payment l f)
  pub other : (j : ℕ) → j < limit → (j ≡ place_for l f → ⊥) → Same (at after.payments j) (at l.payments j)
  pub clock-up : heard_clock l f ≤ after.clock.0
  -- the clock is that of rules 1 and 2, or the stamp's time
  pub clock-from : (after.clock.0 ≡ heard_clock l f) ⊎ ((after.clock.0 ≡ (stamp_of (heard_payment l f)).time.0)
      × (all_heard (heard_payment l f) ≡ true))

module _ (l : Ledger) (f : Incoming) (shape : Shaped l) (h : place_for l f < limit) where
  inside : place_for l f < length l.payments
  inside = subst (λ n. place_for l f < n) (sym shape.places) h

  -- a ledger in which one payment was replaced
  one_place : (clock : ℕ) (q : Payment) → Same q (heard_payment l f) → heard_clock l f ≤ clock
      → ((clock ≡ heard_clock l f) ⊎ ((clock ≡ (stamp_of (heard_payment l f)).time.0) × (all_heard (heard_payment l f) ≡ true)))
      → View l f (with-payment l (count_for l f) (record { 0 = clock }) (place_for l f) q)
  one_place clock q same up from =
      record {
        group = refl;
        own = refl;
        count = refl;
        self = subst (λ p. Same p (heard_payment l f)) (sym (get_or-set_same l.payments (place_for l f) q no_payment inside)) same;
        other = λ j g n. subst (λ p. Same p (at l.payments j)) (sym (get_or-set_other l.payments (place_for l f) j q no_payment n))
            (same_refl (at l.payments j));
        clock-up = up;
        clock-from = from;
      }

  stamped-view : View l f (after_stamping l f)
  stamped-view =
      split (all_heard (heard_payment l f))
      (λ t. subst (View l f) (sym (heard_of-stamped l f inside t))
      (one_place (max (heard_clock l f) (stamp_of (heard_payment l f)).time.0) (in_phase 2 (heard_payment l f))
      (record { number = refl; destinations = refl; heard = refl; times = refl })
      (le-max_left (heard_clock l f) (stamp_of (heard_payment l f)).time.0)
      (max-either (heard_clock l f) (stamp_of (heard_payment l f)).time.0 t)))
      (λ t. subst (View l f) (sym (heard_of-open l f inside t))
      (one_place (heard_clock l f) (heard_payment l f) (same_refl (heard_payment l f)) (le_refl _) (inl refl)))
    where
      max-either : (a b : ℕ) → all_heard (heard_payment l f) ≡ true → (max a b ≡ a) ⊎ ((max a b ≡ b) × (all_heard (heard_payment l f) ≡ true))
      max-either a b t =
          split (leb a b)
          (λ g. inr (max-eq_right (leb-true a b g), t))
          (λ g. inl (max-eq_left (le_of_lt (leb-false a b g))))

  -- the same of the whole step
  pub taken-view : (outgoing list : List ℕ) → View l f (taken l f outgoing list).state
  unfolding post_rule
  taken-view outgoing list =
      let v = stamped-view in
      record {
        group = v.group;
        own = v.own;
        count = v.count;
        self = same-trans (posted-same (after_stamping l f) (place_for l f) h) v.self;
        other = λ j g n. same-trans (posted-same (after_stamping l f) j g) (v.other j g n);
        clock-up = v.clock-up;
        clock-from = v.clock-from;
      }
