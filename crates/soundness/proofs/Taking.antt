-- Rules 1 to 3 keep every clause but "no stamped payment is free to post".
-- Assumes nothing.
use Prim.Native.Nat.{ℕ, ◌+◌, ◌^◌, ◌<◌, ◌≤◌, max}
use mathlib.Core.Path.{◌≡◌, refl, ap, ap₂, sym, ◌∙◌, subst}
use mathlib.Core.Bool.{Bool, true, false, not, cond, ◌&&◌, ◌||◌}
use mathlib.Core.Logic.{◌⊎◌, ⊎_elim}
use native.Mathlib.Nat.{le-max_left, le-max_right, le_trans}
use native.Mathlib.Omega.{arith}
use lib.Dec.{eqb, leb, ltb}
use borrow.Author.Tests.{eqb-true, le-ltb, ne_eqb, not-false}
use Rattle.ledgers.proofs.LedgerLaws.{has-empty}
use Rattle.common.proofs.TestLaws.{and_both, both, or_right, split}
use Rattle.ledgers.specs.Ledgers.{has, unlawful}
use Rattle.payment.specs.Payments.{all_heard, has_stamp, heard_from, in_phase, is_posted, is_time, last_time, proposal, stamp_of, time_from}
use Rattle.right.specs.Right.{heard_right, lawful, not_above_clock, number_not_zero, numbers_differ, times_differ}
use Rattle.payment.specs.Stamps.{below}
use Rattle.payment.specs.declared.Payment.{Payment}
use Rattle.payment.proofs.HearLaws.{Hears}
use Rattle.right.proofs.RightLaws.{later-stamp, proposed-own, waiting-others}
use Rattle.held.specs.Held.{at, limit, place_of}
use Rattle.checked.proofs.AfterLaws.{after-other, after-proposed, after-stamped}
use Rattle.refusals.specs.Refusals.{is_held}
use Rattle.ledger.specs.Step.{count_for, payment_for, place_for}
use Rattle.refusals.specs.declared.Incoming.{Incoming}
use Rattle.ledger.specs.declared.Ledger.{Ledger}
use Rattle.ledger.proofs.SoundLaws.{Almost}
use Rattle.soundness.specs.Shaped.{Shaped}
use Rattle.soundness.proofs.Apart.{Apart, apart-so, apart-sym}
use Rattle.soundness.proofs.Accepted.{Accepted, Base, place-used}
use Rattle.soundness.proofs.Hearing.{below-stamp, heard-apart, heard-right, stamp-time}
use Rattle.soundness.proofs.Replacing.{Fits}

-- what a frame brings to its payment: ledger w's time t, this phase and this clock
pub record Brings (l : Ledger) (f : Incoming) (w t phase clock : ℕ) (q : Payment) : Type 0 where
  pub heard : Hears (payment_for l f) q w t
  pub phase-is : q.phase ≡ phase
  pub destination : has f.destinations w ≡ true
  pub time : is_time t ≡ true
  pub fresh : (j : ℕ) → j < limit → j < l.count → (j ≡ place_for l f → ⊥) → heard_from (at l.payments j) w ≡ true
      → time_from (at l.payments j) w ≡ t → ⊥
  pub so_far : ((phase ≡ 0) × (heard_from q l.own.0 ≡ false)) ⊎ ((phase ≡ 1) × (heard_from q l.own.0 ≡ true))
  pub own-time : heard_from q l.own.0 ≡ true → time_from q l.own.0 ≤ clock
  pub own-late : heard_from q l.own.0 ≡ true → (j : ℕ) → j < limit → is_posted (at l.payments j) ≡ true
      → below (stamp_of (at l.payments j)) (proposal q.times l.own.0) ≡ true
  pub later : l.clock.0 ≤ clock
  pub in-time : clock ≤ last_time

-- a byte with a ledger in it is not 0
has_some : (d k : ℕ) → has d k ≡ true → d ≡ 0 → ⊥
has_some d k e z = both e (ap (λ x. has x k) z ∙ has-empty k)

max-le : (a b c : ℕ) → a ≤ c → b ≤ c → max a b ≤ c
max-le a b c h g = omega arith

right-phase : (phase : ℕ) (p : Payment) → heard_right p ≡ true → heard_right (in_phase phase p) ≡ true
unfolding heard_right
right-phase phase p e = e

not-above-so : (p : Payment) (own clock : ℕ) → (heard_from p own ≡ true → time_from p own ≤ clock)
    → (has_stamp p ≡ true → (stamp_of p).time.0 ≤ clock)
    → not_above_clock own clock p ≡ true
unfolding not_above_clock
not-above-so p own clock f g = and_both (side (heard_from p own) (time_from p own) f) (side (has_stamp p) (stamp_of p).time.0 g)
  where
    side : (b : Bool) (t : ℕ) → (b ≡ true → t ≤ clock) → not (b && ltb clock t) ≡ true
    side true t h = ap not (le-ltb _ _ (h refl))
    side false t h = refl

-- the place of the frame's payment among the others
module _ (l : Ledger) (s : Almost l) (shape : Shaped l) (f : Incoming) (a : Accepted l f) where
  pub place_inside : place_for l f < count_for l f
  place_inside =
      split (is_held l.payments f)
      (λ h. subst (λ c. cond c (place_of l.payments f.payment.0) l.count < cond c l.count (l.count + 1)) (sym h)
      (place-used l s shape f a h))
      (λ h. subst (λ c. cond c (place_of l.payments f.payment.0) l.count < cond c l.count (l.count + 1)) (sym h) (omega arith))

  pub place-others : (j : ℕ) → j < count_for l f → (j ≡ place_for l f → ⊥) → j < l.count
  place-others j =
      split (is_held l.payments f)
      (λ h. subst (λ c. j < cond c l.count (l.count + 1) → (j ≡ cond c (place_of l.payments f.payment.0) l.count → ⊥)
      → j < l.count) (sym h) (λ u o. u))
      (λ h. subst (λ c. j < cond c l.count (l.count + 1) → (j ≡ cond c (place_of l.payments f.payment.0) l.count → ⊥)
      → j < l.count) (sym h) (λ u o. omega arith))

pub place-grown : (l : Ledger) (f : Incoming) → l.count ≤ count_for l f
place-grown l f =
    split (is_held l.payments f)
    (λ h. subst (λ c. l.count ≤ cond c l.count (l.count + 1)) (sym h) (omega arith))
    (λ h. subst (λ c. l.count ≤ cond c l.count (l.count + 1)) (sym h) (omega arith))

pub own-among : (group own destinations : ℕ) → unlawful group own destinations ≡ false → has destinations own ≡ true
unfolding unlawful
own-among group own destinations e = not-false _ (or_right (leb (2 ^ group) destinations) _ (or_right (eqb destinations 0) _ e))

module _ (l : Ledger) (f : Incoming) (s : Almost l) (shape : Shaped l) (a : Accepted l f) (b : Base l f)
    (place-range : place_for l f < limit) (group : (1 ≤ l.own.0) × (l.own.0 ≤ 8)) (few : count_for l f ≤ limit)
    (w t phase clock : ℕ) (q : Payment) (n : Brings l f w t phase clock q) where
  right : heard_right q ≡ true
  right = heard-right (payment_for l f) q w t n.heard (ap (λ x. has x w) b.destinations ∙ n.destination) n.time b.right

  destinations-are : q.destinations ≡ f.destinations
  destinations-are = n.heard.destinations ∙ b.destinations

  lawful-now : lawful l.group l.own.0 q ≡ true
  lawful-now = ap (λ d. not (unlawful l.group l.own.0 d)) destinations-are ∙ ap not a.destinations

  own-destination : has f.destinations l.own.0 ≡ true
  own-destination = own-among l.group l.own.0 f.destinations a.destinations

  apart-now : (j : ℕ) → j < limit → j < l.count → (j ≡ place_for l f → ⊥) → Apart q (at l.payments j)
  apart-now j h u o = heard-apart (payment_for l f) q (at l.payments j) w t n.heard (n.fresh j h u o) (b.apart j h u o)

  -- where everybody is heard, so is this ledger
  all_own : all_heard q ≡ true → heard_from q l.own.0 ≡ true
  all_own e = ap (λ x. has x l.own.0) (eqb-true _ _ e ∙ destinations-are) ∙ own-destination

  -- any payment that keeps the same, whatever its phase
  module _ (r : Payment) (number : r.number ≡ q.number) (dest : r.destinations ≡ q.destinations) where
    numbered-now : number_not_zero r ≡ true
    numbered-now = ap (λ x. not (eqb x.0 0)) (number ∙ n.heard.number) ∙ ap (λ x. not (eqb x 0)) b.number ∙ ap not a.payment

    other-number-now : (j : ℕ) → j < limit → j < l.count → (j ≡ place_for l f → ⊥)
        → (numbers_differ r (at l.payments j) ≡ true) × (numbers_differ (at l.payments j) r ≡ true)
    other-number-now j h u o =
        let mine : r.number.0 ≡ f.payment.0 = ap (λ x. x.0) (number ∙ n.heard.number) ∙ b.number in
        (ap not (ne_eqb _ _ (λ e. b.other j h u o (sym e ∙ mine))), ap not (ne_eqb _ _ (λ e. b.other j h u o (e ∙ mine))))

  module _ (r : Payment) (number : r.number ≡ q.number) (dest : r.destinations ≡ q.destinations)
      (same : (j : ℕ) → Apart q (at l.payments j) → Apart r (at l.payments j)) where
    other-times-now : (j : ℕ) → j < limit → j < l.count → (j ≡ place_for l f → ⊥)
        → (times_differ r (at l.payments j) ≡ true) × (times_differ (at l.payments j) r ≡ true)
    other-times-now j h u o =
        let mine = same j (apart-now j h u o) in
        (apart-so r (at l.payments j) mine, apart-so (at l.payments j) r (apart-sym r (at l.payments j) mine))

  pub fits-stamped : all_heard q ≡ true
      → Fits l (count_for l f) (record { 0 = max clock (stamp_of q).time.0 }) (place_for l f) (in_phase 2 q)
  fits-stamped e =
      record {
        place = place-range;
        places = shape.places;
        inside = place_inside l s shape f a;
        few = few;
        others = place-others l s shape f a;
        grown = place-grown l f;
        later = le_trans n.later (le-max_left clock (stamp_of q).time.0);
        time = max-le clock (stamp_of q).time.0 last_time n.in-time (stamp-time q right);
        number = numbered-now (in_phase 2 q) refl refl;
        destinations = lawful-now;
        heard = right-phase 2 q right;
        not-above =
            not-above-so (in_phase 2 q) l.own.0 (max clock (stamp_of q).time.0)
            (λ h. le_trans (n.own-time h) (le-max_left clock (stamp_of q).time.0))
            (λ h. le-max_right clock (stamp_of q).time.0);
        phase = later-stamp l.own.0 (in_phase 2 q) (λ z. omega arith) (λ z. omega arith) refl ∙ e;
        unposted = refl;
        other-number = other-number-now (in_phase 2 q) refl refl;
        other-times = other-times-now (in_phase 2 q) refl refl (λ j x. x);
        behind-posted = λ j h u o p.
            after-stamped l.own.0 (stamp_of (at l.payments j)) (in_phase 2 q) refl
            ∙ below-stamp (stamp_of (at l.payments j)) q l.own.0 group.0 group.1 (all_own e) (n.own-late (all_own e) j h p);
      }

  pub fits-open : all_heard q ≡ false → Fits l (count_for l f) (record { 0 = clock }) (place_for l f) q
  fits-open e =
      record {
        place = place-range;
        places = shape.places;
        inside = place_inside l s shape f a;
        few = few;
        others = place-others l s shape f a;
        grown = place-grown l f;
        later = n.later;
        time = n.in-time;
        number = numbered-now q refl refl;
        destinations = lawful-now;
        heard = right;
        not-above = not-above-so q l.own.0 clock n.own-time (λ h. both h unstamped);
        phase =
            ⊎_elim
            (λ x. waiting-others l.own.0 q (n.phase-is ∙ x.0) x.1 ∙ ap not (ne_eqb _ _ (has_some q.heard w n.heard.heard)))
            (λ x. proposed-own l.own.0 q (n.phase-is ∙ x.0) x.1 ∙ ap not e)
            n.so_far;
        unposted = ne_eqb q.phase 3 (λ z. omega (arith, phase-small, z));
        other-number = other-number-now q refl refl;
        other-times = other-times-now q refl refl (λ j x. x);
        behind-posted = λ j h u o p.
            ⊎_elim
            (λ x. after-other l.own.0 (stamp_of (at l.payments j)) q (λ z. two (sym (n.phase-is ∙ x.0) ∙ z))
            (λ z. one (sym (n.phase-is ∙ x.0) ∙ z)))
            (λ x. after-proposed l.own.0 (stamp_of (at l.payments j)) q (n.phase-is ∙ x.0) ∙ n.own-late x.1 j h p)
            n.so_far;
      }
    where
      one : ◌≡◌ {A = ℕ} 0 1 → ⊥
      one z = omega arith

      two : ◌≡◌ {A = ℕ} 0 2 → ⊥
      two z = omega arith

      phase-small : q.phase ≤ 1
      phase-small =
          ⊎_elim
          (λ x. subst (λ m. m ≤ 1) (sym (n.phase-is ∙ x.0)) (omega arith))
          (λ x. subst (λ m. m ≤ 1) (sym (n.phase-is ∙ x.0)) (omega arith))
          n.so_far

      unstamped : has_stamp q ≡ false
      unstamped =
          ap₂ ◌||◌ (ne_eqb q.phase 2 (λ z. omega (arith, phase-small, z))) (ne_eqb q.phase 3 (λ z. omega (arith, phase-small, z)))
