-- What a taken MULTICAST and a taken PROPOSE bring to their payment.
-- Assumes nothing.
use Prim.Native.Nat.{ℕ, suc, ◌+◌, ◌-◌, ◌<◌, ◌≤◌}
use mathlib.Core.Path.{◌≡◌, refl, ap, sym, ◌∙◌, subst}
use mathlib.Core.Bool.{true, false, not, ◌&&◌, ◌||◌}
use mathlib.Core.Logic.{inl, inr, ⊎_elim}
use native.Mathlib.Nat.{le_refl}
use native.Mathlib.Omega.{arith}
use lib.Dec.{eqb, leb, ltb}
use borrow.Author.Tests.{eq-eqb, eqb-false, le-leb, leb-true, ltb-false, ne_eqb, not-false, not-true}
use Rattle.common.proofs.PlaceLaws.{any_none}
use Rattle.common.proofs.TestLaws.{and_both, and-go, and_left, and_right, both, or-go, or_left, or_right, split}
use Rattle.ledgers.specs.Ledgers.{has, is_group, is_ledger_of}
use Rattle.payment.specs.Payments.{has_stamp, hear, heard_from, in_phase, is_posted, is_stamped}
use Rattle.payment.specs.Payments.{keeps, last_time, proposal, proposed, stamp_of, time_from}
use Rattle.right.specs.Right.{not_above_clock}
use Rattle.payment.specs.Stamps.{below}
use Rattle.payment.specs.declared.Payment.{Payment}
use Rattle.payment.proofs.HearLaws.{Hears, hear-phase, hears}
use Rattle.payment.proofs.KeptLaws.{keeps-proposes}
use Rattle.payment.proofs.StampLaws.{below-time}
use Rattle.ledgers.proofs.LedgerLaws.{place}
use Rattle.held.specs.Held.{at, is_number, limit}
use Rattle.checked.proofs.ReflectLaws.{each_at}
use Rattle.ledger.specs.Sound.{in_range}
use Rattle.refusals.specs.Refusals.{other_destinations, is_propose, another_time}
use Rattle.ledger.specs.Step.{new_own_time, payment_for, place_for}
use Rattle.refusals.specs.declared.Incoming.{Incoming}
use Rattle.ledger.specs.declared.Ledger.{Ledger}
use Rattle.ledger.proofs.JudgeLaws.{clock-range}
use Rattle.ledger.proofs.SoundLaws.{Almost}
use Rattle.soundness.proofs.Accepted.{Accepted, Base, own_below}
use Rattle.soundness.proofs.Replacing.{posted-held}
use Rattle.soundness.proofs.Taking.{Brings, own-among}

stamp-below : (p : Payment) (own clock : ℕ) → has_stamp p ≡ true → not_above_clock own clock p ≡ true → (stamp_of p).time.0 ≤ clock
unfolding not_above_clock
stamp-below p own clock h e =
    ltb-false _ _ (sym (and-go (ltb clock (stamp_of p).time.0) h)
    ∙ not-true _ (and_right (not (heard_from p own && ltb clock (time_from p own))) _ e))

-- the ranges of a sound ledger
module _ (l : Ledger) (range : in_range l ≡ true) where
  group-is : is_ledger_of l.group l.own.0 ≡ true
  group-is = and_left (is_ledger_of l.group l.own.0) _ range

  pub group-range : l.group ≤ 8
  group-range = leb-true _ _ (and_right (leb 1 l.group) _ (and_left (is_group l.group) _ group-is))

  pub own_range : (1 ≤ l.own.0) × (l.own.0 ≤ 8)
  own_range =
      let both_own = and_right (is_group l.group) _ group-is in
      let below-group : l.own.0 ≤ l.group = leb-true _ _ (and_right (leb 1 l.own.0) _ both_own) in
      let top = group-range in
      (leb-true _ _ (and_left (leb 1 l.own.0) _ both_own), omega arith)

module _ (l : Ledger) (s : Almost l) where
  -- a posted payment's stamp is not above the clock
  posted-time : (j : ℕ) → j < limit → is_posted (at l.payments j) ≡ true → (stamp_of (at l.payments j)).time.0 ≤ l.clock.0
  posted-time j h p =
      stamp-below (at l.payments j) l.own.0 l.clock.0
      (split (is_stamped (at l.payments j)) (λ t. ap (λ b. b || is_posted (at l.payments j)) t) (λ t. or-go _ t ∙ p))
      (each_at l.payments l.count (not_above_clock l.own.0 l.clock.0) s.clock j h (posted-held l s j h p))

module _ (l : Ledger) (f : Incoming) (s : Almost l) (a : Accepted l f) (b : Base l f) where
  abbrev pub multicasted : Payment
  multicasted = in_phase proposed (hear (payment_for l f) l.own.0 (new_own_time l))

  multicast-heard : Hears (payment_for l f) multicasted l.own.0 (l.clock.0 + 1)
  multicast-heard =
      let v = hears (payment_for l f) l.own.0 (new_own_time l) (own_range l s.range).0 (own_range l s.range).1 b.byte
      b.size in
      record {
        number = v.number;
        destinations = v.destinations;
        heard = v.heard;
        time = v.time;
        heard-other = v.heard-other;
        time-other = v.time-other;
        byte = v.byte;
        size = v.size;
      }

  clock-left : is_propose f ≡ false → l.clock.0 < last_time
  clock-left k =
      let top = clock-range l s.range in
      let other : l.clock.0 ≡ last_time → ⊥ = eqb-false _ _ (sym (and-go (eqb l.clock.0 last_time) (ap not k)) ∙ a.not-spent) in
      omega arith

  pub brings-multicast : is_propose f ≡ false → Brings l f l.own.0 (l.clock.0 + 1) 1 (l.clock.0 + 1) multicasted
  brings-multicast k =
      let left = clock-left k in
      record {
        heard = multicast-heard;
        phase-is = refl;
        destination = own-among l.group l.own.0 f.destinations a.destinations;
        time = and_both (le-leb 1 (l.clock.0 + 1) (omega arith)) (le-leb (l.clock.0 + 1) last_time (omega arith));
        fresh = λ j h u o e t.
            let late = own_below (at l.payments j) l.own.0 l.clock.0 e
            (each_at l.payments l.count (not_above_clock l.own.0 l.clock.0) s.clock j h u) in
            omega (arith, late, t);
        so_far = inr (refl, multicast-heard.heard);
        own-time = λ e. subst (λ n. n ≤ l.clock.0 + 1) (sym multicast-heard.time) (le_refl _);
        own-late = λ e j h p.
            let early = posted-time l s j h p in
            below-time (stamp_of (at l.payments j)) (proposal multicasted.times l.own.0)
            (subst (λ n. (stamp_of (at l.payments j)).time.0 < n) (sym multicast-heard.time) (omega arith));
        later = omega arith;
        in-time = omega arith;
      }

  source_is : is_propose f ≡ true
      → (f.source.0 ≡ 0 → ⊥) × (f.source.0 ≤ l.group) × (has f.destinations f.source.0 ≡ true) × (f.source.0 ≡ l.own.0 → ⊥)
  source_is k =
      let e₀ = sym (and-go _ k) ∙ a.source in
      let e₁ = or_right (eqb f.source.0 0) _ e₀ in
      let e₂ = or_right (ltb l.group f.source.0) _ e₁ in (
        eqb-false _ _ (or_left (eqb f.source.0 0) _ e₀),
        ltb-false _ _ (or_left (ltb l.group f.source.0) _ e₁),
        not-false _ (or_left (not (has f.destinations f.source.0)) _ e₂),
        eqb-false _ _ (or_right (not (has f.destinations f.source.0)) _ e₂),
      )

  propose-heard : is_propose f ≡ true → Hears (payment_for l f) (hear (payment_for l f) f.source.0 f.time) f.source.0 f.time.0
  propose-heard k =
      let is = source_is k in
      let top = group-range l s.range in
      let some : f.source.0 ≡ suc (f.source.0 - 1) = place f.source.0 is.0 in
      let within : f.source.0 ≤ l.group = is.1 in
      hears (payment_for l f) f.source.0 f.time (omega arith) (omega arith) b.byte b.size

  -- this ledger's own time is left as it was
  pub own-kept : (k : is_propose f ≡ true)
      → (heard_from (hear (payment_for l f) f.source.0 f.time) l.own.0 ≡ heard_from (payment_for l f) l.own.0)
      × (time_from (hear (payment_for l f) f.source.0 f.time) l.own.0 ≡ time_from (payment_for l f) l.own.0)
  own-kept k =
      let v = propose-heard k in
      let range = own_range l s.range in
      let is : l.own.0 ≡ suc (l.own.0 - 1) = place l.own.0 (λ e. omega arith) in
      let other : suc (l.own.0 - 1) ≡ f.source.0 → ⊥ = λ e. (source_is k).3 (sym e ∙ sym is) in
      let q = hear (payment_for l f) f.source.0 f.time in (
        subst (λ n. heard_from q n ≡ heard_from (payment_for l f) n) (sym is) (v.heard-other (l.own.0 - 1) (omega arith) other),
        subst (λ n. time_from q n ≡ time_from (payment_for l f) n) (sym is) (v.time-other (l.own.0 - 1) (omega arith) other),
      )

  fresh-propose : is_propose f ≡ true → (j : ℕ) → j < limit → j < l.count → (j ≡ place_for l f → ⊥)
      → heard_from (at l.payments j) f.source.0 ≡ true → time_from (at l.payments j) f.source.0 ≡ f.time.0 → ⊥
  fresh-propose k j h u o e t =
      let none = or_right (another_time l.payments f) _ (sym (and-go _ k)
      ∙ or_right (other_destinations l.payments f) _ a.conflict-free) in
      let at_j = any_none limit (λ i. not (is_number l.payments f.payment.0 i) && keeps (at l.payments i) f.source.0
      f.time.0) none j h in
      let free = sym (and-go (keeps (at l.payments j) f.source.0 f.time.0) (ap not (ne_eqb _ _ (b.other j h u o)))) ∙ at_j in
      both (and_both e (eq-eqb _ _ t)) (sym (keeps-proposes (at l.payments j) f.source.0 f.time.0) ∙ free)

  pub brings-propose : is_propose f ≡ true
      → Brings l f f.source.0 f.time.0 (payment_for l f).phase l.clock.0 (hear (payment_for l f) f.source.0 f.time)
  brings-propose k =
      let own = own-kept k in
      record {
        heard = propose-heard k;
        phase-is = hear-phase (payment_for l f) f.source.0 f.time;
        destination = (source_is k).2;
        time = not-false _ (sym (and-go _ k) ∙ a.time);
        fresh = fresh-propose k;
        so_far = ⊎_elim (λ x. inl (x.0, own.0 ∙ x.1)) (λ x. inr (x.0, own.0 ∙ x.1)) b.phase;
        own-time = λ e. subst (λ n. n ≤ l.clock.0) (sym own.1) (b.own-time (sym own.0 ∙ e));
        own-late = λ e j h p.
            subst (λ n. below (stamp_of (at l.payments j)) (record { time = record { 0 = n }; ledger = l.own }) ≡ true) (sym own.1)
            (b.posted j h p (phase-own (sym own.0 ∙ e)));
        later = le_refl _;
        in-time = clock-range l s.range;
      }
    where
      phase-own : heard_from (payment_for l f) l.own.0 ≡ true → (payment_for l f).phase ≡ 1
      phase-own e = ⊎_elim (λ x. both e x.1) (λ x. x.0) b.phase
