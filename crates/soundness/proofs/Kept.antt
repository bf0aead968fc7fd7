-- A sound state stays sound when a frame is taken [S12].
-- Assumes nothing.
use Prim.Native.Nat.{ℕ, ◌+◌, ◌<◌, ◌≤◌, max}
use mathlib.Core.Path.{◌≡◌, refl, ap, sym, ◌∙◌, subst}
use mathlib.Core.List.{List}
use mathlib.Core.Bool.{Bool, true, false, cond}
use native.Mathlib.Omega.{arith}
use lib.ListN.{length, length-set, set}
use lib.Seq.{get_or-set_other, get_or-set_same, set-set}
use borrow.Author.Tests.{eqb-false, eqb-true}
use Rattle.common.proofs.PlaceLaws.{by_place, get_or-listed, length-listed}
use Rattle.common.proofs.TestLaws.{split}
use Rattle.frame.specs.declared.Time.{Time}
use Rattle.payment.specs.Payments.{all_heard, hear, in_phase, posted, stamp_of}
use Rattle.payment.specs.declared.Payment.{Payment}
use Rattle.held.specs.Held.{at, limit, no_payment, place_of}
use Rattle.posting.specs.Posting.{after_posting, is_free}
use Rattle.ledger.specs.Sound.{sound}
use Rattle.refusals.specs.Refusals.{first_given, is_held, is_propose}
use Rattle.ledger.specs.Table.{value_rows}
use Rattle.ledger.specs.Step.{count_for, after_stamping, multicast_rule, new_own_time, payment_for, place_for}
use Rattle.ledger.specs.Step.{propose_rule, after_hearing, post_rule, stamp_rule, taken}
use Rattle.refusals.specs.declared.Incoming.{Incoming}
use Rattle.ledger.specs.declared.Ledger.{Ledger}
use Rattle.ledger.proofs.JudgeLaws.{count-range, place-range}
use Rattle.ledger.proofs.SoundLaws.{Almost, clauses, sound-so}
use Rattle.ledger.proofs.StepLaws.{stamp-not, stamp-now}
use Rattle.soundness.specs.Shaped.{Shaped}
use Rattle.soundness.proofs.Accepted.{Accepted, Base, accepted, base}
use Rattle.soundness.proofs.Bringing.{brings-multicast, brings-propose, own_range}
use Rattle.soundness.proofs.Replacing.{replaced, with-payment}
use Rattle.soundness.proofs.Settling.{settles}
use Rattle.soundness.proofs.Taking.{Brings, fits-open, fits-stamped}

-- what the frame's payment becomes by rules 1 and 2, and the clock beside it
abbrev pub heard_payment : Ledger → Incoming → Payment
heard_payment l f = cond (is_propose f) (hear (payment_for l f) f.source.0 f.time)
    (in_phase 1 (hear (payment_for l f) l.own.0 (new_own_time l)))

abbrev pub heard_clock : Ledger → Incoming → ℕ
heard_clock l f = cond (is_propose f) l.clock.0 (l.clock.0 + 1)

-- the ledger that is heard by rules 1 and 2, its time, and the payment's phase then
abbrev pub speaker : Ledger → Incoming → ℕ
speaker l f = cond (is_propose f) f.source.0 l.own.0

abbrev pub spoken_time : Ledger → Incoming → ℕ
spoken_time l f = cond (is_propose f) f.time.0 (l.clock.0 + 1)

abbrev heard_phase : Ledger → Incoming → ℕ
heard_phase l f = cond (is_propose f) (payment_for l f).phase 1

received-form : (l : Ledger) (f : Incoming) → after_hearing l f ≡ with-payment l (count_for l f) (record { 0 = heard_clock l f })
    (place_for l f) (heard_payment l f)
unfolding multicast_rule propose_rule
received-form l f = go (is_propose f)
  where
    go : (b : Bool)
        → cond b (propose_rule l f) (multicast_rule l f)
        ≡ with-payment l (count_for l f) (record { 0 = cond b l.clock.0 (l.clock.0 + 1) }) (place_for l f)
        (cond b (hear (payment_for l f) f.source.0 f.time) (in_phase 1 (hear (payment_for l f) l.own.0 (new_own_time l))))
    go true = refl
    go false = refl

-- after rule 3: the payment at its place, stamped if everybody is heard
module _ (l : Ledger) (f : Incoming) (inside : place_for l f < length l.payments) where
  abbrev received-ledger : Ledger
  received-ledger = with-payment l (count_for l f) (record { 0 = heard_clock l f }) (place_for l f) (heard_payment l f)

  at_place : at received-ledger.payments (place_for l f) ≡ heard_payment l f
  at_place = get_or-set_same l.payments (place_for l f) (heard_payment l f) no_payment inside

  pub heard_of-stamped : all_heard (heard_payment l f) ≡ true
      → after_stamping l f ≡ with-payment l (count_for l f) (record { 0 = max (heard_clock l f) (stamp_of (heard_payment l f)).time.0 })
      (place_for l f) (in_phase 2 (heard_payment l f))
  heard_of-stamped e =
      ap (λ m. stamp_rule m (place_for l f)) (received-form l f)
      ∙ stamp-now received-ledger (place_for l f) (ap (λ p. p.heard) at_place ∙ eqb-true _ _ e ∙ sym (ap (λ p. p.destinations) at_place))
      ∙ ap (λ p. record {
        group = l.group;
        own = l.own;
        clock = record { 0 = max (heard_clock l f) (stamp_of p).time.0 };
        count = count_for l f;
        payments = set (set l.payments (place_for l f) (heard_payment l f)) (place_for l f) (in_phase 2 p);
      }) at_place
      ∙ ap (λ ps. record {
        group = l.group;
        own = l.own;
        clock = record { 0 = max (heard_clock l f) (stamp_of (heard_payment l f)).time.0 };
        count = count_for l f;
        payments = ps;
      }) (set-set l.payments (place_for l f) (heard_payment l f) (in_phase 2 (heard_payment l f)))

  pub heard_of-open : all_heard (heard_payment l f) ≡ false → after_stamping l f ≡ received-ledger
  heard_of-open e =
      ap (λ m. stamp_rule m (place_for l f)) (received-form l f)
      ∙ stamp-not received-ledger (place_for l f) (λ z. eqb-false _ _ e
      (sym (ap (λ p. p.heard) at_place) ∙ z ∙ ap (λ p. p.destinations) at_place))

-- the shape is kept by one payment replaced, and by posting
shaped-with : (l : Ledger) (count : ℕ) (clock : Time) (i : ℕ) (q : Payment) → Shaped l → i < limit → length q.times ≡ 8 → q.heard < 256
    → Shaped (with-payment l count clock i q)
shaped-with l count clock i q shape hi size byte =
    record {
      places = length-set l.payments i q ∙ shape.places;
      times = λ j h. each (λ p. length p.times ≡ 8) j size (shape.times j h);
      heard = λ j h. each (λ p. p.heard < 256) j byte (shape.heard j h);
    }
  where
    each : (A : Payment → Type 0) (j : ℕ) → A q → A (at l.payments j) → A (at (set l.payments i q) j)
    each A j new old =
        by_place j i
        (λ e. subst A (sym (ap (at (set l.payments i q)) e
        ∙ get_or-set_same l.payments i q no_payment (subst (λ n. i < n) (sym shape.places) hi))) new)
        (λ o. subst A (sym (get_or-set_other l.payments i j q no_payment o)) old)

abbrev pub posted-ledger : Ledger → Ledger
posted-ledger l =
    record { group = l.group; own = l.own; clock = l.clock; count = l.count; payments = after_posting l.payments l.own.0 }

shaped-posted : (l : Ledger) → Shaped l → Shaped (posted-ledger l)
unfolding after_posting
shaped-posted l shape =
    record {
      places = length-listed limit now;
      times = λ j h. subst (λ p. length p.times ≡ 8) (sym (get_or-listed limit now j no_payment h))
          (each (λ p. length p.times ≡ 8) (is_free l.payments l.own.0 j) (at l.payments j) (shape.times j h)
          (shape.times j h));
      heard = λ j h. subst (λ p. p.heard < 256) (sym (get_or-listed limit now j no_payment h))
          (each (λ p. p.heard < 256) (is_free l.payments l.own.0 j) (at l.payments j) (shape.heard j h) (shape.heard j h));
    }
  where
    now : ℕ → Payment
    now j = cond (is_free l.payments l.own.0 j) (in_phase posted (at l.payments j)) (at l.payments j)

    each : (A : Payment → Type 0) (b : Bool) (p : Payment) → A (in_phase posted p) → A p → A (cond b (in_phase posted p) p)
    each A true p x y = x
    each A false p x y = y

count-few : (l : Ledger) (f : Incoming) → l.count ≤ limit → place_for l f < limit → count_for l f ≤ limit
count-few l f h =
    split (is_held l.payments f)
    (λ t. subst (λ b. cond b (place_of l.payments f.payment.0) l.count < limit → cond b l.count (l.count + 1) ≤ limit)
    (sym t) (λ p. h))
    (λ t. subst (λ b. cond b (place_of l.payments f.payment.0) l.count < limit → cond b l.count (l.count + 1) ≤ limit)
    (sym t) (λ p. omega arith))

-- a frame that no row refuses
module _ (l : Ledger) (f : Incoming) (is-sound : sound l ≡ true) (shape : Shaped l) (e : first_given (value_rows l f) ≡ 0) where
  s : Almost l
  s = (clauses l is-sound).kept

  a : Accepted l f
  a = accepted l f e

  b : Base l f
  b = base l f (clauses l is-sound).kept shape (accepted l f e)

  within : place_for l f < limit
  within = place-range l f is-sound e

  inside : place_for l f < length l.payments
  inside = subst (λ n. place_for l f < n) (sym shape.places) (place-range l f is-sound e)

  -- what a frame brings that is a PROPOSE, or is not
  abbrev of-kind : Bool → Type 0
  of-kind c =
      Brings l f (cond c f.source.0 l.own.0) (cond c f.time.0 (l.clock.0 + 1)) (cond c (payment_for l f).phase 1)
      (cond c l.clock.0 (l.clock.0 + 1))
      (cond c (hear (payment_for l f) f.source.0 f.time) (in_phase 1 (hear (payment_for l f) l.own.0 (new_own_time l))))

  -- what the frame brings, whichever kind it is
  pub brings : Brings l f (speaker l f) (spoken_time l f) (heard_phase l f) (heard_clock l f) (heard_payment l f)
  brings = split (is_propose f) (λ k. whichever (sym k) (brings-propose l f s a b k)) (λ k. whichever (sym k) (brings-multicast l f s a b k))
    where
      whichever : {x y : Bool} → x ≡ y → of-kind x → of-kind y
      whichever q = subst of-kind q

  few : count_for l f ≤ limit
  few = count-few l f (count-range l s.range) within

  pub heard-almost : Almost (after_stamping l f)
  heard-almost =
      split (all_heard (heard_payment l f))
      (λ t. subst Almost (sym (heard_of-stamped l f inside t))
      (replaced l (count_for l f) _ (place_for l f) (in_phase 2 (heard_payment l f)) s
      (fits-stamped l f s shape a b within (own_range l s.range) few (speaker l f) (spoken_time l f) (heard_phase l f) (heard_clock l f)
      (heard_payment l f) brings t)))
      (λ t. subst Almost (sym (heard_of-open l f inside t))
      (replaced l (count_for l f) _ (place_for l f) (heard_payment l f) s
      (fits-open l f s shape a b within (own_range l s.range) few (speaker l f) (spoken_time l f) (heard_phase l f) (heard_clock l f)
      (heard_payment l f) brings t)))

  pub heard-shaped : Shaped (after_stamping l f)
  heard-shaped =
      split (all_heard (heard_payment l f))
      (λ t. subst Shaped (sym (heard_of-stamped l f inside t))
      (shaped-with l (count_for l f) _ (place_for l f) (in_phase 2 (heard_payment l f)) shape within brings.heard.size
      brings.heard.byte))
      (λ t. subst Shaped (sym (heard_of-open l f inside t))
      (shaped-with l (count_for l f) _ (place_for l f) (heard_payment l f) shape within brings.heard.size brings.heard.byte))

  pub taken-state : (outgoing list : List ℕ) → (taken l f outgoing list).state ≡ posted-ledger (after_stamping l f)
  unfolding post_rule
  taken-state outgoing list = refl

  pub taken-sound : (outgoing list : List ℕ) → sound (taken l f outgoing list).state ≡ true
  taken-sound outgoing list = ap sound (taken-state outgoing list)
      ∙ sound-so (posted-ledger (after_stamping l f)) (settles (after_stamping l f) heard-almost)

  pub taken-shaped : (outgoing list : List ℕ) → Shaped (taken l f outgoing list).state
  taken-shaped outgoing list = subst Shaped (sym (taken-state outgoing list)) (shaped-posted (after_stamping l f) heard-shaped)
