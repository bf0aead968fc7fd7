-- A frame that is taken: what each row of the table that did not apply says, and what the frame's payment is like.
-- Assumes nothing.
use Prim.Native.Nat.{ℕ, suc, ◌<◌, ◌≤◌}
use mathlib.Core.Path.{◌≡◌, refl, ap, sym, ◌∙◌, subst}
use mathlib.Core.List.{List}
use mathlib.Core.Bool.{Bool, true, false, not, cond, ◌&&◌}
use mathlib.Core.Logic.{◌⊎◌, inl, inr}
use native.Mathlib.Omega.{arith}
use lib.Dec.{eqb, ltb}
use lib.ListN.{length}
use borrow.Author.Tests.{eq-eqb, eqb-false, eqb-true, ltb-false, ltb-true, not-false, not-true}
use Rattle.ledgers.proofs.LedgerLaws.{has-empty}
use Rattle.common.specs.Places.{every}
use Rattle.common.proofs.PlaceLaws.{first_holds, first-missing}
use Rattle.common.proofs.TestLaws.{and_both, and-go, and_left, both, or_left, or_right, split}
use Rattle.ledgers.specs.Ledgers.{has, unlawful}
use Rattle.payment.specs.Payments.{has_proposal, has_stamp, heard_from, is_posted, is_proposed}
use Rattle.payment.specs.Payments.{is_waiting, new_payment, proposal, stamp_of, time_from, time_in}
use Rattle.right.specs.Right.{heard_right, not_above_clock, numbers_differ, times_differ, phase_right, unused}
use Rattle.payment.specs.Stamps.{below}
use Rattle.payment.specs.declared.Payment.{Payment}
use Rattle.held.specs.Held.{at, holds, is_number, limit, place_of}
use Rattle.refusals.specs.Refusals.{bad_source, bad_time, conflict, other_destinations, first_given, no_room}
use Rattle.refusals.specs.Refusals.{held_one, is_held, is_propose, another_time, repeat, clock_at_end}
use Rattle.ledger.specs.Table.{value_rows}
use Rattle.ledger.specs.Step.{payment_for, place_for}
use Rattle.refusals.specs.declared.Incoming.{Incoming}
use Rattle.ledger.specs.declared.Ledger.{Ledger}
use Rattle.ledger.specs.Sound.{each}
use Rattle.ledger.proofs.SoundLaws.{Almost}
use Rattle.checked.proofs.AfterLaws.{after-proposed}
use Rattle.checked.proofs.ReflectLaws.{each_at, pairs-at, posted-at, unused-at}
use Rattle.right.proofs.RightLaws.{later-none, later-stamp, proposed-others, waiting-own}
use Rattle.soundness.specs.Shaped.{Shaped}
use Rattle.soundness.proofs.Apart.{Apart, apart-at, apart-sym}
use Rattle.refusals.proofs.TableLaws.{all_numbered, none-given}

-- no row of the table applies
pub record Accepted (l : Ledger) (f : Incoming) : Type 0 where
  pub payment : eqb f.payment.0 0 ≡ false
  pub destinations : unlawful l.group l.own.0 f.destinations ≡ false
  pub source : bad_source l.group l.own.0 f ≡ false
  pub time : bad_time f ≡ false
  pub conflict-free : conflict l.payments f ≡ false
  pub no-repeat : repeat l.payments f ≡ false
  pub room : no_room l.count l.payments f ≡ false
  pub not-spent : clock_at_end l.clock.0 f ≡ false

pub accepted : (l : Ledger) (f : Incoming) → first_given (value_rows l f) ≡ 0 → Accepted l f
unfolding all_numbered
accepted l f e =
    let row = none-given (value_rows l f) refl e in
    record {
      payment = row 0 (omega arith);
      destinations = row 1 (omega arith);
      source = row 2 (omega arith);
      time = row 3 (omega arith);
      conflict-free = row 4 (omega arith);
      no-repeat = row 5 (omega arith);
      room = row 6 (omega arith);
      not-spent = row 7 (omega arith);
    }

-- the first place of a number has that number
pub found : (payments : List Payment) (n : ℕ) → holds payments n ≡ true → (at payments (place_of payments n)).number.0 ≡ n
found payments n e = eqb-true _ _ (first_holds limit (is_number payments n) (ltb-true _ _ e))

-- where a number is not held, no place has it
pub missing : (payments : List Payment) (n i : ℕ) → holds payments n ≡ false → i < limit → (at payments i).number.0 ≡ n → ⊥
missing payments n i e h = eqb-false _ _ (first-missing limit (is_number payments n) (ltb-false _ _ e) i h)

-- the frame's payment before it is heard
pub record Base (l : Ledger) (f : Incoming) : Type 0 where
  pub number : (payment_for l f).number.0 ≡ f.payment.0
  pub destinations : (payment_for l f).destinations ≡ f.destinations
  pub byte : (payment_for l f).heard < 256
  pub size : length (payment_for l f).times ≡ 8
  pub right : heard_right (payment_for l f) ≡ true
  -- what is heard of it so far
  pub phase : (((payment_for l f).phase ≡ 0) × (heard_from (payment_for l f) l.own.0 ≡ false))
      ⊎ (((payment_for l f).phase ≡ 1) × (heard_from (payment_for l f) l.own.0 ≡ true))
  pub own-time : heard_from (payment_for l f) l.own.0 ≡ true → time_from (payment_for l f) l.own.0 ≤ l.clock.0
  -- against the others
  pub other : (j : ℕ) → j < limit → j < l.count → (j ≡ place_for l f → ⊥) → (at l.payments j).number.0 ≡ f.payment.0 → ⊥
  pub apart : (j : ℕ) → j < limit → j < l.count → (j ≡ place_for l f → ⊥) → Apart (payment_for l f) (at l.payments j)
  pub posted : (j : ℕ) → j < limit → is_posted (at l.payments j) ≡ true → (payment_for l f).phase ≡ 1
      → below (stamp_of (at l.payments j)) (proposal (payment_for l f).times l.own.0) ≡ true

-- a payment that is taken in
module _ (l : Ledger) (f : Incoming) (n : is_held l.payments f ≡ false) where
  is-new : payment_for l f ≡ new_payment f.payment.0 f.destinations
  is-new = ap (λ b. cond b (held_one l.payments f) (new_payment f.payment.0 f.destinations)) n

  unheard : (k : ℕ) → heard_from (payment_for l f) k ≡ false
  unheard k = ap (λ p. heard_from p k) is-new ∙ has-empty k

  new-right : heard_right (new_payment f.payment.0 f.destinations) ≡ true
  unfolding heard_right every has time_in
  new-right = refl

  pub base-new : Base l f
  base-new =
      record {
        number = ap (λ p. p.number.0) is-new;
        destinations = ap (λ p. p.destinations) is-new;
        byte = subst (λ p. p.heard < 256) (sym is-new) (omega arith);
        size = ap (λ p. length p.times) is-new;
        right = ap heard_right is-new ∙ new-right;
        phase = inl (ap (λ p. p.phase) is-new, unheard l.own.0);
        own-time = λ e. both e (unheard l.own.0);
        other = λ j h u o. missing l.payments f.payment.0 j n h;
        apart = λ j h u o k g a. both a (unheard (suc k));
        posted = λ j h p e. absurd (zero_one (sym (ap (λ p. p.phase) is-new) ∙ e));
      }
    where
      zero_one : ◌≡◌ {A = ℕ} 0 1 → ⊥
      zero_one e = omega arith

-- what soundness says of any two held payments
module _ (l : Ledger) (s : Almost l) (i j : ℕ) (hi : i < limit) (hj : j < limit) (ui : i < l.count) (uj : j < l.count)
    (o : i ≡ j → ⊥) where
  pub apart-pairs : Apart (at l.payments i) (at l.payments j)
  apart-pairs =
      split (ltb j i)
      (λ t. apart-at (at l.payments i) (at l.payments j)
      (pairs-at l.payments l.count times_differ s.times i j hi ui (ltb-true _ _ t)))
      (λ t. let above = ltb-false j i t in
      apart-sym (at l.payments j) (at l.payments i)
      (apart-at (at l.payments j) (at l.payments i) (pairs-at l.payments l.count times_differ s.times j i hj uj
      (omega arith))))

  pub apart-numbers : (at l.payments i).number.0 ≡ (at l.payments j).number.0 → ⊥
  apart-numbers e =
      split (ltb j i)
      (λ t. both (pairs-at l.payments l.count numbers_differ s.numbers i j hi ui (ltb-true _ _ t)) (ap not (eq-eqb _ _ e)))
      (λ t. let above = ltb-false j i t in
      both (pairs-at l.payments l.count numbers_differ s.numbers j i hj uj (omega arith)) (ap not (eq-eqb _ _ (sym e))))

pub unused-number : (p : Payment) → unused p ≡ true → p.number.0 ≡ 0
unfolding unused
unused-number p e = eqb-true _ _ (and_left (eqb p.number.0 0) _ e)

pub own_below : (p : Payment) (own clock : ℕ) → heard_from p own ≡ true → not_above_clock own clock p ≡ true → time_from p own ≤ clock
unfolding not_above_clock
own_below p own clock h e =
    ltb-false _ _ (sym (and-go (ltb clock (time_from p own)) h)
    ∙ not-true _ (and_left (not (heard_from p own && ltb clock (time_from p own))) _ e))

-- a payment that is held
module _ (l : Ledger) (s : Almost l) (shape : Shaped l) (f : Incoming) (a : Accepted l f) (n : is_held l.payments f ≡ true) where
  is-held : payment_for l f ≡ held_one l.payments f
  is-held = ap (λ b. cond b (held_one l.payments f) (new_payment f.payment.0 f.destinations)) n

  is-place : place_for l f ≡ place_of l.payments f.payment.0
  is-place = ap (λ b. cond b (place_of l.payments f.payment.0) l.count) n

  place-range : place_of l.payments f.payment.0 < limit
  place-range = ltb-true _ _ n

  has-number : (held_one l.payments f).number.0 ≡ f.payment.0
  has-number = found l.payments f.payment.0 n

  pub place-used : place_of l.payments f.payment.0 < l.count
  place-used =
      split (ltb (place_of l.payments f.payment.0) l.count) (λ t. ltb-true _ _ t)
      (λ t. let none = unused-number (held_one l.payments f)
      (unused-at l.payments l.count s.unused _ place-range (ltb-false _ _ t)) in
      absurd (eqb-false _ _ a.payment (sym has-number ∙ none)))

  of-held : (g : Payment → Bool) → each l g ≡ true → g (held_one l.payments f) ≡ true
  of-held g e = each_at l.payments l.count g e (place_of l.payments f.payment.0) place-range place-used

  same-destinations : (held_one l.payments f).destinations ≡ f.destinations
  same-destinations =
      eqb-true _ _ (not-false _ (sym (and-go (not (eqb (held_one l.payments f).destinations f.destinations)) n)
      ∙ or_left (other_destinations l.payments f) _ a.conflict-free))

  -- nothing that is wanted of the source was heard
  source-unheard : is_propose f ≡ true → heard_from (held_one l.payments f) f.source.0 ≡ false
  source-unheard k =
      split (heard_from (held_one l.payments f) f.source.0)
      (λ h. split (eqb (time_from (held_one l.payments f) f.source.0) f.time.0)
      (λ t. both
      (and_both n (ap (λ b. cond b (has_proposal (held_one l.payments f) f.source.0 f.time.0)
      (not (is_waiting (held_one l.payments f)))) k ∙ and_both h t))
      a.no-repeat)
      (λ t. both
      (and_both n (and_both h (ap not t)))
      (or_left (another_time l.payments f) _ (sym (and-go _ k) ∙ or_right (other_destinations l.payments f) _ a.conflict-free))))
      (λ h. h)

  -- it is waiting or proposed: a stamped or posted one has heard everybody
  not-later : is_waiting (held_one l.payments f) ≡ false → is_proposed (held_one l.payments f) ≡ false
      → has_stamp (held_one l.payments f) ≡ true → ⊥
  not-later w p h =
      split (is_propose f)
      (λ k. let all = eqb-true _ _ (sym (later-stamp l.own.0 (held_one l.payments f) (eqb-false _ _ w) (eqb-false _ _ p) h)
      ∙ of-held (phase_right l.own.0) s.phase) in
      let source = or_left (not (has f.destinations f.source.0)) _
      (or_right (ltb l.group f.source.0) _ (or_right (eqb f.source.0 0) _ (sym (and-go _ k) ∙ a.source))) in
      both (ap (λ x. has x f.source.0) (all ∙ same-destinations) ∙ not-false _ source) (source-unheard k))
      (λ k. both (and_both n (ap (λ b. cond b (has_proposal (held_one l.payments f) f.source.0 f.time.0)
      (not (is_waiting (held_one l.payments f)))) k ∙ ap not w)) a.no-repeat)

  held-phase : (((held_one l.payments f).phase ≡ 0) × (heard_from (held_one l.payments f) l.own.0 ≡ false)) ⊎
      (((held_one l.payments f).phase ≡ 1) × (heard_from (held_one l.payments f) l.own.0 ≡ true))
  held-phase =
      let right = of-held (phase_right l.own.0) s.phase in
      split (is_waiting (held_one l.payments f))
      (λ w. inl (
        eqb-true _ _ w,
        split (heard_from (held_one l.payments f) l.own.0)
            (λ h. both right (waiting-own l.own.0 (held_one l.payments f) (eqb-true _ _ w) h)) (λ h. h),
      ))
      (λ w. split (is_proposed (held_one l.payments f))
      (λ p. inr (
        eqb-true _ _ p,
        split (heard_from (held_one l.payments f) l.own.0)
            (λ h. h) (λ h. both right (proposed-others l.own.0 (held_one l.payments f) (eqb-true _ _ p) h)),
      ))
      (λ p. split (has_stamp (held_one l.payments f))
      (λ h. absurd (not-later w p h))
      (λ h. both right (later-none l.own.0 (held_one l.payments f) (eqb-false _ _ w) (eqb-false _ _ p) h))))

  held-own : heard_from (held_one l.payments f) l.own.0 ≡ true → time_from (held_one l.payments f) l.own.0 ≤ l.clock.0
  held-own h = own_below (held_one l.payments f) l.own.0 l.clock.0 h
      (of-held (not_above_clock l.own.0 l.clock.0) s.clock)

  held-other : (j : ℕ) → j < limit → j < l.count → (j ≡ place_of l.payments f.payment.0 → ⊥)
      → (at l.payments j).number.0 ≡ f.payment.0 → ⊥
  held-other j h u o e = apart-numbers l s j (place_of l.payments f.payment.0) h place-range u place-used o (e ∙ sym has-number)

  pub base-held : Base l f
  base-held =
      record {
        number = ap (λ p. p.number.0) is-held ∙ has-number;
        destinations = ap (λ p. p.destinations) is-held ∙ same-destinations;
        byte = subst (λ p. p.heard < 256) (sym is-held) (shape.heard _ place-range);
        size = ap (λ p. length p.times) is-held ∙ shape.times _ place-range;
        right = ap heard_right is-held ∙ of-held heard_right s.heard;
        phase = subst (λ p. ((p.phase ≡ 0) × (heard_from p l.own.0 ≡ false)) ⊎ ((p.phase ≡ 1) × (heard_from p l.own.0 ≡ true)))
            (sym is-held) held-phase;
        own-time = subst (λ p. heard_from p l.own.0 ≡ true → time_from p l.own.0 ≤ l.clock.0) (sym is-held) held-own;
        other = λ j h u o. held-other j h u (λ e. o (e ∙ sym is-place));
        apart = λ j h u o. subst (λ p. Apart p (at l.payments j)) (sym is-held)
            (apart-pairs l s (place_of l.payments f.payment.0) j place-range h place-used u (λ e. o (sym e ∙ sym is-place)));
        posted = λ j h p e. ap (λ q. below (stamp_of (at l.payments j)) (proposal q.times l.own.0)) is-held
            ∙ sym (after-proposed l.own.0 (stamp_of (at l.payments j)) (held_one l.payments f)
            (sym (ap (λ q. q.phase) is-held) ∙ e))
            ∙ posted-at l.payments l.own.0 s.posted j _ h place-range p;
      }

-- the frame's payment, held or new
pub base : (l : Ledger) (f : Incoming) → Almost l → Shaped l → Accepted l f → Base l f
base l f s shape a = split (is_held l.payments f) (λ n. base-held l s shape f a n) (λ n. base-new l f n)
