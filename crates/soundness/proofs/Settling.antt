-- Posting: from every clause but "no stamped payment is free to post" to a sound ledger.
-- Assumes nothing.
use Prim.Native.Nat.{ℕ, suc, ◌-◌, ◌<◌}
use mathlib.Core.Path.{◌≡◌, refl, ap, sym, ◌∙◌, subst}
use mathlib.Core.Bool.{Bool, true, false, not, cond, ◌&&◌, ◌||◌}
use mathlib.Core.Logic.{⊎_elim}
use native.Mathlib.Omega.{arith}
use lib.Dec.{eqb, ltb}
use borrow.Author.Tests.{eq-eqb, eqb-false, eqb-true}
use Rattle.common.proofs.PlaceLaws.{any_none, any_place, get_or-listed}
use Rattle.common.proofs.TestLaws.{both, split}
use Rattle.payment.specs.Payments.{heard_from, in_phase, is_posted, is_proposed, is_stamped, posted, proposal, stamp_of, time_from}
use Rattle.right.specs.Right.{heard_right, lawful, not_above_clock, number_not_zero, numbers_differ, times_differ, phase_right, unused}
use Rattle.ledgers.proofs.LedgerLaws.{place}
use Rattle.payment.specs.Stamps.{below}
use Rattle.payment.specs.declared.Payment.{Payment}
use Rattle.right.proofs.RightLaws.{differ-shared, later-stamp, proposed-others}
use Rattle.payment.proofs.StampLaws.{below-between, below_or}
use Rattle.held.specs.Held.{at, limit, no_payment}
use Rattle.posting.specs.Posting.{after_posting, holds_back, is_free, none_free}
use Rattle.checked.specs.Checked.{comes_after, posted_below, unused_all}
use Rattle.posting.proofs.FreeLaws.{back-proposed, back-says, free-clear, free-held, free_other, none_so, not-free-held}
use Rattle.checked.proofs.AfterLaws.{after-other, after-proposed, after-stamped}
use Rattle.posting.proofs.PostLaws.{free-stamped}
use Rattle.checked.proofs.ReflectLaws.{each_at, each-so, pairs-at, pairs-so, posted-at, posted-so, unused-at, unused-so}
use Rattle.ledger.specs.Sound.{each, pairs}
use Rattle.ledger.specs.declared.Ledger.{Ledger}
use Rattle.ledger.proofs.SoundLaws.{Almost, Sound}
use Rattle.soundness.proofs.Accepted.{apart-pairs}
use Rattle.soundness.proofs.Apart.{apart-stamp}
use Rattle.soundness.proofs.Bringing.{own_range}
use Rattle.soundness.proofs.Replacing.{past-held, unused-phase}

-- posted in place of stamped changes neither numbers, nor destinations, nor times
other_times-posted : (p q : Payment) → times_differ p q ≡ true
    → (times_differ (in_phase posted p) q ≡ true) × (times_differ p (in_phase posted q) ≡ true)
    × (times_differ (in_phase posted p) (in_phase posted q) ≡ true)
other_times-posted p q e =
    let plain = sym (differ-shared p q) ∙ e in (
      differ-shared (in_phase posted p) q ∙ plain,
      differ-shared p (in_phase posted q) ∙ plain,
      differ-shared (in_phase posted p) (in_phase posted q) ∙ plain,
    )

heard_right-posted : (p : Payment) → heard_right p ≡ true → heard_right (in_phase posted p) ≡ true
unfolding heard_right
heard_right-posted p e = e

not_above-posted : (own clock : ℕ) (p : Payment) → p.phase ≡ 2 → not_above_clock own clock p ≡ true
    → not_above_clock own clock (in_phase posted p) ≡ true
unfolding not_above_clock
not_above-posted own clock p h e = subst (λ b. not (heard_from p own && ltb clock (time_from p own)) && not
    ((b || eqb p.phase 3) && ltb clock (stamp_of p).time.0) ≡ true) (eq-eqb _ _ h) e

phase_right-posted : (own : ℕ) (p : Payment) → p.phase ≡ 2 → phase_right own p ≡ true → phase_right own (in_phase posted p) ≡ true
phase_right-posted own p h e =
    later-stamp own (in_phase posted p) (λ z. omega arith) (λ z. omega arith) refl
    ∙ sym (later-stamp own p (λ z. omega arith) (λ z. omega arith) (ap (λ b. b || is_posted p) (eq-eqb _ _ h)))
    ∙ e

module _ (l : Ledger) (s : Almost l) where
  abbrev settled : Ledger
  settled =
      record { group = l.group; own = l.own; clock = l.clock; count = l.count; payments = after_posting l.payments l.own.0 }

  at_after : (j : ℕ) → j < limit
      → at (after_posting l.payments l.own.0) j ≡ cond (is_free l.payments l.own.0 j) (in_phase posted (at l.payments j))
      (at l.payments j)
  unfolding after_posting
  at_after j h =
      get_or-listed limit (λ j. cond (is_free l.payments l.own.0 j) (in_phase posted (at l.payments j))
      (at l.payments j)) j no_payment h

  -- of the payment at each place: posted now, or as it was
  after : (A : Payment → Type 0) (j : ℕ) → j < limit
      → (is_free l.payments l.own.0 j ≡ true → A (in_phase posted (at l.payments j)))
      → (is_free l.payments l.own.0 j ≡ false → A (at l.payments j))
      → A (at (after_posting l.payments l.own.0) j)
  after A j h new old =
      split (is_free l.payments l.own.0 j)
      (λ t. subst A (sym (at_after j h ∙ ap (λ b. cond b (in_phase posted (at l.payments j)) (at l.payments j)) t)) (new t))
      (λ t. subst A (sym (at_after j h ∙ ap (λ b. cond b (in_phase posted (at l.payments j)) (at l.payments j)) t)) (old t))

  each_after : (f : Payment → Bool) → each l f ≡ true → ((p : Payment) → p.phase ≡ 2 → f p ≡ true → f (in_phase posted p) ≡ true)
      → each settled f ≡ true
  each_after f e up =
      each-so (after_posting l.payments l.own.0) l.count f
      (λ j h u. let was = each_at l.payments l.count f e j h u in
      after (λ p. f p ≡ true) j h
      (λ t. up (at l.payments j) (free-stamped l.payments l.own.0 j t) was)
      (λ t. was))

  times-after : pairs settled times_differ ≡ true
  times-after =
      pairs-so (after_posting l.payments l.own.0) l.count times_differ
      (λ j k h u lt. let was = other_times-posted (at l.payments j) (at l.payments k) in
      let old = pairs-at l.payments l.count times_differ s.times j k h u lt in
      let g : k < limit = omega arith in
      after (λ p. times_differ p (at (after_posting l.payments l.own.0) k) ≡ true) j h
      (λ t. after (λ q. times_differ (in_phase posted (at l.payments j)) q ≡ true) k g (λ r. (was old).2) (λ r. (was old).0))
      (λ t. after (λ q. times_differ (at l.payments j) q ≡ true) k g (λ r. (was old).1) (λ r. old)))

  numbers_after : pairs settled numbers_differ ≡ true
  numbers_after =
      pairs-so (after_posting l.payments l.own.0) l.count numbers_differ
      (λ j k h u lt. let old = pairs-at l.payments l.count numbers_differ s.numbers j k h u lt in
      let g : k < limit = omega arith in
      after (λ p. numbers_differ p (at (after_posting l.payments l.own.0) k) ≡ true) j h
      (λ t. after (λ q. numbers_differ (in_phase posted (at l.payments j)) q ≡ true) k g (λ r. old) (λ r. old))
      (λ t. after (λ q. numbers_differ (at l.payments j) q ≡ true) k g (λ r. old) (λ r. old)))

  -- an unused place is not free
  unused-after : unused_all (after_posting l.payments l.own.0) l.count ≡ true
  unused-after =
      unused-so (after_posting l.payments l.own.0) l.count
      (λ j h u. let was = unused-at l.payments l.count s.unused j h u in
      after (λ p. unused p ≡ true) j h
      (λ t. let stamp : (at l.payments j).phase ≡ 2 = free-stamped l.payments l.own.0 j t in
      let none : (at l.payments j).phase ≡ 0 = unused-phase (at l.payments j) was in
      absurd (omega arith))
      (λ t. was))

  -- a proposed payment is as it was
  proposed-after : (k : ℕ) → k < limit → (at l.payments k).phase ≡ 1 → at (after_posting l.payments l.own.0) k ≡ at l.payments k
  proposed-after k h p =
      at_after k h
      ∙ ap (λ b. cond b (in_phase posted (at l.payments k)) (at l.payments k))
      (free_other l.payments l.own.0 k (λ e. omega arith))

  none_after : none_free (after_posting l.payments l.own.0) l.own.0 ≡ true
  none_after =
      none_so (after_posting l.payments l.own.0) l.own.0
      (λ j h. split (is_free l.payments l.own.0 j)
      (λ t. free_other (after_posting l.payments l.own.0) l.own.0 j
      (λ e. let now : (at (after_posting l.payments l.own.0) j).phase ≡ 3 =
      ap (λ p. p.phase) (at_after j h ∙ ap (λ b. cond b (in_phase posted (at l.payments j)) (at l.payments j)) t) in
      omega (arith, now, e)))
      (λ t. still j h t))
    where
      same : (j : ℕ) → j < limit → is_free l.payments l.own.0 j ≡ false
          → at (after_posting l.payments l.own.0) j ≡ at l.payments j
      same j h t = at_after j h ∙ ap (λ b. cond b (in_phase posted (at l.payments j)) (at l.payments j)) t

      still : (j : ℕ) → j < limit → is_free l.payments l.own.0 j ≡ false
          → is_free (after_posting l.payments l.own.0) l.own.0 j ≡ false
      still j h t =
          split (is_stamped (at l.payments j))
          (λ p. let (k, g, b) = any_place limit _ (not-free-held l.payments l.own.0 j t (eqb-true _ _ p)) in
          let kept = proposed-after k g (back-says l.own.0 _ (at l.payments k) b).0 in
          free-held (after_posting l.payments l.own.0) l.own.0 j k (stamp_of (at l.payments j))
          (ap stamp_of (sym (same j h t))) g
          (ap (holds_back l.own.0 (stamp_of (at l.payments j))) kept ∙ b))
          (λ p. free_other (after_posting l.payments l.own.0) l.own.0 j
          (λ e. eqb-false _ _ p (sym (ap (λ x. x.phase) (same j h t)) ∙ e)))

  -- no own proposal of a proposed payment is below a stamp that is free
  clear : (j m : ℕ) → is_free l.payments l.own.0 j ≡ true → m < limit → (at l.payments m).phase ≡ 1
      → below (proposal (at l.payments m).times l.own.0) (stamp_of (at l.payments j)) ≡ false
  clear j m t h e =
      sym (back-proposed l.own.0 (stamp_of (at l.payments j)) (at l.payments m) e)
      ∙ any_none limit (λ k. holds_back l.own.0 (stamp_of (at l.payments j)) (at l.payments k))
      (free-clear l.payments l.own.0 j t) m h

  proposed-heard : (k : ℕ) → k < limit → (at l.payments k).phase ≡ 1 → heard_from (at l.payments k) l.own.0 ≡ true
  proposed-heard k h e =
      split (heard_from (at l.payments k) l.own.0) (λ t. t)
      (λ t. both (each_at l.payments l.count (phase_right l.own.0) s.phase k h (past-held l s k h (λ z. omega (arith, z, e))))
      (proposed-others l.own.0 (at l.payments k) e t))

  -- nor is one the same as such a stamp, since no time is kept for two payments: every one is above it
  pub free-below : (j k : ℕ) → j < limit → k < limit → is_free l.payments l.own.0 j ≡ true → (at l.payments k).phase ≡ 1
      → below (stamp_of (at l.payments j)) (proposal (at l.payments k).times l.own.0) ≡ true
  free-below j k h g t e =
      let range = own_range l s.range in
      let two = free-stamped l.payments l.own.0 j t in
      let is : l.own.0 ≡ suc (l.own.0 - 1) = place l.own.0 (λ z. omega arith) in
      let apart = apart-pairs l s j k h g (past-held l s j h (λ z. omega (arith, z, two))) (past-held l s k g (λ z. omega (arith, z, e)))
      (λ z. omega (arith, two, e, ap (λ i. (at l.payments i).phase) z)) in
      ⊎_elim (λ x. x) (λ x. both x (clear j k t g e))
      (below_or (stamp_of (at l.payments j)) (proposal (at l.payments k).times l.own.0)
      (λ z. apart-stamp (at l.payments j) (at l.payments k) apart (l.own.0 - 1) (omega arith)
      (subst (λ n. heard_from (at l.payments k) n ≡ true) is (proposed-heard k g e))
      (z ∙ ap (proposal (at l.payments k).times) is)))

  -- what was free comes before what is held back, and before every proposed payment's own proposal
  free-behind : (j k : ℕ) → j < limit → k < limit → is_free l.payments l.own.0 j ≡ true → is_free l.payments l.own.0 k ≡ false
      → comes_after l.own.0 (stamp_of (at l.payments j)) (at l.payments k) ≡ true
  free-behind j k h g t u =
      split (is_stamped (at l.payments k))
      (λ p. let stamp = eqb-true _ _ p in
      let (m, i, b) = any_place limit _ (not-free-held l.payments l.own.0 k u stamp) in
      let q = back-says l.own.0 (stamp_of (at l.payments k)) (at l.payments m) b in
      after-stamped l.own.0 (stamp_of (at l.payments j)) (at l.payments k) stamp
      ∙ ⊎_elim (λ x. both x (clear j m t i q.0)) (λ x. x)
      (below-between (proposal (at l.payments m).times l.own.0) (stamp_of (at l.payments j)) (stamp_of (at l.payments k))
      q.1))
      (λ p. split (is_proposed (at l.payments k))
      (λ r. let prop = eqb-true _ _ r in
      after-proposed l.own.0 (stamp_of (at l.payments j)) (at l.payments k) prop ∙ free-below j k h g t prop)
      (λ r. after-other l.own.0 (stamp_of (at l.payments j)) (at l.payments k) (eqb-false _ _ p) (eqb-false _ _ r)))

  posted-after : posted_below (after_posting l.payments l.own.0) l.own.0 ≡ true
  posted-after =
      posted-so (after_posting l.payments l.own.0) l.own.0
      (λ j k h g. after (λ p. is_posted p ≡ true → comes_after l.own.0 (stamp_of p)
      (at (after_posting l.payments l.own.0) k) ≡ true) j h
      (λ t e. after (λ q. comes_after l.own.0 (stamp_of (at l.payments j)) q ≡ true) k g (λ u. past j k)
      (λ u. free-behind j k h g t u))
      (λ t e. after (λ q. comes_after l.own.0 (stamp_of (at l.payments j)) q ≡ true) k g (λ u. past j k)
      (λ u. posted-at l.payments l.own.0 s.posted j k h g e)))
    where
      past : (j k : ℕ) → comes_after l.own.0 (stamp_of (at l.payments j)) (in_phase posted (at l.payments k)) ≡ true
      past j k = after-other l.own.0 (stamp_of (at l.payments j)) (in_phase posted (at l.payments k)) (λ e. omega arith)
          (λ e. omega arith)

  pub settles : Sound settled
  settles =
      record {
        kept = record {
          range = s.range;
          numbers = numbers_after;
          number = each_after number_not_zero s.number (λ p h e. e);
          destinations = each_after (lawful l.group l.own.0) s.destinations (λ p h e. e);
          heard = each_after heard_right s.heard (λ p h e. heard_right-posted p e);
          unused = unused-after;
          times = times-after;
          clock = each_after (not_above_clock l.own.0 l.clock.0) s.clock (not_above-posted l.own.0 l.clock.0);
          phase = each_after (phase_right l.own.0) s.phase (phase_right-posted l.own.0);
          posted = posted-after;
        };
        free = none_after;
      }
