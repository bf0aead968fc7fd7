-- A ledger's log: exactly the posted payments, strictly rising by stamp. A taken step keeps it so.
-- Assumes nothing.
use Prim.Native.Nat.{ℕ, ◌<◌}
use mathlib.Core.Path.{◌≡◌, refl, ap, sym, ◌∙◌, subst}
use mathlib.Core.List.{List, ◌++◌}
use mathlib.Core.Bool.{Bool, true, false, cond, ◌||◌}
use mathlib.Core.Logic.{⊎_elim}
use borrow.Author.Tests.{eq-eqb}
use Rattle.common.specs.Places.{In}
use Rattle.common.proofs.TestLaws.{both, or-true, split}
use Rattle.payment.specs.Payments.{has_stamp, in_phase, is_posted, is_stamped, posted, stamp_of}
use Rattle.payment.specs.Stamps.{below}
use Rattle.payment.specs.declared.Payment.{Payment}
use Rattle.held.specs.Held.{at, limit}
use Rattle.posting.specs.Posting.{before, is_free, numbers, to_post}
use Rattle.checked.proofs.AfterLaws.{after-stamped}
use Rattle.posting.proofs.PostLaws.{free-stamped}
use Rattle.checked.proofs.ReflectLaws.{posted-at}
use Rattle.refusals.specs.Refusals.{first_given}
use Rattle.ledger.specs.Table.{value_rows}
use Rattle.ledger.specs.Sound.{sound}
use Rattle.ledger.specs.Step.{after_stamping, place_for}
use Rattle.refusals.specs.declared.Incoming.{Incoming}
use Rattle.ledger.specs.declared.Ledger.{Ledger}
use Rattle.ledger.proofs.SoundLaws.{Almost, clauses}
use Rattle.soundness.specs.Shaped.{Shaped}
use Rattle.soundness.proofs.Accepted.{accepted}
use Rattle.soundness.proofs.Bringing.{own_range}
use Rattle.soundness.proofs.Kept.{heard-almost, posted-ledger}
use Rattle.soundness.proofs.Postings.{posting-all, posting-free, posting-rising, stamped-held}
use Rattle.common.proofs.RisingLaws.{all-has}
use Rattle.soundness.proofs.Taking.{place-others}
use Rattle.agreement.specs.Claims.{Earlier, Holds, Precedes, HasStamp, WithStamp}
use Rattle.agreement.proofs.View.{posted-place}
use Rattle.agreement.proofs.Lists.{in_map, map-in, precedes-append, precedes-in, precedes-map, rising-precedes}
use Rattle.common.proofs.MemberLaws.{in-append, in_left, in_right}
use Rattle.agreement.proofs.Phases.{others-stay, same_count, stamp-stays, still-used, unposted-now, unstamped-before}

abbrev pub Posted : Payment → Type 0
Posted p = is_posted p ≡ true

pub record Log (l : Ledger) (log : List ℕ) : Type 0 where
  -- what is in the log is posted
  pub posted : (m : ℕ) → In m log → Holds l m Posted
  -- what is posted is in the log
  pub complete : (m : ℕ) → Holds l m Posted → In m log
  -- strictly rising by stamp
  pub rising : (x y : ℕ) → Precedes x y log → Earlier l x y

-- posted payments have a stamp, and so have stamped ones
pub posted-stamp : (p : Payment) → is_posted p ≡ true → has_stamp p ≡ true
posted-stamp p e = ap (λ b. is_stamped p || b) e ∙ or-true (is_stamped p)

module _ (l : Ledger) (f : Incoming) (is-sound : sound l ≡ true) (shape : Shaped l) (e : first_given (value_rows l f) ≡ 0) where
  abbrev mid : Ledger
  mid = after_stamping l f

  abbrev next : Ledger
  next = posted-ledger (after_stamping l f)

  abbrev free : ℕ → Bool
  free i = is_free mid.payments mid.own.0 i

  almost : Almost (after_stamping l f)
  almost = heard-almost l f is-sound shape e

  -- what is so of a payment whether or not it is posted now
  next-at : (P : Payment → Type 0) (i : ℕ) → i < limit → (free i ≡ true → P (in_phase posted (at mid.payments i)))
      → (free i ≡ false → P (at mid.payments i)) → P (at next.payments i)
  next-at P i h now not =
      subst P (sym (posted-place (after_stamping l f) i h))
      (split (free i)
      (λ t. subst (λ b. P (cond b (in_phase posted (at mid.payments i)) (at mid.payments i))) (sym t) (now t))
      (λ t. subst (λ b. P (cond b (in_phase posted (at mid.payments i)) (at mid.payments i))) (sym t) (not t)))

  -- a payment that rules 1 to 3 left at place i
  holds-next : (P : Payment → Type 0) (i : ℕ) → i < limit → i < mid.count → (free i ≡ true → P (in_phase posted (at mid.payments i)))
      → (free i ≡ false → P (at mid.payments i))
      → Holds (posted-ledger (after_stamping l f)) (at mid.payments i).number.0 P
  holds-next P i h u now not =
      record {
        at_place = i;
        within = h;
        used = u;
        number = next-at (λ p. p.number.0 ≡ (at mid.payments i).number.0) i h (λ t. refl) (λ t. refl);
        so = next-at P i h now not;
      }

  stamped-next : (i : ℕ) → i < limit → i < mid.count → has_stamp (at mid.payments i) ≡ true
      → HasStamp (posted-ledger (after_stamping l f)) (at mid.payments i).number.0 (stamp_of (at mid.payments i))
  stamped-next i h u s = holds-next (WithStamp (stamp_of (at mid.payments i))) i h u (λ t. (refl, refl)) (λ t. (s, refl))

  -- a posted payment stays where it is
  was-posted : (i : ℕ) → i < l.count → is_posted (at l.payments i) ≡ true → at mid.payments i ≡ at l.payments i
  was-posted i u p = others-stay l f is-sound shape e i (unstamped-before l f is-sound shape e i u (posted-stamp (at l.payments i) p))

  -- a free place
  record Free (i : ℕ) : Type 0 where
    within : i < limit
    freed : free i ≡ true
    used : i < mid.count
    stamped : has_stamp (at mid.payments i) ≡ true

  free_in : (i : ℕ) → In i (to_post mid.payments mid.own.0) → Free i
  free_in i h =
      let r = all-has (λ j. (j < limit) × (free j ≡ true)) (to_post mid.payments mid.own.0)
      (posting-free mid.payments mid.own.0) i h in
      let two = free-stamped mid.payments mid.own.0 i r.1 in
      record {
        within = r.0;
        freed = r.1;
        used = stamped-held (after_stamping l f) almost (own_range (after_stamping l f) almost.range) i r.0 two;
        stamped = ap (λ b. b || is_posted (at mid.payments i)) (eq-eqb _ _ two);
      }

  module _ (log : List ℕ) (g : Log l log) where
    posted-next : (m : ℕ) → In m (log ++ numbers mid.payments mid.own.0) → Holds (posted-ledger (after_stamping l f)) m Posted
    posted-next m h =
        ⊎_elim
        (λ old. let x = g.posted m old in
        let o = was-posted x.at_place x.used x.so in
        subst (λ n. Holds (posted-ledger (after_stamping l f)) n Posted) (ap (λ p. p.number.0) o ∙ x.number)
        (holds-next Posted x.at_place x.within (still-used l f is-sound shape e x.at_place x.used) (λ t. refl)
        (λ t. ap is_posted o ∙ x.so)))
        (λ new. let r = in_map (λ i. (at mid.payments i).number.0) m (to_post mid.payments mid.own.0) new in
        let x = free_in r.0 r.1 in
        subst (λ n. Holds (posted-ledger (after_stamping l f)) n Posted) (sym r.2)
        (holds-next Posted r.0 x.within x.used (λ t. refl) (λ t. both x.freed t)))
        (in-append m log (numbers mid.payments mid.own.0) h)

    complete-next : (m : ℕ) → Holds (posted-ledger (after_stamping l f)) m Posted → In m (log ++ numbers mid.payments mid.own.0)
    complete-next m x =
        let i = x.at_place in
        let named = next-at (λ p. p.number.0 ≡ m → (at mid.payments i).number.0 ≡ m) i x.within (λ t q. q) (λ t q. q) x.number in
        split (free i)
        (λ t. in_right m log (numbers mid.payments mid.own.0)
        (subst (λ n. In n (numbers mid.payments mid.own.0)) named
        (map-in (λ i. (at mid.payments i).number.0) i (to_post mid.payments mid.own.0)
        (posting-all mid.payments mid.own.0 i x.within t))))
        (λ t. let old = next-at (λ p. is_posted p ≡ true → is_posted (at mid.payments i) ≡ true) i x.within (λ u. both u t)
        (λ u q. q) x.so in
        let other : i ≡ place_for l f → ⊥ = λ q. both old (ap (λ j. is_posted (at mid.payments j)) q
        ∙ unposted-now l f is-sound shape e) in
        let o = others-stay l f is-sound shape e i other in
        in_left m log (numbers mid.payments mid.own.0) (g.complete m record {
          at_place = i;
          within = x.within;
          used = place-others l (clauses l is-sound).kept shape f (accepted l f e) i
              (subst (λ c. i < c) (same_count l f is-sound shape e) x.used) other;
          number = ap (λ p. p.number.0) (sym o) ∙ named;
          so = ap is_posted (sym o) ∙ old;
        }))

    rising-next : (x y : ℕ) → Precedes x y (log ++ numbers mid.payments mid.own.0) → Earlier (posted-ledger (after_stamping l f)) x y
    rising-next x y h =
        ⊎_elim
        (λ old. let r = g.rising x y old in
        record {
          first = r.first;
          second = r.second;
          of-first = stamp-stays l f is-sound shape e x r.first r.of-first;
          of-second = stamp-stays l f is-sound shape e y r.second r.of-second;
          below-it = r.below-it;
        })
        (λ k. ⊎_elim (λ b. across b.0 b.1) (λ c. within_new c) k)
        (precedes-append x y log (numbers mid.payments mid.own.0) h)
      where
        -- two places that rules 1 to 3 left stamped
        of_places : (i j : ℕ) → i < limit → j < limit → i < mid.count → j < mid.count → has_stamp (at mid.payments i) ≡ true
            → has_stamp (at mid.payments j) ≡ true
            → below (stamp_of (at mid.payments i)) (stamp_of (at mid.payments j)) ≡ true → x ≡ (at mid.payments i).number.0
            → y ≡ (at mid.payments j).number.0
            → Earlier (posted-ledger (after_stamping l f)) x y
        of_places i j hi hj ui uj si sj b ex ey =
            record {
              first = stamp_of (at mid.payments i);
              second = stamp_of (at mid.payments j);
              of-first = subst (λ n. HasStamp (posted-ledger (after_stamping l f)) n (stamp_of (at mid.payments i))) (sym ex)
                  (stamped-next i hi ui si);
              of-second = subst (λ n. HasStamp (posted-ledger (after_stamping l f)) n (stamp_of (at mid.payments j))) (sym ey)
                  (stamped-next j hj uj sj);
              below-it = b;
            }

        -- what was posted before is below what is posted now
        across : In x log → In y (numbers mid.payments mid.own.0) → Earlier (posted-ledger (after_stamping l f)) x y
        across hx hy =
            let p = g.posted x hx in
            let r = in_map (λ i. (at mid.payments i).number.0) y (to_post mid.payments mid.own.0) hy in
            let q = free_in r.0 r.1 in
            let o = was-posted p.at_place p.used p.so in
            let done = ap is_posted o ∙ p.so in
            of_places p.at_place r.0 p.within q.within (still-used l f is-sound shape e p.at_place p.used) q.used
            (posted-stamp (at mid.payments p.at_place) done) q.stamped
            (sym (after-stamped mid.own.0 (stamp_of (at mid.payments p.at_place)) (at mid.payments r.0)
            (free-stamped mid.payments mid.own.0 r.0 q.freed))
            ∙ posted-at mid.payments mid.own.0 almost.posted p.at_place r.0 p.within q.within done)
            (sym p.number ∙ ap (λ z. z.number.0) (sym o)) r.2

        within_new : Precedes x y (numbers mid.payments mid.own.0) → Earlier (posted-ledger (after_stamping l f)) x y
        within_new h =
            let r = precedes-map (λ i. (at mid.payments i).number.0) x y (to_post mid.payments mid.own.0) h in
            let both-in = precedes-in r.0 r.1 (to_post mid.payments mid.own.0) r.2 in
            let p = free_in r.0 both-in.0 in
            let q = free_in r.1 both-in.1 in
            of_places r.0 r.1 p.within q.within p.used q.used p.stamped q.stamped
            (rising-precedes (before mid.payments) r.0 r.1 (to_post mid.payments mid.own.0)
            (posting-rising (after_stamping l f) almost (own_range (after_stamping l f) almost.range)) r.2)
            r.3 r.4

    pub log-next : Log (posted-ledger (after_stamping l f)) (log ++ numbers (after_stamping l f).payments (after_stamping l f).own.0)
    log-next = record { posted = posted-next; complete = complete-next; rising = rising-next }
