-- The order of postings: one at every ledger, and without gaps.
-- Assumes nothing.
use Rattle.common.proofs.PlaceLaws.{by_place}
use Prim.Native.Nat.{ℕ}
use mathlib.Core.Path.{◌≡◌, refl, ap, ap₂, sym, ◌∙◌, subst}
use mathlib.Core.List.{List}
use mathlib.Core.Bool.{true, false}
use mathlib.Core.Logic.{⊎_elim}
use native.Mathlib.Omega.{arith}
use borrow.Author.Tests.{eqb-false, eqb-true}
use Rattle.common.specs.Places.{In}
use Rattle.common.proofs.TestLaws.{both, or_cases, split}
use Rattle.ledgers.specs.Ledgers.{has}
use Rattle.payment.specs.Payments.{has_stamp, heard_from, is_posted, is_proposed, is_stamped, is_waiting, proposal, stamp_of, time_from}
use Rattle.right.specs.Right.{phase_right}
use Rattle.payment.specs.Stamps.{below}
use Rattle.payment.specs.declared.Stamp.{Stamp}
use Rattle.right.proofs.RightLaws.{later-none, waiting-own}
use Rattle.held.specs.Held.{at}
use Rattle.checked.proofs.AfterLaws.{after-proposed, after-stamped}
use Rattle.checked.proofs.ReflectLaws.{each_at, posted-at}
use Rattle.ledger.proofs.SoundLaws.{clauses}
use Rattle.agreement.specs.Run.{Entry, Lawful, World}
use Rattle.agreement.specs.Claims.{Addressed, Earlier, HasStamp, OfGroup, Precedes, WithStamp}
use Rattle.agreement.proofs.Agreed.{entry_of}
use Rattle.agreement.proofs.Entries.{one_entry}
use Rattle.agreement.proofs.Hearing.{Heard, at-one-place}
use Rattle.agreement.proofs.Invariant.{Kept}
use Rattle.agreement.proofs.Lists.{precedes-either}
use Rattle.agreement.proofs.Logs.{Posted}
use Rattle.agreement.proofs.Stamps.{all_here, goes-here, one-stamp, time-here}
use Rattle.payment.proofs.GreatestLaws.{stamp-highest}
use Rattle.payment.proofs.StampLaws.{below-between, below-once}

-- time t, proposed by ledger b
abbrev proposed-by : ℕ → ℕ → Stamp
proposed-by b t = record { time = record { 0 = t }; ledger = record { 0 = b } }

module _ (n : ℕ) (table : List Entry) (law : Lawful n table) (w : World) (k : Kept n table w) where
  pub earlier : (j x y : ℕ) → OfGroup n j → Precedes x y (w.logs j) → Earlier (w.ledgers j) x y
  earlier j x y h = (k.logs j h).rising x y

  -- x is before y by stamp at one ledger, and y before x at another: that cannot be
  pub not-both : (i j x y : ℕ) → OfGroup n i → OfGroup n j → Earlier (w.ledgers i) x y → Earlier (w.ledgers j) y x → ⊥
  not-both i j x y hi hj p q =
      let same-x = one-stamp n table law w k.agrees i j x p.first q.second hi hj p.of-first q.of-second in
      let same-y = one-stamp n table law w k.agrees i j y p.second q.first hi hj p.of-second q.of-first in
      below-once p.first p.second p.below-it
      (subst (λ s. below s p.first ≡ true) (sym same-y) (subst (λ s. below q.first s ≡ true) (sym same-x) q.below-it))

  pub never-twice : (j x : ℕ) → OfGroup n j → Precedes x x (w.logs j) → ⊥
  never-twice j x h p = not-both j j x x h h (earlier j x x h p) (earlier j x x h p)

  pub same-order : (i j x y : ℕ) → OfGroup n i → OfGroup n j → Precedes x y (w.logs i) → In x (w.logs j) → In y (w.logs j)
      → Precedes x y (w.logs j)
  same-order i j x y hi hj p inx iny =
      by_place x y
      (λ e. absurd (never-twice i x hi (subst (λ z. Precedes x z (w.logs i)) (sym e) p)))
      (λ e. ⊎_elim (λ q. q)
      (λ q. absurd (not-both i j x y hi hj (earlier i x y hi p) (earlier j y x hj q)))
      (precedes-either x y (w.logs j) inx iny e))

  -- a payment for ledger b that is stamped at ledger j has ledger b's own time there and at j, and its stamp is not below that proposal
  own_of : (j b x : ℕ) (s : Stamp) → OfGroup n j → OfGroup n b → Addressed table b x → HasStamp (w.ledgers j) x s
      → (d : ℕ) × (t : ℕ) × Heard (w.ledgers b) x d b t × (below s (proposed-by b t) ≡ false)
  own_of j b x s hj hb e u =
      let p = at (w.ledgers j).payments u.at_place in
      let same : entry_of x p.destinations ≡ e.entry
      = one_entry n table law _ e.entry (k.agrees.listed j x _ hj.0 hj.1 (goes-here n table law w k.agrees j x s hj u))
      e.in_table (sym e.number) in
      let is-heard : heard_from p b ≡ true = ap (λ z. has z b) (all_here n table law w k.agrees j x s hj u)
      ∙ ap (λ z. has z.destinations b) same ∙ e.destination in
      let there = time-here n table law w k.agrees j x s hj u b is-heard in (
        p.destinations,
        time_from p b,
        k.agrees.agreed j b x _ _ hj.0 hj.1 hb.0 hb.1 there,
        subst (λ r. below r (proposal p.times b) ≡ false) u.so.1 (stamp-highest p b hb.0
            (let few = law.ledgers.1 in let last = hb.1 in omega arith) is-heard),
      )

  -- what is below a posted stamp, and is for this ledger, is posted
  posted-before : (j b x y : ℕ) (s r : Stamp) → OfGroup n j → OfGroup n b → Addressed table b x → HasStamp (w.ledgers j) x s
      → In y (w.logs b)
      → HasStamp (w.ledgers b) y r → below s r ≡ true → In x (w.logs b)
  posted-before j b x y s r hj hb e u iny v lt =
      let l = w.ledgers b in
      let well = k.agrees.well b hb.0 hb.1 in
      let sound = (clauses l well.is-sound).kept in
      let own = own_of j b x s hj hb e u in
      let z = own.2 in
      let i = z.at_place in
      let p = at l.payments i in
      let y-at = (k.logs b hb).posted y iny in
      let y-stamp : stamp_of (at l.payments y-at.at_place) ≡ r = (at-one-place l well.is-sound y Posted (WithStamp r) y-at v).1 in
      let phase-right = each_at l.payments l.count (phase_right l.own.0) sound.phase i z.within z.used in
      let after-y = posted-at l.payments l.own.0 sound.posted y-at.at_place i y-at.within z.within y-at.so in
      let own-heard : heard_from p l.own.0 ≡ true = ap (heard_from p) well.own ∙ z.so.heard in
      split (is_waiting p)
      (λ t. both phase-right (waiting-own l.own.0 p (eqb-true _ _ t) own-heard))
      (λ t. split (is_proposed p)
      (λ q. let late = sym (after-proposed l.own.0 (stamp_of (at l.payments y-at.at_place)) p (eqb-true _ _ q)) ∙ after-y in
      let mine : proposal p.times l.own.0 ≡ proposed-by b own.1 =
      ap (proposal p.times) well.own ∙ ap (proposed-by b) z.so.time in
      ⊎_elim (λ a. both a own.3)
      (λ a. absurd (below-once r (proposed-by b own.1) (sym (ap₂ below y-stamp mine) ∙ late) a))
      (below-between s (proposed-by b own.1) r lt))
      (λ q. split (has_stamp p)
      (λ a. ⊎_elim
      (λ two. let x-here : HasStamp (w.ledgers b) x (stamp_of p) = record {
        at_place = i;
        within = z.within;
        used = z.used;
        number = z.number;
        so = (a, refl);
      } in
      let same = one-stamp n table law w k.agrees j b x s (stamp_of p) hj hb u x-here in
      let over = sym (after-stamped l.own.0 (stamp_of (at l.payments y-at.at_place)) p (eqb-true _ _ two)) ∙ after-y in
      absurd (below-once s r lt (subst (λ f. below f s ≡ true) y-stamp
      (subst (λ f. below (stamp_of (at l.payments y-at.at_place)) f ≡ true) (sym same) over))))
      (λ three. (k.logs b hb).complete x (record { at_place = i; within = z.within; used = z.used; number = z.number; so = three }))
      (or_cases (is_stamped p) (is_posted p) a))
      (λ a. both phase-right (later-none l.own.0 p (eqb-false _ _ t) (eqb-false _ _ q) a))))

  pub no_gaps : (j b x y : ℕ) (s r : Stamp) → OfGroup n j → OfGroup n b → Addressed table b x → HasStamp (w.ledgers j) x s
      → In y (w.logs b)
      → HasStamp (w.ledgers b) y r → below s r ≡ true → Precedes x y (w.logs b)
  no_gaps j b x y s r hj hb e u iny v lt =
      by_place x y
      (λ q. absurd (apart (one-stamp n table law w k.agrees j b x s r hj hb u (subst (λ m. HasStamp (w.ledgers b) m r) (sym q) v))))
      (λ q. ⊎_elim (λ p. p)
      (λ p. let back = earlier b y x hb p in
      let same-y = one-stamp n table law w k.agrees b b y back.first r hb hb back.of-first v in
      let same-x = one-stamp n table law w k.agrees b j x back.second s hb hj back.of-second u in
      absurd (below-once s r lt (subst (λ f. below f s ≡ true) same-y (subst (λ f. below back.first f ≡ true) same-x back.below-it))))
      (precedes-either x y (w.logs b) (posted-before j b x y s r hj hb e u iny v lt) iny q))
    where
      apart : s ≡ r → ⊥
      apart q = below-once s r lt (subst (λ f. below f s ≡ true) q (subst (λ f. below s f ≡ true) (sym q) lt))
