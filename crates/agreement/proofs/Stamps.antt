-- One stamp per payment wherever it is stamped, and no two alike.
-- Assumes nothing.
use Rattle.common.proofs.PlaceLaws.{by_place}
use Prim.Native.Nat.{ℕ, zero, suc, ◌-◌, ◌<◌, ◌≤◌}
use mathlib.Core.Path.{◌≡◌, refl, ap, sym, ◌∙◌, subst}
use mathlib.Core.List.{List}
use mathlib.Core.Bool.{true}
use native.Mathlib.Omega.{arith}
use borrow.Author.Tests.{not-true}
use Rattle.ledgers.specs.Ledgers.{has, most_ledgers}
use Rattle.payment.specs.Payments.{greatest, heard_from, stamp_of, time_from}
use Rattle.right.specs.Right.{lawful, phase_right}
use Rattle.payment.specs.declared.Payment.{Payment}
use Rattle.payment.specs.declared.Stamp.{Stamp}
use Rattle.payment.proofs.KeptLaws.{greatest-proposed}
use Rattle.ledgers.proofs.LedgerLaws.{place}
use Rattle.held.specs.Held.{at, limit}
use Rattle.checked.proofs.ReflectLaws.{each_at}
use Rattle.ledger.specs.declared.Ledger.{Ledger}
use Rattle.ledger.proofs.SoundLaws.{clauses}
use Rattle.ledger.specs.Sound.{sound}
use Rattle.soundness.proofs.Accepted.{apart-pairs}
use Rattle.soundness.proofs.Postings.{stamp-some}
use Rattle.soundness.proofs.Taking.{own-among}
use Rattle.agreement.specs.Run.{Entry, Lawful, World}
use Rattle.agreement.specs.Claims.{Holds, OfGroup, HasStamp}
use Rattle.agreement.proofs.Hearing.{Heard, HeardTime, at-one-place}
use Rattle.agreement.proofs.Calls.{Well}
use Rattle.agreement.proofs.Entries.{in_group, one_entry}
use Rattle.agreement.proofs.Agreed.{Agrees, Goes, entry_of}
use Rattle.right.proofs.RightLaws.{stamp-all}
use Rattle.payment.proofs.GreatestLaws.{greatest-same}

-- one ledger's own times differ between payments
pub own-times-differ : (l : Ledger) → sound l ≡ true → (x y d g q t : ℕ) → 1 ≤ q → q ≤ most_ledgers → Heard l x d q t → Heard l y g q t
    → x ≡ y
own-times-differ l s x y d g zero t h₁ h₈ u v = absurd (omega arith)
own-times-differ l s x y d g (suc k) t h₁ h₈ u v =
    by_place u.at_place v.at_place
    (λ e. sym u.number ∙ ap (λ i. (at l.payments i).number.0) e ∙ v.number)
    (λ o. absurd (apart-pairs l (clauses l s).kept u.at_place v.at_place u.within v.within u.used v.used o k
    (omega arith)
    u.so.heard v.so.heard (u.so.time ∙ sym v.so.time)))

module _ (n : ℕ) (table : List Entry) (law : Lawful n table) (w : World) (a : Agrees n table w) where
  -- what ledgers have heard of one ledger for one payment is one time
  pub one_time : (j k m d g q t u : ℕ) → OfGroup n j → OfGroup n k → OfGroup n q → Heard (w.ledgers j) m d q t
      → Heard (w.ledgers k) m g q u → t ≡ u
  one_time j k m d g q t u hj hk hq x y =
      let mine = a.agreed j q m d t hj.0 hj.1 hq.0 hq.1 x in
      let other = a.agreed k q m g u hk.0 hk.1 hq.0 hq.1 y in
      sym mine.so.time
      ∙ (at-one-place (w.ledgers q) (a.well q hq.0 hq.1).is-sound m (HeardTime d q t) (HeardTime g q u) mine other).time

  -- a payment goes to the same ledgers wherever it is held
  pub one_way : (j k m d g : ℕ) → OfGroup n j → OfGroup n k → Holds (w.ledgers j) m (Goes d) → Holds (w.ledgers k) m (Goes g) → d ≡ g
  one_way j k m d g hj hk x y =
      ap (λ e. e.destinations)
      (one_entry n table law (entry_of m d) (entry_of m g) (a.listed j m d hj.0 hj.1 x) (a.listed k m g hk.0 hk.1 y) refl)

  -- a payment that is held goes to some of the group
  pub goes-within : (k m d q : ℕ) → OfGroup n k → Holds (w.ledgers k) m (Goes d) → has d q ≡ true → OfGroup n q
  goes-within k m d q hk x e = in_group n d q (law.destinations (entry_of m d) (a.listed k m d hk.0 hk.1 x)).1 e

  -- what a ledger holds has this ledger among its destinations
  pub goes-there : (k : ℕ) → OfGroup n k → (i : ℕ) → i < limit → i < (w.ledgers k).count
      → has (at (w.ledgers k).payments i).destinations k ≡ true
  goes-there k hk i h u =
      let l = w.ledgers k in
      let well = a.well k hk.0 hk.1 in
      ap (has (at l.payments i).destinations) (sym well.own)
      ∙ own-among l.group l.own.0 (at l.payments i).destinations
      (not-true _ (each_at l.payments l.count (lawful l.group l.own.0) (clauses l well.is-sound).kept.destinations i h u))

  module _ (k m : ℕ) (s : Stamp) (hk : OfGroup n k) (x : HasStamp (w.ledgers k) m s) where
    abbrev here : Payment
    here = at (w.ledgers k).payments x.at_place

    well : Well n k (w.ledgers k)
    well = a.well k hk.0 hk.1

    pub goes-here : Holds (w.ledgers k) m (Goes here.destinations)
    goes-here = record { at_place = x.at_place; within = x.within; used = x.used; number = x.number; so = refl }

    pub all_here : here.heard ≡ here.destinations
    all_here =
        stamp-all (w.ledgers k).own.0 here x.so.0
        (each_at (w.ledgers k).payments (w.ledgers k).count (phase_right (w.ledgers k).own.0)
        (clauses _ well.is-sound).kept.phase x.at_place x.within x.used)

    pub time-here : (q : ℕ) → heard_from here q ≡ true → Heard (w.ledgers k) m here.destinations q (time_from here q)
    time-here q h =
        record {
          at_place = x.at_place;
          within = x.within;
          used = x.used;
          number = x.number;
          so = record { destinations = refl; heard = h; time = refl };
        }

    pub in-group-here : (q : ℕ) → heard_from here q ≡ true → OfGroup n q
    in-group-here q h = goes-within k m here.destinations q hk goes-here (ap (λ b. has b q) (sym all_here) ∙ h)

    pub own-here : heard_from here k ≡ true
    own-here = ap (λ b. has b k) all_here ∙ goes-there k hk x.at_place x.within x.used

    -- the stamp is some ledger's own time
    stamp-ledger : s.ledger.0 ≡ suc (s.ledger.0 - 1)
    stamp-ledger =
        let most = law.ledgers.1 in
        let few = hk.1 in
        let some = stamp-some here k hk.0 (omega arith) own-here in
        place s.ledger.0 (λ z. let e : (stamp_of here).ledger.0 ≡ 0 = ap (λ r. r.ledger.0) x.so.1 ∙ z in omega (arith, e, some))

    proposed : (heard_from here s.ledger.0 ≡ true) × (time_from here s.ledger.0 ≡ s.time.0)
    proposed =
        let p = greatest-proposed here.times here.heard most_ledgers (s.ledger.0 - 1)
        (ap (λ r. r.ledger.0) x.so.1 ∙ stamp-ledger) in
        subst (λ q. (heard_from here q ≡ true) × (time_from here q ≡ s.time.0)) (sym stamp-ledger)
        (p.0, ap (λ t. t.0) p.1 ∙ ap (λ r. r.time.0) x.so.1)

    pub stamp-of-group : OfGroup n s.ledger.0
    stamp-of-group = in-group-here s.ledger.0 proposed.0

    pub stamp-heard : Heard (w.ledgers k) m here.destinations s.ledger.0 s.time.0
    stamp-heard = subst (Heard (w.ledgers k) m here.destinations s.ledger.0) proposed.1 (time-here s.ledger.0 proposed.0)

  pub one-stamp : (j k m : ℕ) (s r : Stamp) → OfGroup n j → OfGroup n k → HasStamp (w.ledgers j) m s → HasStamp (w.ledgers k) m r → s ≡ r
  one-stamp j k m s r hj hk x y =
      let p = at (w.ledgers j).payments x.at_place in
      let q = at (w.ledgers k).payments y.at_place in
      let way = one_way j k m p.destinations q.destinations hj hk (goes-here j m s hj x) (goes-here k m r hk y) in
      let heard = all_here j m s hj x ∙ way ∙ sym (all_here k m r hk y) in
      sym x.so.1
      ∙ greatest-same p.times q.times p.heard most_ledgers
      (λ i h e. ap (λ t. record { 0 = t })
      (one_time j k m p.destinations q.destinations (suc i) _ _ hj hk (in-group-here j m s hj x (suc i) e)
      (time-here j m s hj x (suc i) e) (time-here k m r hk y (suc i) (ap (λ b. has b (suc i)) (sym heard) ∙ e))))
      ∙ ap (λ b. greatest q.times b most_ledgers) heard
      ∙ y.so.1

  pub no-two-alike : (j k x y : ℕ) (s : Stamp) → OfGroup n j → OfGroup n k → HasStamp (w.ledgers j) x s → HasStamp (w.ledgers k) y s
      → x ≡ y
  no-two-alike j k x y s hj hk u v =
      let q = s.ledger.0 in
      let hq = stamp-of-group j x s hj u in
      own-times-differ (w.ledgers q) (a.well q hq.0 hq.1).is-sound x y _ _ q s.time.0 hq.0
      (let most = law.ledgers.1 in let few = hq.1 in omega arith)
      (a.agreed j q x _ s.time.0 hj.0 hj.1 hq.0 hq.1 (stamp-heard j x s hj u))
      (a.agreed k q y _ s.time.0 hk.0 hk.1 hq.0 hq.1 (stamp-heard k y s hk v))
