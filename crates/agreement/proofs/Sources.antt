-- The named properties of source documents 000 and 003, said of our runs: what is one step from demand 3 and from soundness.
-- Assumes nothing.
use Prim.Native.Nat.{ℕ, suc, ◌*◌, ◌<◌, ◌≤◌}
use mathlib.Core.Path.{◌≡◌, ap, sym, ◌∙◌, subst}
use mathlib.Core.List.{List}
use mathlib.Core.Bool.{true, not, ◌&&◌}
use mathlib.Core.Logic.{◌⊎◌}
use native.Mathlib.Omega.{arith}
use lib.Dec.{ltb}
use borrow.Author.Tests.{ltb-false, not-true}
use Rattle.common.specs.Places.{In}
use Rattle.common.proofs.TestLaws.{and-go, and_right}
use Rattle.payment.specs.Payments.{has_stamp, heard_from, is_posted, proposal, stamp_of, time_from}
use Rattle.right.specs.Right.{not_above_clock, phase_right}
use Rattle.payment.specs.Stamps.{below}
use Rattle.payment.specs.declared.Stamp.{Stamp}
use Rattle.payment.proofs.GreatestLaws.{greatest-above}
use Rattle.payment.proofs.StampLaws.{below_or, rank}
use Rattle.held.specs.Held.{at, limit}
use Rattle.checked.proofs.AfterLaws.{after-proposed}
use Rattle.checked.proofs.ReflectLaws.{each_at, posted-at}
use Rattle.ledger.proofs.SoundLaws.{clauses}
use Rattle.agreement.specs.Run.{Call, Entry, Run, after, multicast_copy}
use Rattle.agreement.specs.Claims.{Addressed, Earlier, HandedIn, Holds, OfGroup, Precedes, HasStamp}
use Rattle.agreement.proofs.Hearing.{Heard}
use Rattle.agreement.proofs.Invariant.{Kept, clock-bound, kept}
use Rattle.agreement.proofs.Logs.{Posted}
use Rattle.agreement.proofs.Stamps.{all_here, goes-there, stamp-heard, stamp-of-group}
use Rattle.ledgers.specs.Ledgers.{has, most_ledgers}
use Rattle.agreement.proofs.Theorem.{demand-3}
use Rattle.agreement.proofs.Order.{not-both}
use Rattle.right.proofs.RightLaws.{all-stamped}

module _ (n : ℕ) (table : List Entry) (cs : List Call) (run : Run n table cs) where
  k : Kept n table (after n cs)
  k = kept n table run.lawful cs run.calls

  -- 000: each payment is assigned a single stamp
  pub same-gts : (p q m : ℕ) (s r : Stamp) → OfGroup n p → OfGroup n q → HasStamp ((after n cs).ledgers p) m s
      → HasStamp ((after n cs).ledgers q) m r → s ≡ r
  same-gts = (demand-3 n table cs run).one-stamp

  -- 000: stamps are unique for each payment
  pub unique-gts : (p x y : ℕ) (s r : Stamp) → OfGroup n p → (x ≡ y → ⊥) → HasStamp ((after n cs).ledgers p) x s
      → HasStamp ((after n cs).ledgers p) y r → s ≡ r → ⊥
  unique-gts p x y s r h o a b e = o ((demand-3 n table cs run).no-two-alike p p x y s h h a
      (subst (HasStamp ((after n cs).ledgers p) y) (sym e) b))

  -- 003: all addressees agree on a stamp, and every payment has its own: the two above; AsymmetricOrdering:
  pub asymmetric-ordering : (p q x y : ℕ) → OfGroup n p → OfGroup n q → Earlier ((after n cs).ledgers p) x y
      → Earlier ((after n cs).ledgers q) y x → ⊥
  asymmetric-ordering = not-both n table run.lawful (after n cs) k

  -- 003: of two payments that a ledger has stamped one is first (and by AsymmetricOrdering the same one everywhere)
  pub global-total-ordering : (p x y : ℕ) (s r : Stamp) → OfGroup n p → (x ≡ y → ⊥) → HasStamp ((after n cs).ledgers p) x s
      → HasStamp ((after n cs).ledgers p) y r
      → (below s r ≡ true) ⊎ (below r s ≡ true)
  global-total-ordering p x y s r h o a b = below_or s r (unique-gts p x y s r h o a b)

  -- 003: what is posted was multicast: it is a payment of the table for this ledger, and a MULTICAST copy of it was handed in here
  pub validity : (p m : ℕ) → OfGroup n p → Holds ((after n cs).ledgers p) m Posted
      → Addressed table p m × ((e : Entry) × In e table × (e.number ≡ m) × HandedIn (multicast_copy e) p cs)
  validity p m h x =
      let i = (k.logs p h).complete m x in
      ((demand-3 n table cs run).only-its p m h i, (demand-3 n table cs run).asked p m h i)

  -- 003: posted means in the log, and once
  pub integrity : (p m : ℕ) → OfGroup n p
      → (Holds ((after n cs).ledgers p) m Posted → In m ((after n cs).logs p))
      × (In m ((after n cs).logs p) → Holds ((after n cs).ledgers p) m Posted) × (Precedes m m ((after n cs).logs p) → ⊥)
  integrity p m h = ((k.logs p h).complete m, (k.logs p h).posted m, (demand-3 n table cs run).once p m h)

  -- 003: a payment is stamped once every destination is heard
  pub committed-when-heard : (p i : ℕ) → OfGroup n p → i < limit → i < ((after n cs).ledgers p).count
      → (at ((after n cs).ledgers p).payments i).heard ≡ (at ((after n cs).ledgers p).payments i).destinations
      → has_stamp (at ((after n cs).ledgers p).payments i) ≡ true
  committed-when-heard p i h hi u e =
      let l = (after n cs).ledgers p in
      let well = k.agrees.well p h.0 h.1 in
      all-stamped l.own.0 (at l.payments i) (each_at l.payments l.count (phase_right l.own.0)
      (clauses l well.is-sound).kept.phase i hi u)
      (ap (λ b. has b l.own.0) e ∙ ap (has (at l.payments i).destinations) well.own
      ∙ goes-there n table run.lawful (after n cs) k.agrees p h i hi u) e

  -- 003: and then only; a stamp is not below any proposal, is one of them, which is the own time of the ledger it names, and its time is
  -- not above the clock
  pub record ValidStamp (p m : ℕ) (s : Stamp) (x : HasStamp ((after n cs).ledgers p) m s) : Type 0 where
    pub all-heard : (at ((after n cs).ledgers p).payments x.at_place).heard ≡ (at ((after n cs).ledgers p).payments
        x.at_place).destinations
    pub greatest : (q : ℕ) → q < most_ledgers → heard_from (at ((after n cs).ledgers p).payments x.at_place) (suc q) ≡ true
        → rank (proposal (at ((after n cs).ledgers p).payments x.at_place).times (suc q)) ≤ rank s
    pub own : Heard ((after n cs).ledgers s.ledger.0) m (at ((after n cs).ledgers p).payments x.at_place).destinations
        s.ledger.0 s.time.0
    pub in-time : s.time.0 ≤ ((after n cs).ledgers p).clock.0

  pub valid-global-ts : (p m : ℕ) (s : Stamp) → OfGroup n p → (x : HasStamp ((after n cs).ledgers p) m s) → ValidStamp p m s x
  unfolding not_above_clock
  valid-global-ts p m s h x =
      let l = (after n cs).ledgers p in
      let here = at l.payments x.at_place in
      let sound = (clauses l (k.agrees.well p h.0 h.1).is-sound).kept in
      record {
        all-heard = all_here n table run.lawful (after n cs) k.agrees p m s h x;
        greatest = λ q g e. subst (λ r. rank (proposal here.times (suc q)) ≤ rank r) x.so.1
            (greatest-above here.times here.heard most_ledgers (omega arith) q g e);
        own = let g = stamp-of-group n table run.lawful (after n cs) k.agrees p m s h x in
            k.agrees.agreed p s.ledger.0 m _ _ h.0 h.1 g.0 g.1
            (stamp-heard n table run.lawful (after n cs) k.agrees p m s h x);
        in-time = subst (λ r. r.time.0 ≤ l.clock.0) x.so.1
            (ltb-false _ _ (sym (and-go (ltb l.clock.0 (stamp_of here).time.0) x.so.0)
            ∙ not-true _ (and_right (not (heard_from here l.own.0 && ltb l.clock.0 (time_from here l.own.0))) _
            (each_at l.payments l.count (not_above_clock l.own.0 l.clock.0) sound.clock x.at_place x.within
            x.used))));
      }

  -- 003: a posted stamp is below the own proposal of every payment still proposed
  pub valid-delivery : (p i j : ℕ) → OfGroup n p → i < limit → j < limit → is_posted (at ((after n cs).ledgers p).payments i) ≡ true
      → (at ((after n cs).ledgers p).payments j).phase ≡ 1
      → below (stamp_of (at ((after n cs).ledgers p).payments i)) (proposal (at ((after n cs).ledgers p).payments j).times p) ≡ true
  valid-delivery p i j h hi hj posted proposed =
      let l = (after n cs).ledgers p in
      let well = k.agrees.well p h.0 h.1 in
      subst (λ q. below (stamp_of (at l.payments i)) (proposal (at l.payments j).times q) ≡ true) well.own
      (sym (after-proposed l.own.0 (stamp_of (at l.payments i)) (at l.payments j) proposed)
      ∙ posted-at l.payments l.own.0 (clauses l well.is-sound).kept.posted i j hi hj posted)

  -- 003: no clock passes its bound
  pub bounded-clock : (p : ℕ) → OfGroup n p → ((after n cs).ledgers p).clock.0 ≤ n * limit
  bounded-clock = clock-bound n table run.lawful cs run.calls
