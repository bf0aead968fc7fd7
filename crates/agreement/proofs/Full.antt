-- Once every copy is handed in, each ledger has posted all its payments.
-- Assumes nothing.
use Prim.Native.Nat.{ℕ, suc, ◌<◌, ◌≤◌}
use mathlib.Core.Path.{◌≡◌, refl, ap, sym, ◌∙◌, subst}
use mathlib.Core.List.{List}
use mathlib.Core.Bool.{true}
use mathlib.Core.Logic.{⊎_elim}
use native.Mathlib.Nat.{le_trans}
use native.Mathlib.Omega.{arith}
use lib.Dec.{ltb}
use borrow.Author.Tests.{eqb-true, ltb-false, ltb-true}
use Rattle.ledgers.proofs.LedgerLaws.{has-empty}
use Rattle.common.specs.Bits.{bit}
use Rattle.common.specs.Places.{In}
use Rattle.common.proofs.PlaceLaws.{any-not, by_place}
use Rattle.common.proofs.TestLaws.{both, or_cases, same, split}
use Rattle.ledgers.specs.Ledgers.{has, most_ledgers}
use Rattle.payment.specs.Payments.{has_stamp, heard_from, is_posted, is_stamped, last_time, stamp_of}
use Rattle.right.specs.Right.{heard_right, phase_right}
use Rattle.payment.specs.declared.Payment.{Payment}
use Rattle.right.proofs.RightLaws.{all-stamped, heard-destination}
use Rattle.held.specs.Held.{at, limit}
use Rattle.posting.proofs.FreeLaws.{back-other, free-none, free-so}
use Rattle.checked.proofs.ReflectLaws.{each_at, unused-at}
use Rattle.refusals.specs.declared.Incoming.{Incoming}
use Rattle.ledger.specs.declared.Ledger.{Ledger}
use Rattle.ledger.proofs.SoundLaws.{clauses}
use Rattle.soundness.proofs.Replacing.{unused-phase}
use Rattle.agreement.specs.Run.{Call, Calls, Entry, Lawful, World, after, multicast_copy}
use Rattle.agreement.specs.Claims.{AllHandedIn, HandedIn, Holds, OfGroup}
use Rattle.agreement.proofs.Agreed.{Agrees, Goes, entry_of}
use Rattle.agreement.proofs.Calls.{Well, frame_of}
use Rattle.agreement.proofs.Clocks.{own-time-below}
use Rattle.agreement.proofs.Copies.{copy_of, desk_frame, in-byte, ledger_frame, read-multicast, read-propose}
use Rattle.common.proofs.CountLaws.{same_byte}
use Rattle.agreement.proofs.Entries.{in_group}
use Rattle.agreement.proofs.Handed.{Got}
use Rattle.agreement.proofs.Hearing.{Heard, HeardTime, at-one-place}
use Rattle.agreement.proofs.Stamps.{goes-there}
use Rattle.agreement.proofs.Invariant.{clock-bound, got, kept}
use Rattle.ledgers.proofs.OtherLaws.{among-others}

module _ (n : ℕ) (table : List Entry) (law : Lawful n table) (cs : List Call) (calls : Calls n table cs)
    (handed : AllHandedIn n table cs) where
  abbrev w : World
  w = after n cs

  a : Agrees n table (after n cs)
  a = (kept n table law cs calls).agrees

  few : {k : ℕ} → k ≤ n → k ≤ most_ledgers
  few h = le_trans h law.ledgers.1

  of-group : (e : Entry) → In e table → (q : ℕ) → has e.destinations q ≡ true → OfGroup n q
  of-group e i q = in_group n e.destinations q (law.destinations e i).1

  -- what was handed in of a frame that reads so
  heard-of : (f : Incoming) (frame : List ℕ) (k : ℕ) → HandedIn frame k cs → ((c : Call) → c.frame ≡ frame → frame_of c ≡ f)
      → Got n k ((after n cs).ledgers k) f
  heard-of f frame k h reads =
      subst (Got n k (w.ledgers k)) (reads h.call h.bytes)
      (subst (λ j. Got n j (w.ledgers j) (frame_of h.call)) h.to (got n table law cs calls h.call h.among))

  -- each destination has given its own time
  pub own-given : (e : Entry) → In e table → (q : ℕ) → has e.destinations q ≡ true → (t : ℕ)
      × Heard ((after n cs).ledgers q) e.number e.destinations q t
  own-given e i q h =
      let g = heard-of (desk_frame e) (multicast_copy e) q (handed.multicasts e i q h)
      (λ c bytes. (read-multicast n table law e i c bytes).1) in
      (g.time, g.heard)

  -- and the other destinations have heard it
  all-heard : (e : Entry) → In e table → (k q : ℕ) → has e.destinations k ≡ true → has e.destinations q ≡ true → (t : ℕ)
      × Heard ((after n cs).ledgers k) e.number e.destinations q t
  all-heard e i k q hk hq =
      by_place k q
      (λ z. subst (λ j. (t : ℕ) × Heard (w.ledgers j) e.number e.destinations q t) (sym z) (own-given e i q hq))
      (λ z. let own = own-given e i q hq in
      let t = own.0 in
      let gq = of-group e i q hq in
      let gk = of-group e i k hk in
      let other = among-others e.destinations q k (in-byte n table law e i) gq.0 (few gq.1) (few gk.1) z hk in
      let written = a.sent q e.number e.destinations t gq.0 gq.1 own.1
      (λ y. both other (ap (λ d. has d k) y ∙ has-empty k)) in
      let early : t ≤ last_time = let b = own-time-below n q (w.ledgers q) (a.well q gq.0 gq.1) _ _ t
      own.1 in let m = clock-bound n table law cs calls q gq in let f = law.ledgers.1 in omega (arith, b, m, f) in
      let g = heard-of (ledger_frame e q t) (copy_of e q t).frame k (handed.proposes (copy_of e q t) written k other)
      (λ c bytes. (read-propose n table law e i q t gq.1 early c bytes).1) in
      (g.time, g.heard))

  module _ (k : ℕ) (hk : OfGroup n k) where
    abbrev l : Ledger
    l = (after n cs).ledgers k

    well : Well n k ((after n cs).ledgers k)
    well = a.well k hk.0 hk.1

    module _ (i : ℕ) (h : i < limit) (u : i < ((after n cs).ledgers k).count) where
      abbrev p : Payment
      p = at l.payments i

      abbrev entry : Entry
      entry = entry_of p.number.0 p.destinations

      goes : Holds ((after n cs).ledgers k) p.number.0 (Goes p.destinations)
      goes = record { at_place = i; within = h; used = u; number = refl; so = refl }

      listed : In (entry_of (at ((after n cs).ledgers k).payments i).number.0 (at ((after n cs).ledgers k).payments i).destinations) table
      listed = a.listed k _ _ hk.0 hk.1 goes

      to-here : has (at ((after n cs).ledgers k).payments i).destinations k ≡ true
      to-here = goes-there n table law (after n cs) a k hk i h u

      is-heard : (q : ℕ) → has p.destinations q ≡ true → heard_from p q ≡ true
      unfolding goes
      is-heard q hq =
          let x = all-heard entry listed k q to-here hq in
          (at-one-place l well.is-sound p.number.0 (Goes p.destinations) (HeardTime p.destinations q x.0) goes x.1).heard

      every_one : p.heard ≡ p.destinations
      unfolding has
      every_one =
          same_byte p.heard p.destinations (well.shape.heard i h) (in-byte n table law entry listed)
          (λ j hj. same (bit p.heard j) (bit p.destinations j)
          (heard-destination p (each_at l.payments l.count heard_right (clauses l well.is-sound).kept.heard i h u) j hj)
          (is-heard (suc j)))

      stamped : has_stamp (at ((after n cs).ledgers k).payments i) ≡ true
      stamped =
          all-stamped l.own.0 p
          (each_at l.payments l.count (phase_right l.own.0) (clauses l well.is-sound).kept.phase i h u)
          (is-heard l.own.0 (ap (has p.destinations) well.own ∙ to-here)) every_one

    -- so nothing is still proposed
    none-proposed : (j : ℕ) → j < limit → (at ((after n cs).ledgers k).payments j).phase ≡ 1 → ⊥
    none-proposed j h e =
        split (ltb j l.count)
        (λ t. ⊎_elim
        (λ s. let z : (at l.payments j).phase ≡ 2 = eqb-true _ _ s in omega (arith, z, e))
        (λ s. let z : (at l.payments j).phase ≡ 3 = eqb-true _ _ s in omega (arith, z, e))
        (or_cases (is_stamped (at l.payments j)) (is_posted (at l.payments j)) (stamped j h (ltb-true _ _ t))))
        (λ t. let z = unused-phase (at l.payments j) (unused-at l.payments l.count
        (clauses l well.is-sound).kept.unused j h (ltb-false _ _ t)) in omega (arith, z, e))

    -- and nothing is held back
    pub all-posted : (i : ℕ) → i < limit → i < ((after n cs).ledgers k).count → is_posted (at ((after n cs).ledgers k).payments i) ≡ true
    all-posted i h u =
        ⊎_elim
        (λ s. both
        (free-so l.payments l.own.0 i (stamp_of (at l.payments i)) refl (eqb-true _ _ s)
        (any-not limit _ (λ j g. back-other l.own.0 (stamp_of (at l.payments i)) (at l.payments j) (none-proposed j g))))
        (free-none l.payments l.own.0 (clauses l well.is-sound).free i h))
        (λ s. s)
        (or_cases (is_stamped (at l.payments i)) (is_posted (at l.payments i)) (stamped i h u))
