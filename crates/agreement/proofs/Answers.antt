-- In a run nothing but 0 and 9 is answered [G8]: no other row of the table applies.
-- Assumes nothing.
use Prim.Native.Nat.{ℕ, ◌^◌, ◌<◌, ◌≤◌}
use mathlib.Core.Path.{◌≡◌, refl, ap, sym, ◌∙◌, subst}
use mathlib.Core.List.{List, [], ◌∷◌}
use mathlib.Core.Bool.{Bool, true, false, cond, not, ◌&&◌, ◌||◌}
use mathlib.Core.Logic.{◌⊎◌, inl, inr, ⊎_elim}
use native.Mathlib.Nat.{le_trans}
use native.Mathlib.Omega.{arith}
use lib.ListN.{drop}
use borrow.Author.Tests.{eq-eqb, eqb-true, le-leb, le-ltb, lt-leb, ne_eqb}
use Rattle.common.proofs.PlaceLaws.{any-not}
use Rattle.common.proofs.TestLaws.{and_both, and-false, and-go, and_left, and_right, and-stop, both, or-go, split}
use Rattle.ledgers.specs.Ledgers.{has, most_ledgers, unlawful}
use Rattle.payment.specs.Payments.{heard_from, keeps, last_time, time_from}
use Rattle.payment.proofs.KeptLaws.{keeps-proposes}
use Rattle.held.specs.Held.{at, held_for_another, is_number, limit}
use Rattle.frame.specs.Digits.{sum}
use Rattle.frame.specs.Frames.{body}
use Rattle.refusals.specs.Refusals.{Row, another_time, bad_source, bad_time, clock_at_end, first_given, held_one}
use Rattle.refusals.specs.Refusals.{is_held, is_propose, no_room, other_destinations, repeat, row}
use Rattle.ledger.specs.Table.{refusals}
use Rattle.refusals.specs.declared.Incoming.{Incoming}
use Rattle.ledger.specs.declared.Ledger.{Ledger}
use Rattle.agreement.specs.Run.{Call, Entry, Lawful, May, World}
use Rattle.agreement.specs.Claims.{Holds}
use Rattle.agreement.proofs.Agreed.{Agrees, Goes, came, of-table}
use Rattle.agreement.proofs.Calls.{Well, answer, frame_of}
use Rattle.agreement.proofs.Clocks.{given, given-few}
use Rattle.agreement.proofs.Copies.{FromLedger, in-byte, ledger_frame, to-destination}
use Rattle.agreement.proofs.Entries.{one_entry}
use Rattle.agreement.proofs.Found.{heard-used, holds_at}
use Rattle.agreement.proofs.Hearing.{Heard}
use Rattle.agreement.proofs.Room.{Room, room-here}
use Rattle.agreement.proofs.Stamps.{one_time, own-times-differ}
use Rattle.ledgers.proofs.OtherLaws.{other-destination}

-- a row that does not apply is passed over
skip : (k : ℕ) (rs : List Row) {b : Bool} → b ≡ false → first_given (row k b ∷ rs) ≡ first_given rs
unfolding first_given
skip k rs e = ap (λ b. cond b k (first_given rs)) e

-- the rows that speak of a PROPOSE alone
record Fine (l : Ledger) (f : Incoming) : Type 0 where
  source : bad_source l.group l.own.0 f ≡ false
  time : bad_time f ≡ false
  times : is_propose f && (another_time l.payments f || held_for_another l.payments f.payment.0 f.source.0 f.time.0) ≡ false

module _ (n : ℕ) (table : List Entry) (law : Lawful n table) (w : World) (c : Call) (may : May n table w c) (a : Agrees n table w) where
  abbrev here : Ledger
  here = w.ledgers c.to

  well : Well n c.to (w.ledgers c.to)
  well = a.well c.to may.ledger.0 may.ledger.1

  pub number-right : (frame_of c).payment.0 ≡ 0 → ⊥
  number-right = (law.number _ (of-table n table law w c may a)).0

  -- 5
  destinations-right : unlawful here.group here.own.0 (frame_of c).destinations ≡ false
  unfolding unlawful
  destinations-right =
      let lawful = law.destinations _ (of-table n table law w c may a) in
      or-go _ (ne_eqb _ _ lawful.0)
      ∙ or-go _ (lt-leb _ _ (subst (λ g. (frame_of c).destinations < 2 ^ g) (sym well.group) lawful.1))
      ∙ ap not (ap (has (frame_of c).destinations) well.own ∙ to-destination n table law w c a.copied may)

  -- the payment that is held under the frame's number
  held-here : is_held here.payments (frame_of c) ≡ true → Holds (w.ledgers c.to) (frame_of c).payment.0
      (λ p. p ≡ held_one here.payments (frame_of c))
  held-here = holds_at here well.is-sound (frame_of c).payment.0 number-right

  -- 8: the destinations are the table's
  pub one_way : other_destinations here.payments (frame_of c) ≡ false
  one_way =
      split (is_held here.payments (frame_of c))
      (λ h. let x = held-here h in
      let goes : Holds (w.ledgers c.to) (frame_of c).payment.0 (Goes (held_one here.payments (frame_of c)).destinations)
      = record { at_place = x.at_place; within = x.within; used = x.used; number = x.number; so = ap (λ p. p.destinations) x.so } in
      let same = one_entry n table law _ _ (a.listed c.to _ _ may.ledger.0 may.ledger.1 goes)
      (of-table n table law w c may a) refl in
      and-go _ h ∙ ap not (eq-eqb _ _ (ap (λ e. e.destinations) same)))
      (λ h. and-stop _ h)

  -- 10
  has_room : Room table c.to (w.ledgers c.to) → no_room here.count here.payments (frame_of c) ≡ false
  has_room r =
      split (is_held here.payments (frame_of c))
      (λ h. and-stop _ (ap not h))
      (λ h. and-go _ (ap not h) ∙ ne_eqb here.count limit
      (λ z. let less = room-here n table law w c may a r h in omega (arith, less, z)))

  -- 11
  clock-goes-on : here.clock.0 ≤ given n w → clock_at_end here.clock.0 (frame_of c) ≡ false
  clock-goes-on b =
      let most = given-few n w in
      let few = law.ledgers.1 in
      ap (λ x. not (is_propose (frame_of c)) && x) (ne_eqb here.clock.0 last_time (λ z. omega (arith, b, most, few, z)))
      ∙ and-false (not (is_propose (frame_of c)))

  -- 6, 7 and 8 of a PROPOSE that a ledger of the group wrote
  module _ (o : FromLedger n table w c) where
    abbrev m : ℕ
    m = o.sent.entry.number

    abbrev d : ℕ
    d = o.sent.entry.destinations

    abbrev q : ℕ
    q = o.sent.writer

    abbrev t : ℕ
    t = o.sent.time

    few : {k : ℕ} → k ≤ n → k ≤ most_ledgers
    few h = le_trans h law.ledgers.1

    another : c.to ≡ o.sent.writer → ⊥
    another = (other-destination d q c.to (in-byte n table law o.sent.entry o.sent.in_table) o.sent.from.0
        (few o.sent.from.1) (few may.ledger.1) o.recipient).0

    source-right : bad_source here.group here.own.0 (ledger_frame o.sent.entry q t) ≡ false
    source-right =
        or-go _ (ne_eqb q 0 (λ z. let some = o.sent.from.0 in omega (arith, some, z)))
        ∙ or-go _ (le-ltb _ _ (subst (λ g. q ≤ g) (sym well.group) o.sent.from.1))
        ∙ or-go _ (ap not o.sent.among)
        ∙ ne_eqb _ _ (λ z. another (sym well.own ∙ sym z))

    time-right : bad_time (ledger_frame o.sent.entry q t) ≡ false
    time-right = ap not (and_both (le-leb _ _ o.sent.in-time.0) (le-leb _ _ o.sent.in-time.1))

    -- one time from this source for it
    no-other-time : another_time here.payments (ledger_frame o.sent.entry q t) ≡ false
    no-other-time =
        split (is_held here.payments (ledger_frame o.sent.entry q t))
        (λ h. split (heard_from (held_one here.payments (ledger_frame o.sent.entry q t)) q)
        (λ e. let p = held_one here.payments (ledger_frame o.sent.entry q t) in
        let x = holds_at here well.is-sound m (law.number _ o.sent.in_table).0 h in
        let mine : Heard (w.ledgers c.to) m p.destinations q (time_from p q)
        = record {
          at_place = x.at_place;
          within = x.within;
          used = x.used;
          number = x.number;
          so = record {
            destinations = ap (λ z. z.destinations) x.so;
            heard = ap (λ z. heard_from z q) x.so ∙ e;
            time = ap (λ z. time_from z q) x.so;
          };
        } in
        and-go _ h ∙ and-go _ e ∙ ap not (eq-eqb _ _ (one_time n table law w a c.to q m _ _ q _ t may.ledger o.sent.from
        o.sent.from mine o.sent.heard)))
        (λ e. and-go _ h ∙ and-stop _ e))
        (λ h. and-stop _ h)

    -- and this time from it for no other payment
    no-other-payment : held_for_another here.payments m q t ≡ false
    no-other-payment =
        any-not limit _
        (λ i h. split (not (is_number here.payments m i) && keeps (at here.payments i) q t)
        (λ e. let p = at here.payments i in
        let kept = sym (keeps-proposes p q t) ∙ and_right (not (is_number here.payments m i)) _ e in
        let is-heard = and_left (heard_from p q) _ kept in
        let mine : Heard (w.ledgers c.to) p.number.0 p.destinations q t
        = record {
          at_place = i;
          within = h;
          used = heard-used here well.is-sound i q h is-heard;
          number = refl;
          so = record { destinations = refl; heard = is-heard; time = eqb-true _ _ (and_right (heard_from p q) _ kept) };
        } in
        let its = a.agreed c.to q _ _ t may.ledger.0 may.ledger.1 o.sent.from.0 o.sent.from.1 mine in
        let same = own-times-differ (w.ledgers q) (a.well q o.sent.from.0 o.sent.from.1).is-sound _ _ _ _ q t
        o.sent.from.0 (few o.sent.from.1) its o.sent.heard in
        both (and_left (not (is_number here.payments m i)) _ e) (ap not (eq-eqb _ _ same)))
        (λ e. e))

  fine : Fine (w.ledgers c.to) (frame_of c)
  fine =
      ⊎_elim
      (λ o. subst (Fine here) (sym o.frame) (record { source = refl; time = refl; times = refl }))
      (λ o. subst (Fine here) (sym o.frame) (record {
        source = source-right o;
        time = time-right o;
        times = ap (λ b. b || held_for_another here.payments o.sent.entry.number o.sent.writer o.sent.time)
            (no-other-time o) ∙ no-other-payment o;
      }))
      (came n table law w c may a)

  module _ (room : Room table c.to (w.ledgers c.to)) (bound : here.clock.0 ≤ given n w) where
    pub zero-or-nine : (answer w c ≡ 0) ⊎ (answer w c ≡ 9)
    unfolding first_given sum body
    zero-or-nine =
        let before-nine =
        skip 1 (refusals-after 1) (ap not well.is-sound)
        ∙ skip 2 (refusals-after 2) (or-go _ (le-ltb _ _ may.outgoing) ∙ le-ltb _ _ may.list)
        ∙ skip 3 (refusals-after 3) (⊎_elim (λ o. o.is-frame) (λ o. o.is-frame) (came n table law w c may a))
        ∙ skip 4 (refusals-after 4) (ne_eqb _ _ number-right)
        ∙ skip 5 (refusals-after 5) destinations-right
        ∙ skip 6 (refusals-after 6) fine.source
        ∙ skip 7 (refusals-after 7) fine.time
        ∙ skip 8 (refusals-after 8) (or-go _ one_way ∙ fine.times) in
        split (repeat here.payments (frame_of c))
        (λ t. inr (before-nine ∙ ap (λ b. cond b 9 (first_given (refusals-after 9))) t))
        (λ t. inl (before-nine ∙ skip 9 (refusals-after 9) t ∙ skip 10 (refusals-after 10) (has_room room)
        ∙ skip 11 [] (clock-goes-on bound)))
      where
        refusals-after : ℕ → List Row
        refusals-after k = drop k (refusals here c.frame c.outgoing c.list)
