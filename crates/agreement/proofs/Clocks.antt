-- Clocks stay far below their end: no clock is above the number of own times given so far, and a ledger gives one for each payment.
-- Assumes nothing.
use Rattle.common.proofs.PlaceLaws.{by_place}
use Prim.Native.Nat.{ℕ, zero, suc, ◌+◌, ◌*◌, ◌<◌, ◌≤◌}
use mathlib.Core.Path.{◌≡◌, refl, ap, sym, ◌∙◌, subst}
use mathlib.Core.List.{List}
use mathlib.Core.Bool.{true, false, cond}
use mathlib.Core.Logic.{⊎_elim}
use native.Mathlib.Nat.{le_refl, le_trans}
use native.Mathlib.Omega.{arith}
use borrow.Author.Tests.{eqb-true}
use Rattle.common.specs.Places.{count}
use Rattle.common.proofs.TestLaws.{split}
use Rattle.ledgers.specs.Ledgers.{has, most_ledgers}
use Rattle.payment.specs.Payments.{all_heard, heard_from, stamp_of, time_from}
use Rattle.right.specs.Right.{not_above_clock}
use Rattle.payment.proofs.GreatestLaws.{greatest-time}
use Rattle.held.specs.Held.{at, limit}
use Rattle.checked.proofs.ReflectLaws.{each_at}
use Rattle.refusals.specs.Refusals.{first_given, is_propose}
use Rattle.ledger.specs.Table.{value_rows}
use Rattle.ledger.specs.Sound.{sound}
use Rattle.ledger.specs.Step.{payment_for, place_for}
use Rattle.refusals.specs.declared.Incoming.{Incoming}
use Rattle.ledger.specs.declared.Ledger.{Ledger}
use Rattle.ledger.proofs.JudgeLaws.{place-range}
use Rattle.ledger.proofs.SoundLaws.{clauses}
use Rattle.soundness.specs.Shaped.{Shaped}
use Rattle.soundness.proofs.Accepted.{own_below}
use Rattle.soundness.proofs.Kept.{brings, heard_clock, heard_payment}
use Rattle.agreement.specs.Run.{Call, Entry, Lawful, May, World, called}
use Rattle.agreement.specs.Claims.{OfGroup}
use Rattle.agreement.proofs.Agreed.{Agrees, agrees-next, of-table}
use Rattle.agreement.proofs.Calls.{Well, at_other, by_call, frame_of, view}
use Rattle.common.proofs.CountLaws.{count-le, count-lt, count_most, sum-le, sum_lt, sum-most, sum_of}
use Rattle.agreement.proofs.Entries.{in_group}
use Rattle.agreement.proofs.Found.{place-heard}
use Rattle.agreement.proofs.Hearing.{Heard, HeardTime, has-now, heard-goes, heard-lasts, own-unheard, still-heard}
use Rattle.agreement.proofs.View.{View}
use Rattle.agreement.proofs.Written.{taken-call}

-- how many own times a ledger has given
abbrev pub own_times : Ledger → ℕ
own_times l = count limit (λ i. heard_from (at l.payments i) l.own.0)

-- how many the group has given
abbrev pub given : ℕ → World → ℕ
given n w = sum_of n (λ k. own_times (w.ledgers (suc k)))

-- an own time is not above the clock
pub own-time-below : (n q : ℕ) (l : Ledger) → Well n q l → (m d t : ℕ) → Heard l m d q t → t ≤ l.clock.0
own-time-below n q l well m d t x =
    let p = at l.payments x.at_place in
    subst (λ z. z ≤ l.clock.0) (ap (time_from p) well.own ∙ x.so.time)
    (own_below p l.own.0 l.clock.0 (ap (heard_from p) well.own ∙ x.so.heard)
    (each_at l.payments l.count (not_above_clock l.own.0 l.clock.0) (clauses l well.is-sound).kept.clock x.at_place
    x.within x.used))

module _ (l : Ledger) (f : Incoming) (is-sound : sound l ≡ true) (shape : Shaped l) (e : first_given (value_rows l f) ≡ 0)
    (after : Ledger) (v : View l f after)
    (own : (1 ≤ l.own.0) × (l.own.0 ≤ most_ledgers)) where
  -- an own time that is given stays
  given_stays : (i : ℕ) → i < limit → heard_from (at l.payments i) l.own.0 ≡ true
      → heard_from (at after.payments i) after.own.0 ≡ true
  given_stays i h t =
      subst (λ o. heard_from (at after.payments i) o.0 ≡ true) (sym v.own)
      (by_place i (place_for l f)
      (λ q. let was : heard_from (payment_for l f) l.own.0 ≡ true = sym (place-heard l is-sound f e l.own.0)
      ∙ subst (λ j. heard_from (at l.payments j) l.own.0 ≡ true) q t in
      let now = still-heard l f is-sound shape e _ l.own.0 _ own.0 own.1
      (record { destinations = refl; heard = was; time = refl }) in
      ap (λ j. heard_from (at after.payments j) l.own.0) q ∙ ap (λ b. has b l.own.0) v.self.heard ∙ now.heard)
      (λ q. ap (λ b. has b l.own.0) (v.other i h q).heard ∙ t))

  pub own-times-up : own_times l ≤ own_times after
  own-times-up = count-le limit _ _ given_stays

  -- a MULTICAST that is taken gives one more
  pub own-times-more : is_propose f ≡ false → own_times l < own_times after
  own-times-more k =
      count-lt limit _ _ given_stays (place_for l f) (place-range l f is-sound e)
      (place-heard l is-sound f e l.own.0 ∙ own-unheard l f is-sound shape e k)
      (subst (λ o. heard_from (at after.payments (place_for l f)) o.0 ≡ true) (sym v.own)
      (ap (λ b. has b l.own.0) v.self.heard
      ∙ subst (λ b. heard_from (heard_payment l f) (cond b f.source.0 l.own.0) ≡ true) k (brings l f is-sound shape e).heard.heard))

module _ (n : ℕ) (table : List Entry) (law : Lawful n table) (w : World) (c : Call) (may : May n table w c) (a : Agrees n table w)
    (bound : (k : ℕ) → OfGroup n k → (w.ledgers k).clock.0 ≤ given n w) where
  called-well : Well n c.to (w.ledgers c.to)
  called-well = a.well c.to may.ledger.0 may.ledger.1

  abbrev before : Ledger
  before = w.ledgers c.to

  own_in : (1 ≤ (w.ledgers c.to).own.0) × ((w.ledgers c.to).own.0 ≤ most_ledgers)
  own_in =
      let most = law.ledgers.1 in
      let h = may.ledger in
      subst (λ k. (1 ≤ k) × (k ≤ most_ledgers)) (sym called-well.own) (h.0, le_trans h.1 most)

  each-up : (k : ℕ) → own_times (w.ledgers k) ≤ own_times ((called w c).ledgers k)
  each-up k =
      by_call w c (λ l. own_times (w.ledgers k) ≤ own_times l) called-well.shape k (le_refl _)
      (λ e t v. subst (λ j. own_times (w.ledgers j) ≤ own_times ((called w c).ledgers c.to)) (sym e)
      (own-times-up before (frame_of c) t.is-sound called-well.shape t.unrefused ((called w c).ledgers c.to) v own_in))

  given-up : given n w ≤ given n (called w c)
  given-up = sum-le n _ _ (λ k h. each-up (suc k))

  given-more : taken-call w c → is_propose (frame_of c) ≡ false → given n w < given n (called w c)
  given-more t k =
      let h = may.ledger in
      let more = own-times-more before (frame_of c) t.is-sound called-well.shape t.unrefused ((called w c).ledgers c.to)
      (view w c t called-well.shape) own_in k in
      at-number c.to h.0 h.1 more
    where
      at-number : (j : ℕ) → 1 ≤ j → j ≤ n → own_times (w.ledgers j) < own_times ((called w c).ledgers j) → given n w < given n (called w c)
      at-number zero h₁ hₙ m = absurd (omega arith)
      at-number (suc j) h₁ hₙ m = sum_lt n _ _ (λ k h. each-up (suc k)) j (omega arith) m

  -- the clock by rules 1 and 2
  heard-bound : taken-call w c → heard_clock (w.ledgers c.to) (frame_of c) ≤ given n (called w c)
  heard-bound t =
      let old = bound c.to may.ledger in
      split (is_propose (frame_of c))
      (λ k. subst (λ b. cond b (w.ledgers c.to).clock.0 ((w.ledgers c.to).clock.0 + 1) ≤ given n (called w c)) (sym k)
      (le_trans old given-up))
      (λ k. subst (λ b. cond b (w.ledgers c.to).clock.0 ((w.ledgers c.to).clock.0 + 1) ≤ given n (called w c)) (sym k)
      (let more = given-more t k in omega (arith, old, more)))

  -- a time that is heard is its ledger's own, and so not above that ledger's clock
  time-bound : taken-call w c → (q : ℕ) → OfGroup n q → heard_from (heard_payment before (frame_of c)) q ≡ true
      → time_from (heard_payment before (frame_of c)) q ≤ given n (called w c)
  time-bound t q hq h =
      by_place q c.to
      (λ e. let own = e ∙ sym called-well.own in
      subst (λ j. time_from (heard_payment before (frame_of c)) j ≤ given n (called w c)) (sym own)
      (le_trans ((brings before (frame_of c) t.is-sound called-well.shape t.unrefused).own-time
      (subst (λ j. heard_from (heard_payment before (frame_of c)) j ≡ true) own h)) (heard-bound t)))
      (λ e. let now = has-now before (frame_of c) t.is-sound called-well.shape t.unrefused ((called w c).ledgers c.to)
      (view w c t called-well.shape)
      (HeardTime (heard_payment before (frame_of c)).destinations q (time_from (heard_payment before (frame_of c)) q)) (heard-lasts _ q _)
      (record { destinations = refl; heard = h; time = refl }) in
      let there = (agrees-next n table law w c may a).agreed c.to q _ _ _ may.ledger.0 may.ledger.1 hq.0 hq.1 now in
      let its = subst (λ l. Heard l (frame_of c).payment.0 (heard_payment before (frame_of c)).destinations q
      (time_from (heard_payment before (frame_of c)) q)) (at_other w c q e) there in
      le_trans (own-time-below n q (w.ledgers q) (a.well q hq.0 hq.1) _ _ _ its) (le_trans (bound q hq) given-up))

  stamp-bound : taken-call w c → all_heard (heard_payment before (frame_of c)) ≡ true
      → (stamp_of (heard_payment before (frame_of c))).time.0 ≤ given n (called w c)
  stamp-bound t all =
      let p = heard_payment before (frame_of c) in
      let goes = heard-goes before (frame_of c) t.is-sound called-well.shape t.unrefused in
      let lawful = (law.destinations _ (of-table n table law w c may a)).1 in
      greatest-time p.times p.heard (λ z. z ≤ given n (called w c)) (omega arith) most_ledgers
      (λ k h e. time-bound t (suc k) (in_group n _ (suc k) lawful (ap (λ b. has b (suc k)) (sym (eqb-true _ _ all ∙ goes)) ∙ e)) e)

  pub bound-next : (k : ℕ) → OfGroup n k → ((called w c).ledgers k).clock.0 ≤ given n (called w c)
  bound-next k hk =
      by_call w c (λ l. l.clock.0 ≤ given n (called w c)) called-well.shape k (le_trans (bound k hk) given-up)
      (λ e t v. ⊎_elim
      (λ q. subst (λ z. z ≤ given n (called w c)) (sym q) (heard-bound t))
      (λ q. subst (λ z. z ≤ given n (called w c)) (sym q.0) (stamp-bound t q.1))
      v.clock-from)

-- at most one own time for each place of each ledger
pub given-few : (n : ℕ) (w : World) → given n w ≤ n * limit
given-few n w = sum-most n limit _ (λ k h. count_most limit _)
