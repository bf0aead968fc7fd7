-- What a ledger has heard, by payment number: a taken step adds one proposal and takes none away.
-- Assumes nothing.
use Rattle.ledgers.proofs.LedgerLaws.{has-empty}
use Rattle.common.proofs.PlaceLaws.{by_place}
use Prim.Native.Nat.{ℕ, zero, suc, ◌<◌, ◌≤◌}
use mathlib.Core.Path.{◌≡◌, refl, ap, sym, ◌∙◌, subst}
use mathlib.Core.Bool.{Bool, true, false, not, cond}
use mathlib.Core.Logic.{⊎_elim}
use native.Mathlib.Omega.{arith}
use borrow.Author.Tests.{eqb-true, not-false}
use Rattle.common.proofs.TestLaws.{and_both, and-go, both, or_left, or_right, split}
use Rattle.ledgers.specs.Ledgers.{has, most_ledgers}
use Rattle.payment.specs.Payments.{has_proposal, heard_from, is_waiting, new_payment, time_from, time_in}
use Rattle.payment.specs.declared.Payment.{Payment}
use Rattle.payment.proofs.HearLaws.{Hears}
use Rattle.held.specs.Held.{at, limit, place_of}
use Rattle.ledger.specs.Sound.{sound}
use Rattle.refusals.specs.Refusals.{another_time, first_given, held_one, is_held, is_propose, other_destinations}
use Rattle.ledger.specs.Table.{value_rows}
use Rattle.ledger.specs.Step.{count_for, payment_for, place_for}
use Rattle.refusals.specs.declared.Incoming.{Incoming}
use Rattle.ledger.specs.declared.Ledger.{Ledger}
use Rattle.ledger.proofs.JudgeLaws.{place-range}
use Rattle.ledger.proofs.SoundLaws.{clauses}
use Rattle.soundness.specs.Shaped.{Shaped}
use Rattle.soundness.proofs.Accepted.{Accepted, Base, accepted, apart-numbers, base, place-used}
use Rattle.soundness.proofs.Kept.{brings, heard_payment, speaker, spoken_time}
use Rattle.soundness.proofs.Taking.{place-grown, place_inside, place-others}
use Rattle.agreement.specs.Claims.{Holds}
use Rattle.agreement.proofs.View.{Same, View}

-- what is so of a payment whatever its phase
abbrev pub Lasting : (Payment → Type 0) → Type 0
Lasting P = (p q : Payment) → Same p q → P q → P p

-- its destinations are d, and ledger q's time t is heard for it
pub record HeardTime (d q t : ℕ) (p : Payment) : Type 0 where
  pub destinations : p.destinations ≡ d
  pub heard : heard_from p q ≡ true
  pub time : time_from p q ≡ t

abbrev pub Heard : Ledger → ℕ → ℕ → ℕ → ℕ → Type 0
Heard l m d q t = Holds l m (HeardTime d q t)

pub heard-lasts : (d q t : ℕ) → Lasting (HeardTime d q t)
heard-lasts d q t p r s h =
    record {
      destinations = s.destinations ∙ h.destinations;
      heard = ap (λ b. has b q) s.heard ∙ h.heard;
      time = ap (λ ts. (time_in ts q).0) s.times ∙ h.time;
    }

module _ (l : Ledger) (f : Incoming) (is-sound : sound l ≡ true) (shape : Shaped l) (e : first_given (value_rows l f) ≡ 0) where
  a : Accepted l f
  a = accepted l f e

  b : Base l f
  b = base l f (clauses l is-sound).kept shape (accepted l f e)

  -- the payment that the frame is about, held or new
  abbrev either-payment : Bool → Payment
  either-payment c = cond c (held_one l.payments f) (new_payment f.payment.0 f.destinations)

  -- a MULTICAST that is taken finds its payment waiting
  multicast-waits : is_propose f ≡ false → (payment_for l f).phase ≡ 0
  multicast-waits k =
      split (is_held l.payments f)
      (λ h. ap (λ c. (either-payment c).phase) h
      ∙ eqb-true _ _ (not-false (is_waiting (held_one l.payments f))
      (sym (ap (λ c. cond c (has_proposal (held_one l.payments f) f.source.0 f.time.0)
      (not (is_waiting (held_one l.payments f)))) k)
      ∙ sym (and-go _ h) ∙ a.no-repeat)))
      (λ h. ap (λ c. (either-payment c).phase) h)

  pub own-unheard : is_propose f ≡ false → heard_from (payment_for l f) l.own.0 ≡ false
  own-unheard k = ⊎_elim (λ x. x.1) (λ x. absurd (one (sym (multicast-waits k) ∙ x.0))) b.phase
    where
      one : ◌≡◌ {A = ℕ} 0 1 → ⊥
      one z = omega arith

  -- a PROPOSE that is taken is neither a repeat nor in conflict, so its source was not heard
  source-unheard : is_propose f ≡ true → heard_from (payment_for l f) f.source.0 ≡ false
  source-unheard k =
      split (is_held l.payments f)
      (λ h. ap (λ c. heard_from (either-payment c) f.source.0) h
      ∙ held-unheard h (heard_from (held_one l.payments f) f.source.0) refl)
      (λ h. ap (λ c. heard_from (either-payment c) f.source.0) h ∙ has-empty f.source.0)
    where
      held-unheard : is_held l.payments f ≡ true → (c : Bool) → heard_from (held_one l.payments f) f.source.0 ≡ c → c ≡ false
      held-unheard h false q = refl
      held-unheard h true q =
          let not-kept : has_proposal (held_one l.payments f) f.source.0 f.time.0 ≡ false
          = sym (ap (λ c. cond c (has_proposal (held_one l.payments f) f.source.0 f.time.0)
          (not (is_waiting (held_one l.payments f)))) k) ∙ sym (and-go _ h) ∙ a.no-repeat in
          let other = sym (and-go _ q) ∙ not-kept in
          let conflicting = or_left (another_time l.payments f) _
          (sym (and-go _ k) ∙ or_right (other_destinations l.payments f) _ a.conflict-free) in
          both (and_both h (and_both q (ap not other))) conflicting

  speaker-unheard : heard_from (payment_for l f) (speaker l f) ≡ false
  speaker-unheard =
      split (is_propose f)
      (λ k. ap (λ c. heard_from (payment_for l f) (cond c f.source.0 l.own.0)) k ∙ source-unheard k)
      (λ k. ap (λ c. heard_from (payment_for l f) (cond c f.source.0 l.own.0)) k ∙ own-unheard k)

  -- a used place that is the frame's place holds the frame's payment
  pub is-payment : (j : ℕ) → j < l.count → j ≡ place_for l f → payment_for l f ≡ at l.payments j
  is-payment j u q =
      split (is_held l.payments f)
      (λ h. ap either-payment h ∙ ap (at l.payments) (sym (q ∙ ap (λ c. cond c (place_of l.payments f.payment.0) l.count) h)))
      (λ h. let same : j ≡ l.count = q ∙ ap (λ c. cond c (place_of l.payments f.payment.0) l.count) h in absurd (omega arith))

  -- a ledger from 1 to 8 that was heard is not the one that is heard now
  pub still-heard : (d q t : ℕ) → 1 ≤ q → q ≤ most_ledgers → HeardTime d q t (payment_for l f) → HeardTime d q t (heard_payment l f)
  still-heard d zero t h₁ h₈ h = absurd (omega arith)
  still-heard d (suc k) t h₁ h₈ h =
      let v = (brings l f is-sound shape e).heard in
      let other : suc k ≡ speaker l f → ⊥ = λ q. both h.heard (ap (heard_from (payment_for l f)) q ∙ speaker-unheard) in
      record {
        destinations = v.destinations ∙ h.destinations;
        heard = v.heard-other k (omega arith) other ∙ h.heard;
        time = v.time-other k (omega arith) other ∙ h.time;
      }

  pub heard-goes : (heard_payment l f).destinations ≡ f.destinations
  heard-goes = (brings l f is-sound shape e).heard.destinations ∙ b.destinations

  module _ (after : Ledger) (v : View l f after) where
    heard-number : (heard_payment l f).number.0 ≡ f.payment.0
    heard-number = ap (λ x. x.0) (brings l f is-sound shape e).heard.number ∙ b.number

    pub has-now : (P : Payment → Type 0) → Lasting P → P (heard_payment l f) → Holds after f.payment.0 P
    has-now P lasts h =
        record {
          at_place = place_for l f;
          within = place-range l f is-sound e;
          used = subst (λ c. place_for l f < c) (sym v.count) (place_inside l (clauses l is-sound).kept shape f a);
          number = ap (λ x. x.0) v.self.number ∙ heard-number;
          so = lasts _ _ v.self h;
        }

    pub has_kept : (P : Payment → Type 0) → Lasting P → (P (payment_for l f) → P (heard_payment l f)) → (m : ℕ) → Holds l m P
        → Holds after m P
    has_kept P lasts goes m o =
        by_place o.at_place (place_for l f)
        (λ g. let is = is-payment o.at_place o.used g in
        subst (λ n. Holds after n P) (sym b.number ∙ ap (λ p. p.number.0) is ∙ o.number)
        (has-now P lasts (goes (subst P (sym is) o.so))))
        (λ g. let s = v.other o.at_place o.within g in let g = place-grown l f in
        record {
          at_place = o.at_place;
          within = o.within;
          used = subst (λ c. o.at_place < c) (sym v.count) (grown-used o.used);
          number = ap (λ x. x.0) s.number ∙ o.number;
          so = lasts _ _ s o.so;
        })
      where
        grown-used : {j : ℕ} → j < l.count → j < count_for l f
        grown-used {j} u = let g = place-grown l f in omega arith

    -- what is so of a payment afterwards was so of it before, or is of the frame's payment
    pub has-from : (P : Payment → Type 0) → Lasting P → (A : Type 0) (m : ℕ) → Holds after m P
        → (Holds l m P → A) → (m ≡ f.payment.0 → P (heard_payment l f) → A) → A
    has-from P lasts A m o old new =
        by_place o.at_place (place_for l f)
        (λ g. let s = back (subst (λ i. Same (at after.payments i) (heard_payment l f)) (sym g) v.self) in
        new (sym o.number ∙ sym (ap (λ x. x.0) s.number) ∙ heard-number) (lasts _ _ s o.so))
        (λ g. let s = back (v.other o.at_place o.within g) in
        old (record {
          at_place = o.at_place;
          within = o.within;
          used = place-others l (clauses l is-sound).kept shape f a o.at_place (subst (λ c. o.at_place < c) v.count o.used) g;
          number = ap (λ x. x.0) s.number ∙ o.number;
          so = lasts _ _ s o.so;
        }))
      where
        back : {p q : Payment} → Same p q → Same q p
        back s = record { number = sym s.number; destinations = sym s.destinations; heard = sym s.heard; times = sym s.times }

    -- the frame's payment was held
    pub has-held : (P : Payment → Type 0) → is_held l.payments f ≡ true → P (payment_for l f) → Holds l f.payment.0 P
    has-held P held h =
        record {
          at_place = place_of l.payments f.payment.0;
          within = subst (λ i. i < limit) (ap (λ c. cond c (place_of l.payments f.payment.0) l.count) held)
              (place-range l f is-sound e);
          used = place-used l (clauses l is-sound).kept shape f a held;
          number = sym (ap (λ c. (either-payment c).number.0) held) ∙ b.number;
          so = subst P (ap either-payment held) h;
        }

    pub heard-now : Heard after f.payment.0 f.destinations (speaker l f) (spoken_time l f)
    heard-now =
        let w = (brings l f is-sound shape e).heard in
        has-now (HeardTime f.destinations (speaker l f) (spoken_time l f))
        (heard-lasts f.destinations (speaker l f) (spoken_time l f))
        (record { destinations = w.destinations ∙ b.destinations; heard = w.heard; time = w.time })

    pub heard-kept : (m d q t : ℕ) → 1 ≤ q → q ≤ most_ledgers → Heard l m d q t → Heard after m d q t
    heard-kept m d q t h₁ h₈ = has_kept (HeardTime d q t) (heard-lasts d q t) (still-heard d q t h₁ h₈) m

    -- what is heard afterwards was heard before, or is what the frame said
    pub heard-from : (A : Type 0) (m d q t : ℕ) → 1 ≤ q → q ≤ most_ledgers → Heard after m d q t
        → (Heard l m d q t → A) → (m ≡ f.payment.0 → d ≡ f.destinations → q ≡ speaker l f → t ≡ spoken_time l f → A) → A
    heard-from A m d q t h₁ h₈ o old new =
        has-from (HeardTime d q t) (heard-lasts d q t) A m o old
        (λ r h. by_place q (speaker l f)
        (λ z. new r (sym h.destinations ∙ w.destinations ∙ b.destinations) z
        (sym h.time ∙ ap (time_from (heard_payment l f)) z ∙ w.time))
        (λ z. old (subst (λ n. Heard l n d q t) (sym r) (before q h₁ h₈ z h))))
      where
        w : Hears (payment_for l f) (heard_payment l f) (speaker l f) (spoken_time l f)
        w = (brings l f is-sound shape e).heard

        before : (q : ℕ) → 1 ≤ q → q ≤ most_ledgers → (q ≡ speaker l f → ⊥) → HeardTime d q t (heard_payment l f)
            → Heard l f.payment.0 d q t
        before zero h₁ h₈ z h = absurd (omega arith)
        before (suc k) h₁ h₈ z h =
            let was = sym (w.heard-other k (omega arith) z) ∙ h.heard in
            has-held (HeardTime d (suc k) t)
            (split (is_held l.payments f) (λ c. c) (λ c. both was (ap (λ x. heard_from (either-payment x) (suc k)) c ∙ has-empty (suc k))))
            (record {
              destinations = sym w.destinations ∙ h.destinations;
              heard = was;
              time = sym (w.time-other k (omega arith) z) ∙ h.time;
            })

-- what is so of one payment stands at one place
pub at-one-place : (l : Ledger) → sound l ≡ true → (m : ℕ) (P Q : Payment → Type 0) (x : Holds l m P) (y : Holds l m Q)
    → Q (at l.payments x.at_place)
at-one-place l is-sound m P Q x y =
    by_place x.at_place y.at_place
    (λ e. subst (λ i. Q (at l.payments i)) (sym e) y.so)
    (λ n. absurd (apart-numbers l (clauses l is-sound).kept x.at_place y.at_place x.within y.within x.used y.used n
    (x.number ∙ sym y.number)))
