-- One payment of a sound ledger replaced, or one added: which clauses of soundness are kept, and from what.
-- Assumes nothing.
use Rattle.common.proofs.PlaceLaws.{by_place}
use Prim.Native.Nat.{ℕ, ◌<◌, ◌≤◌}
use mathlib.Core.Path.{◌≡◌, refl, ap, sym, ◌∙◌, subst}
use mathlib.Core.Bool.{Bool, true, false, not, ◌&&◌}
use native.Mathlib.Omega.{arith}
use lib.Dec.{eqb, ltb}
use lib.ListN.{length, set}
use lib.Seq.{get_or-set_other, get_or-set_same}
use borrow.Author.Tests.{eqb-true, le-leb, le-ltb, ltb-false, ltb-true, not-true}
use Rattle.common.proofs.TestLaws.{and_both, and_left, and_right, both, split}
use Rattle.frame.specs.declared.Time.{Time}
use Rattle.payment.specs.Payments.{has_stamp, heard_from, is_posted, last_time, stamp_of, time_from}
use Rattle.right.specs.Right.{heard_right, lawful, not_above_clock, number_not_zero, numbers_differ, times_differ, phase_right, unused}
use Rattle.payment.specs.declared.Payment.{Payment}
use Rattle.held.specs.Held.{at, limit, no_payment}
use Rattle.checked.specs.Checked.{comes_after, posted_below, unused_all}
use Rattle.checked.proofs.ReflectLaws.{each_at, each-so, pairs-at, pairs-so, posted-at, posted-so, unused-at, unused-so}
use Rattle.ledgers.specs.Ledgers.{is_ledger_of}
use Rattle.ledger.specs.Sound.{each, in_range, pairs}
use Rattle.ledger.specs.declared.Ledger.{Ledger}
use Rattle.ledger.proofs.SoundLaws.{Almost}

-- an unused place is waiting
pub unused-phase : (p : Payment) → unused p ≡ true → p.phase ≡ 0
unfolding unused
unused-phase p e =
    eqb-true _ _ (and_left (eqb p.phase 0) _ (and_right (eqb p.heard 0) _
    (and_right (eqb p.destinations 0) _ (and_right (eqb p.number.0 0) _ e))))

-- what is not above a clock is not above a later one
not-less : (a b c : ℕ) → b ≤ c → ltb b a ≡ false → ltb c a ≡ false
not-less a b c h e = let l = ltb-false b a e in le-ltb c a (omega arith)

above-later : (p : Payment) (own clock clock' : ℕ) → clock ≤ clock' → not_above_clock own clock p ≡ true → not_above_clock own clock' p ≡ true
unfolding not_above_clock
above-later p own clock clock' h e =
    and_both
    (still (heard_from p own) (time_from p own) (and_left (not (heard_from p own && ltb clock (time_from p own))) _ e))
    (still (has_stamp p) (stamp_of p).time.0 (and_right (not (heard_from p own && ltb clock (time_from p own))) _ e))
  where
    still : (b : Bool) (t : ℕ) → not (b && ltb clock t) ≡ true → not (b && ltb clock' t) ≡ true
    still true t q = ap not (not-less t clock clock' h (not-true (ltb clock t) q))
    still false t q = refl

-- the ledger with payment q at place i
abbrev pub with-payment : Ledger → ℕ → Time → ℕ → Payment → Ledger
with-payment l count clock i q =
    record { group = l.group; own = l.own; clock = clock; count = count; payments = set l.payments i q }

-- what the payment at place i must be
pub record Fits (l : Ledger) (count : ℕ) (clock : Time) (i : ℕ) (q : Payment) : Type 0 where
  pub place : i < limit
  pub places : length l.payments ≡ limit
  pub inside : i < count
  pub few : count ≤ limit
  pub others : (j : ℕ) → j < count → (j ≡ i → ⊥) → j < l.count
  pub grown : l.count ≤ count
  pub later : l.clock.0 ≤ clock.0
  pub time : clock.0 ≤ last_time
  pub number : number_not_zero q ≡ true
  pub destinations : lawful l.group l.own.0 q ≡ true
  pub heard : heard_right q ≡ true
  pub not-above : not_above_clock l.own.0 clock.0 q ≡ true
  pub phase : phase_right l.own.0 q ≡ true
  pub unposted : is_posted q ≡ false
  pub other-number : (j : ℕ) → j < limit → j < l.count → (j ≡ i → ⊥)
      → (numbers_differ q (at l.payments j) ≡ true) × (numbers_differ (at l.payments j) q ≡ true)
  pub other-times : (j : ℕ) → j < limit → j < l.count → (j ≡ i → ⊥)
      → (times_differ q (at l.payments j) ≡ true) × (times_differ (at l.payments j) q ≡ true)
  pub behind-posted : (j : ℕ) → j < limit → j < l.count → (j ≡ i → ⊥) → is_posted (at l.payments j) ≡ true
      → comes_after l.own.0 (stamp_of (at l.payments j)) q ≡ true

-- a payment past waiting is a held one
pub past-held : (l : Ledger) → Almost l → (j : ℕ) → j < limit → ((at l.payments j).phase ≡ 0 → ⊥) → j < l.count
past-held l s j h n =
    split (ltb j l.count) (λ t. ltb-true _ _ t)
    (λ t. absurd (n (unused-phase (at l.payments j) (unused-at l.payments l.count s.unused j h (ltb-false _ _ t)))))

pub posted-held : (l : Ledger) → Almost l → (j : ℕ) → j < limit → is_posted (at l.payments j) ≡ true → j < l.count
posted-held l s j h p = past-held l s j h (λ z. let three = eqb-true (at l.payments j).phase 3 p in omega (arith, z, three))

module _ (l : Ledger) (count : ℕ) (clock : Time) (i : ℕ) (q : Payment) (s : Almost l) (w : Fits l count clock i q) where
  at_new : at (set l.payments i q) i ≡ q
  at_new = get_or-set_same l.payments i q no_payment (subst (λ n. i < n) (sym w.places) w.place)

  at_old : (j : ℕ) → (j ≡ i → ⊥) → at (set l.payments i q) j ≡ at l.payments j
  at_old j n = get_or-set_other l.payments i j q no_payment n

  -- of the payment at each place: q, or the one that was there
  at_each : (A : Payment → Type 0) (j : ℕ) → A q → ((j ≡ i → ⊥) → A (at l.payments j)) → A (at (set l.payments i q) j)
  at_each A j new old =
      by_place j i
      (λ e. subst A (sym (ap (at (set l.payments i q)) e ∙ at_new)) new)
      (λ n. subst A (sym (at_old j n)) (old n))

  each-kept : (f g : Payment → Bool) → each l f ≡ true → ((p : Payment) → f p ≡ true → g p ≡ true) → g q ≡ true
      → each (with-payment l count clock i q) g ≡ true
  each-kept f g e up new =
      each-so (set l.payments i q) count g
      (λ j h u. at_each (λ p. g p ≡ true) j new
      (λ n. up (at l.payments j) (each_at l.payments l.count f e j h (w.others j u n))))

  pairs-kept : (f : Payment → Payment → Bool) → pairs l f ≡ true
      → ((j : ℕ) → j < limit → j < l.count → (j ≡ i → ⊥) → (f q (at l.payments j) ≡ true) × (f (at l.payments j) q ≡ true))
      → pairs (with-payment l count clock i q) f ≡ true
  pairs-kept f e new =
      pairs-so (set l.payments i q) count f
      (λ j k h u lt. by_place j i
      (λ a. let other : k ≡ i → ⊥ = λ b. omega arith in
      subst (λ p. f p (at (set l.payments i q) k) ≡ true) (sym (ap (at (set l.payments i q)) a ∙ at_new))
      (subst (λ p. f q p ≡ true) (sym (at_old k other)) (new k (omega arith) (w.others k (omega arith) other) other).0))
      (λ a. subst (λ p. f p (at (set l.payments i q) k) ≡ true) (sym (at_old j a))
      (at_each (λ p. f (at l.payments j) p ≡ true) k (new j h (w.others j u a) a).1
      (λ b. pairs-at l.payments l.count f e j k h (w.others j u a) lt))))

  unused-kept : unused_all (set l.payments i q) count ≡ true
  unused-kept =
      unused-so (set l.payments i q) count
      (λ j h u. let inside = w.inside in
      let grown = w.grown in
      subst (λ p. unused p ≡ true) (sym (at_old j (λ e. omega arith)))
      (unused-at l.payments l.count s.unused j h (omega arith)))

  posted-kept : posted_below (set l.payments i q) l.own.0 ≡ true
  posted-kept =
      posted-so (set l.payments i q) l.own.0
      (λ j k h g. by_place j i
      (λ a p. both (subst (λ x. is_posted x ≡ true) (ap (at (set l.payments i q)) a ∙ at_new) p) w.unposted)
      (λ a p. let p₀ = subst (λ x. is_posted x ≡ true) (at_old j a) p in
      subst (λ x. comes_after l.own.0 (stamp_of x) (at (set l.payments i q) k) ≡ true) (sym (at_old j a))
      (at_each (λ x. comes_after l.own.0 (stamp_of (at l.payments j)) x ≡ true) k
      (w.behind-posted j h (posted-held l s j h p₀) a p₀)
      (λ b. posted-at l.payments l.own.0 s.posted j k h g p₀))))

  range-kept : in_range (with-payment l count clock i q) ≡ true
  range-kept =
      and_both (and_left (is_ledger_of l.group l.own.0) _ s.range) (and_both (le-leb _ _ w.time) (le-leb _ _ w.few))

  pub replaced : Almost (with-payment l count clock i q)
  replaced =
      record {
        range = range-kept;
        numbers = pairs-kept numbers_differ s.numbers w.other-number;
        number = each-kept number_not_zero number_not_zero s.number (λ p e. e) w.number;
        destinations = each-kept (lawful l.group l.own.0) (lawful l.group l.own.0) s.destinations (λ p e. e)
            w.destinations;
        heard = each-kept heard_right heard_right s.heard (λ p e. e) w.heard;
        unused = unused-kept;
        times = pairs-kept times_differ s.times w.other-times;
        clock =
            each-kept (not_above_clock l.own.0 l.clock.0) (not_above_clock l.own.0 clock.0) s.clock
            (λ p. above-later p l.own.0 l.clock.0 clock.0 w.later) w.not-above;
        phase = each-kept (phase_right l.own.0) (phase_right l.own.0) s.phase (λ p e. e) w.phase;
        posted = posted-kept;
      }
