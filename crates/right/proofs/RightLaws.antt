-- Laws of the clauses of soundness that speak of one payment or of two, one for each way through the definitions.
-- Assumes nothing.
use Prim.Native.Nat.{ℕ, zero, suc, ◌<◌}
use mathlib.Core.Path.{◌≡◌, refl, ap, ap₂, sym, ◌∙◌, subst}
use mathlib.Core.Bool.{Bool, true, false, cond, not, ◌&&◌}
use mathlib.Core.Logic.{⊎_elim}
use mathlib.Core.List.{List, [], ◌∷◌}
use lib.ListN.{get_or, length, replicate}
use lib.Pointwise.{pointwise}
use Rattle.std.proofs.Math.Bool.{and_comm}
use Rattle.frame.specs.declared.Time.{Time}
use native.Mathlib.Omega.{arith}
use lib.Dec.{eqb}
use borrow.Author.Tests.{eq-eqb, eqb-false, eqb-true, lt-ltb, ne_eqb}
use Rattle.common.specs.Places.{every}
use Rattle.common.proofs.PlaceLaws.{every-at, every-same}
use Rattle.common.proofs.TestLaws.{and-false, and_left, and_right, and-stop, and-true, both, or_cases, split}
use Rattle.ledgers.specs.Ledgers.{has, most_ledgers}
use Rattle.ledgers.proofs.LedgerLaws.{has-empty}
use Rattle.payment.specs.Payments.{all_heard, has_proposal, has_stamp, heard_from, is_posted, is_proposed, no_time, time_in}
use Rattle.payment.specs.Payments.{is_stamped, is_waiting, keeps, stamp_is_of, stamp_of, time_from}
use Rattle.payment.proofs.KeptLaws.{keeps-proposes, stamp-proposed}
use Rattle.right.specs.Right.{heard_right, phase_right, time_right, times_differ, unused}
use Rattle.payment.specs.declared.Payment.{Payment}

module _ (p : Payment) (k : ℕ) where
  pub right-unheard : heard_from p k ≡ false → time_right p k ≡ eqb (time_from p k) 0
  right-unheard e = simp e

  pub right-elsewhere : heard_from p k ≡ true → has p.destinations k ≡ false → time_right p k ≡ false
  right-elsewhere e f = simp (e, f)

-- the clause on the phase, by the phase and by what was heard
module _ (own : ℕ) (p : Payment) where
  pub waiting-own : p.phase ≡ 0 → heard_from p own ≡ true → phase_right own p ≡ false
  unfolding phase_right
  waiting-own e h = simp (eq-eqb _ _ e, h)

  pub waiting-others : p.phase ≡ 0 → heard_from p own ≡ false → phase_right own p ≡ not (eqb p.heard 0)
  unfolding phase_right
  waiting-others e h = simp (eq-eqb _ _ e, h)

  pub proposed-own : p.phase ≡ 1 → heard_from p own ≡ true → phase_right own p ≡ not (all_heard p)
  unfolding phase_right
  proposed-own e h = simp (eq-eqb _ _ e, ne_eqb p.phase 0 (λ z. omega arith), h)

  pub proposed-others : p.phase ≡ 1 → heard_from p own ≡ false → phase_right own p ≡ false
  unfolding phase_right
  proposed-others e h = simp (eq-eqb _ _ e, ne_eqb p.phase 0 (λ z. omega arith), h)

  pub later-stamp : (p.phase ≡ 0 → ⊥) → (p.phase ≡ 1 → ⊥) → has_stamp p ≡ true → phase_right own p ≡ all_heard p
  unfolding phase_right
  later-stamp e f h = simp (ne_eqb _ _ e, ne_eqb _ _ f, h)

  pub later-none : (p.phase ≡ 0 → ⊥) → (p.phase ≡ 1 → ⊥) → has_stamp p ≡ false → phase_right own p ≡ false
  unfolding phase_right
  later-none e f h = simp (ne_eqb _ _ e, ne_eqb _ _ f, h)

-- a test of each place is one of the first, and of those that follow
every-first : (n : ℕ) (f : ℕ → Bool) → every (suc n) f ≡ f 0 && every n (λ k. f (suc k))
unfolding every
every-first zero f = refl
every-first (suc n) f = ap (λ b. f (suc n) && b) (every-first n f) ∙ swap (f (suc n)) (f 0) (every n (λ k. f (suc k)))
  where
    swap : (a b c : Bool) → a && (b && c) ≡ b && (a && c)
    swap true b c = refl
    swap false b c = sym (and-false b)

-- times that equal so many zeros are 0 at each place
zeros : (ts : List Time) (n : ℕ) → length ts ≡ n
    → pointwise (λ a b. eqb a.0 b.0) ts (replicate n no_time) ≡ every n (λ k. eqb (get_or ts k no_time).0 0)
unfolding every
zeros [] zero e = refl
zeros [] (suc n) e = absurd (omega arith)
zeros (t ∷ ts) zero e = absurd (omega arith)
zeros (t ∷ ts) (suc n) e =
    ap (λ b. eqb t.0 0 && b) (zeros ts n (omega arith)) ∙ sym (every-first n (λ k. eqb (get_or (t ∷ ts) k no_time).0 0))

-- a place is unused exactly when it equals a payment with nothing in it
pub unused-equal : (p : Payment) → length p.times ≡ 8
    → eqb p.number.0 0
    && (eqb p.destinations 0 && (eqb p.heard 0 && (pointwise (λ a b. eqb a.0 b.0) p.times (replicate 8 no_time) && is_waiting p)))
    ≡ unused p
unfolding unused time_in
unused-equal p size =
    ap (λ b. eqb p.number.0 0 && (eqb p.destinations 0 && (eqb p.heard 0 && b)))
    (and_comm _ (is_waiting p)
    ∙ ap (λ b. is_waiting p && b) (zeros p.times 8 size
    ∙ every-same 8 _ _ (λ k h. sym (ap (λ b. eqb (cond b (get_or p.times k no_time) no_time).0 0) (lt-ltb k 8 h)))))

-- where nothing is heard, all times are 0 exactly when each is right
pub unused-right : (p : Payment)
    → unused p ≡ eqb p.number.0 0 && (eqb p.destinations 0 && (eqb p.heard 0 && (is_waiting p && heard_right p)))
unfolding unused heard_right
unused-right p =
    ap (λ b. eqb p.number.0 0 && (eqb p.destinations 0 && b))
    (split (eqb p.heard 0)
    (λ t. ap (λ b. eqb p.heard 0 && (is_waiting p && b))
    (every-same most_ledgers _ _ (λ k l. sym (right-unheard p (suc k) (ap (λ b. has b (suc k)) (eqb-true _ _ t) ∙ has-empty (suc k))))))
    (λ t. and-stop _ t ∙ sym (and-stop _ t)))

-- a stamped or posted payment has heard every destination
pub stamp-all : (own : ℕ) (p : Payment) → has_stamp p ≡ true → phase_right own p ≡ true → p.heard ≡ p.destinations
stamp-all own p s r = eqb-true _ _ (sym (later-stamp own p (not-below 0 (omega arith)) (not-below 1 (omega arith)) s) ∙ r)
  where
    not-below : (k : ℕ) → k < 2 → p.phase ≡ k → ⊥
    not-below k h z =
        ⊎_elim
        (λ t. let q : p.phase ≡ 2 = eqb-true _ _ t in omega (arith, q, z))
        (λ t. let q : p.phase ≡ 3 = eqb-true _ _ t in omega (arith, q, z))
        (or_cases (is_stamped p) (is_posted p) s)

-- heard ones are destinations
pub heard-destination : (p : Payment) → heard_right p ≡ true → (k : ℕ) → k < 8 → heard_from p (suc k) ≡ true
    → has p.destinations (suc k) ≡ true
unfolding heard_right
heard-destination p r k h e =
    split (has p.destinations (suc k)) (λ t. t)
    (λ t. both (every-at 8 (λ k. time_right p (suc k)) r k h) (right-elsewhere p (suc k) e t))

-- a payment whose destinations are all heard has a stamp
pub all-stamped : (own : ℕ) (p : Payment) → phase_right own p ≡ true → heard_from p own ≡ true → p.heard ≡ p.destinations
    → has_stamp p ≡ true
all-stamped own p r h e =
    split (is_waiting p)
    (λ t. both r (waiting-own own p (eqb-true _ _ t) h))
    (λ t. split (is_proposed p)
    (λ u. both r (proposed-own own p (eqb-true _ _ u) h ∙ ap not (eq-eqb _ _ e)))
    (λ u. split (has_stamp p) (λ s. s) (λ s. both r (later-none own p (eqb-false _ _ t) (eqb-false _ _ u) s))))

-- a payment past waiting has its own time
pub past-waiting : (own : ℕ) (p : Payment) → phase_right own p ≡ true → is_waiting p ≡ false → has p.destinations own ≡ true
    → heard_from p own ≡ true
unfolding phase_right
past-waiting own p r w d =
    let later = subst (λ b. cond b (not (heard_from p own) && not (eqb p.heard 0))
    (cond (is_proposed p) (heard_from p own && not (all_heard p)) (has_stamp p && all_heard p)) ≡ true) w r in
    split (is_proposed p)
    (λ t. and_left (heard_from p own) _ (subst (λ b. cond b (heard_from p own && not (all_heard p))
    (has_stamp p && all_heard p) ≡ true) t later))
    (λ t. ap (λ b. has b own) (eqb-true _ _ (and_right (has_stamp p) _
    (subst (λ b. cond b (heard_from p own && not (all_heard p)) (has_stamp p && all_heard p) ≡ true) t later))) ∙ d)

pub unused-heard : (p : Payment) → unused p ≡ true → (q : ℕ) → heard_from p q ≡ false
unfolding unused
unused-heard p e q =
    ap (λ b. heard_from (record { number = p.number; destinations = p.destinations; heard = b; times = p.times; phase = p.phase }) q)
    (eqb-true _ _ (and_left (eqb p.heard 0) _ (and_right (eqb p.destinations 0) _ (and_right (eqb p.number.0 0) _ e))))
    ∙ has-empty q

-- both payments have the same time of a ledger as a proposal
abbrev pub shared : Payment → Payment → ℕ → Bool
shared p q k = heard_from p k && has_proposal q k (time_from p k)

other-ledger : (p q : Payment) (l : ℕ)
    → not (heard_from p (suc l) && keeps q (suc l) (time_from p (suc l))) && not (stamp_is_of p (suc l) && keeps q (suc l) (stamp_of p).time.0)
    ≡ not (shared p q (suc l))
other-ledger p q l =
    split (stamp_is_of p (suc l))
    (λ s. let r = stamp-proposed p l s in
    ap₂ (λ a b. not a && not b) first
    (ap₂ ◌&&◌ (s ∙ sym r.0) (ap (keeps q (suc l)) (sym r.1)) ∙ first)
    ∙ twice (not (shared p q (suc l))))
    (λ s. ap₂ (λ a b. not a && not b) first (ap (λ b. b && keeps q (suc l) (stamp_of p).time.0) s) ∙ and-true _)
  where
    first : heard_from p (suc l) && keeps q (suc l) (time_from p (suc l)) ≡ shared p q (suc l)
    first = ap (λ b. heard_from p (suc l) && b) (keeps-proposes q (suc l) (time_from p (suc l)))

    twice : (b : Bool) → b && b ≡ b
    twice true = refl
    twice false = refl

-- two payments keep no time of one ledger together exactly when none was proposed to both
pub differ-shared : (p q : Payment) → times_differ p q ≡ every most_ledgers (λ k. not (shared p q (suc k)))
unfolding times_differ
differ-shared p q = every-same most_ledgers _ _ (λ k h. other-ledger p q k)
