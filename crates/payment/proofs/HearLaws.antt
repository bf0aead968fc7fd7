-- What hearing one ledger's time changes, and what it leaves.
-- Assumes nothing.
use Prim.Native.Nat.{ℕ, zero, suc, ◌<◌, ◌≤◌}
use mathlib.Core.Path.{◌≡◌, refl, ap, sym, ◌∙◌, subst}
use mathlib.Core.List.{List}
use mathlib.Core.Bool.{true, cond, ◌||◌}
use native.Mathlib.Omega.{arith}
use lib.Dec.{eqb, ltb}
use lib.ListN.{get_or, length, length-set, set}
use lib.Seq.{get_or-set_other, get_or-set_same}
use borrow.Author.Tests.{eq-eqb, eqb-false, eqb-true, lt-ltb, ne_eqb}
use native.Mathlib.Nat.{not-suc-le-zero}
use Rattle.common.proofs.TestLaws.{split}
use Rattle.frame.specs.declared.Time.{Time}
use Rattle.ledgers.specs.Ledgers.{has, with}
use Rattle.ledgers.proofs.LedgerLaws.{with-fits, with-has}
use Rattle.payment.specs.Payments.{hear, heard_from, no_time, time_from, time_in}
use Rattle.payment.specs.declared.Payment.{Payment}

-- the kept times with one time more
pub set-time : (times : List Time) (l k : ℕ) (t : Time) → length times ≡ 8 → l < 8 → k < 8
    → time_in (set times l t) (suc k) ≡ cond (eqb k l) t (time_in times (suc k))
unfolding time_in
set-time times l k t size hl hk =
    split (eqb k l)
    (λ e. let q = eqb-true k l e in
    simp (e, lt-ltb k 8 hk) (ap (λ j. get_or (set times l t) j no_time) q ∙ get_or-set_same times l t no_time (omega arith)))
    (λ e. simp (e, lt-ltb k 8 hk) (get_or-set_other times l k t no_time (eqb-false k l e)))

-- q is p with ledger w's time t kept; the phase is not spoken of
pub record Hears (p q : Payment) (w t : ℕ) : Type 0 where
  pub number : q.number ≡ p.number
  pub destinations : q.destinations ≡ p.destinations
  pub heard : heard_from q w ≡ true
  pub time : time_from q w ≡ t
  pub heard-other : (k : ℕ) → k < 8 → (suc k ≡ w → ⊥) → heard_from q (suc k) ≡ heard_from p (suc k)
  pub time-other : (k : ℕ) → k < 8 → (suc k ≡ w → ⊥) → time_from q (suc k) ≡ time_from p (suc k)
  pub byte : q.heard < 256
  pub size : length q.times ≡ 8

hear-place : (p : Payment) (l : ℕ) (t : Time) → l < 8
    → hear p (suc l) t
    ≡ record {
      number = p.number;
      destinations = p.destinations;
      heard = with p.heard (suc l);
      times = set p.times l t;
      phase = p.phase;
    }
unfolding hear
hear-place p l t h = simp (lt-ltb l 8 h)

hears-place : (p : Payment) (l : ℕ) (t : Time) → l < 8 → p.heard < 256 → length p.times ≡ 8 → Hears p (hear p (suc l) t) (suc l) t.0
hears-place p l t h byte size =
    subst (λ q. Hears p q (suc l) t.0) (sym (hear-place p l t h)) record {
      number = refl;
      destinations = refl;
      heard = with-has p.heard l l byte h h ∙ ap (λ b. b || has p.heard (suc l)) (eq-eqb l l refl);
      time = ap (λ x. x.0) (set-time p.times l l t size h h ∙ ap (λ b. cond b t (time_in p.times (suc l))) (eq-eqb l l refl));
      heard-other = λ k hk n. with-has p.heard l k byte h hk ∙ ap (λ b. b || has p.heard (suc k)) (ne_eqb k l (λ e. n (ap suc e)));
      time-other = λ k hk n. ap (λ x. x.0) (set-time p.times l k t size h hk
          ∙ ap (λ b. cond b t (time_in p.times (suc k))) (ne_eqb k l (λ e. n (ap suc e))));
      byte = with-fits p.heard l byte h;
      size = length-set p.times l t ∙ size;
    }

pub hears : (p : Payment) (w : ℕ) (t : Time) → 1 ≤ w → w ≤ 8 → p.heard < 256 → length p.times ≡ 8 → Hears p (hear p w t) w t.0
hears p zero t h g byte size = absurd (not-suc-le-zero h)
hears p (suc l) t h g byte size = hears-place p l t (omega arith) byte size

pub hear-phase : (p : Payment) (w : ℕ) (t : Time) → (hear p w t).phase ≡ p.phase
unfolding hear
hear-phase p zero t = refl
hear-phase p (suc l) t = split (ltb l 8) (λ e. simp e) (λ e. simp e)
