-- The payment after rules 1 to 3: what its record says, and that it fits into the ledger.
-- Assumes nothing.
use Prim.Native.Nat.{ℕ, suc, ◌≤◌}
use mathlib.Core.Path.{◌≡◌, ap, ap₂, sym, ◌∙◌, subst}
use mathlib.Core.Bool.{true, cond, ◌&&◌}
use mathlib.Core.Logic.{⊎_elim}
use native.Mathlib.Omega.{arith}
use lib.Dec.{eqb, leb}
use borrow.Author.Tests.{eqb-false, eqb-true, leb-true}
use Rattle.common.proofs.PlaceLaws.{every-all, every-at}
use Rattle.common.proofs.TestLaws.{and_both, and_right, both, split}
use Rattle.ledgers.specs.Ledgers.{has}
use Rattle.payment.specs.Payments.{heard_from, is_time, last_time, proposal, stamp_of, time_from}
use Rattle.right.specs.Right.{heard_right, time_right}
use Rattle.payment.specs.Stamps.{below}
use Rattle.payment.specs.declared.Payment.{Payment}
use Rattle.payment.specs.declared.Stamp.{Stamp}
use Rattle.payment.proofs.GreatestLaws.{greatest-time, stamp-highest}
use Rattle.payment.proofs.HearLaws.{Hears}
use Rattle.payment.proofs.StampLaws.{below-between}
use Rattle.soundness.proofs.Apart.{Apart}

-- hearing keeps what is right about the times
pub heard-right : (p q : Payment) (w t : ℕ) → Hears p q w t → has p.destinations w ≡ true → is_time t ≡ true → heard_right p ≡ true
    → heard_right q ≡ true
unfolding heard_right
heard-right p q w t v d h e =
    every-all 8 (λ k. time_right q (suc k))
    (λ k l. split (eqb (suc k) w)
    (λ a. let same = eqb-true (suc k) w a in
    subst (λ n. time_right q n ≡ true) (sym same)
    (ap (λ b. cond b (has q.destinations w && is_time (time_from q w)) (eqb (time_from q w) 0)) v.heard
    ∙ and_both (ap (λ x. has x w) v.destinations ∙ d) (ap is_time v.time ∙ h)))
    (λ a. let other = eqb-false (suc k) w a in
    ap₂ (λ b d. cond b (has d (suc k) && is_time (time_from q (suc k))) (eqb (time_from q (suc k)) 0)) (v.heard-other k l other)
    v.destinations
    ∙ ap (λ x. cond (heard_from p (suc k)) (has p.destinations (suc k) && is_time x) (eqb x 0)) (v.time-other k l other)
    ∙ every-at 8 (λ k. time_right p (suc k)) e k l))

-- hearing a time that no other payment keeps leaves the times apart
pub heard-apart : (p q r : Payment) (w t : ℕ) → Hears p q w t → (heard_from r w ≡ true → time_from r w ≡ t → ⊥) → Apart p r → Apart q r
heard-apart p q r w t v fresh f k h a b e =
    split (eqb (suc k) w)
    (λ c. let same = eqb-true (suc k) w c in
    fresh (subst (λ n. heard_from r n ≡ true) same b)
    (subst (λ n. time_from r n ≡ t) same (sym e ∙ subst (λ n. time_from q n ≡ t) (sym same) v.time)))
    (λ c. let other = eqb-false (suc k) w c in
    f k h (sym (v.heard-other k h other) ∙ a) b (sym (v.time-other k h other) ∙ e))

-- the stamp's time is a lawful one, where the times are right
pub stamp-time : (p : Payment) → heard_right p ≡ true → (stamp_of p).time.0 ≤ last_time
unfolding heard_right
stamp-time p e =
    greatest-time p.times p.heard (λ t. t ≤ last_time) (omega arith) 8
    (λ k h a. let right = every-at 8 (λ k. time_right p (suc k)) e k h in
    let held = sym (ap (λ b. cond b (has p.destinations (suc k) && is_time (time_from p (suc k))) (eqb (time_from p (suc k)) 0)) a)
    ∙ right in
    leb-true _ _ (and_right (leb 1 (time_from p (suc k))) _ (and_right (has p.destinations (suc k)) _ held)))

-- a stamp below a proposal that was heard is below the payment's stamp
pub below-stamp : (s : Stamp) (p : Payment) (k : ℕ) → 1 ≤ k → k ≤ 8 → heard_from p k ≡ true → below s (proposal p.times k) ≡ true
    → below s (stamp_of p) ≡ true
below-stamp s p k h g a b =
    ⊎_elim (λ x. x) (λ x. both x (stamp-highest p k h g a)) (below-between s (stamp_of p) (proposal p.times k) b)
