-- What is posted: exactly the payments that were free, each once, strictly rising by stamp.
-- Assumes nothing.
use Prim.Native.Nat.{ℕ, suc, ◌+◌, ◌*◌, ◌-◌, ◌<◌, ◌≤◌}
use mathlib.Core.Path.{◌≡◌, ap, sym, ◌∙◌, subst}
use mathlib.Core.List.{List}
use mathlib.Core.Bool.{true, false, ◌||◌}
use native.Mathlib.Nat.{lt_trans}
use native.Mathlib.Omega.{arith}
use lib.Dec.{eqb, ltb}
use borrow.Author.Tests.{eq-eqb, eqb-false, eqb-true, lt-ltb, ltb-false, ltb-true, not-true}
use Rattle.common.proofs.TestLaws.{split}
use Rattle.common.specs.Places.{All, In}
use Rattle.ledgers.specs.Ledgers.{has}
use Rattle.payment.specs.Payments.{heard_from, is_posted, stamp_of, time_from}
use Rattle.right.specs.Right.{lawful, phase_right}
use Rattle.payment.specs.Stamps.{below}
use Rattle.payment.specs.declared.Payment.{Payment}
use Rattle.payment.proofs.GreatestLaws.{greatest-above, greatest-ledger, greatest-none}
use Rattle.payment.proofs.KeptLaws.{greatest-proposed}
use Rattle.ledgers.proofs.LedgerLaws.{place}
use Rattle.right.proofs.RightLaws.{later-stamp}
use Rattle.payment.proofs.StampLaws.{below-rank, rank}
use Rattle.held.specs.Held.{at, limit}
use Rattle.posting.specs.Posting.{before, is_free, to_post}
use Rattle.posting.proofs.PostLaws.{free-stamped}
use Rattle.checked.proofs.ReflectLaws.{each_at}
use Rattle.ledger.specs.declared.Ledger.{Ledger}
use Rattle.soundness.proofs.Apart.{Apart}
use Rattle.ledger.proofs.SoundLaws.{Almost}
use Rattle.soundness.proofs.Accepted.{apart-pairs}
use Rattle.soundness.proofs.Replacing.{past-held}
use Rattle.common.specs.Order.{Rising}
use Rattle.common.proofs.RisingLaws.{sorted_all, sorted-has, sorted-rising}
use Rattle.soundness.proofs.Taking.{own-among}

stamp-small : (p : Payment) → (stamp_of p).ledger.0 ≤ 8
stamp-small p = greatest-ledger p.times p.heard 8

-- the order of stamps is that of their ranks
pub below-stamps : (p q : Payment) → below (stamp_of p) (stamp_of q) ≡ ltb (rank (stamp_of p)) (rank (stamp_of q))
below-stamps p q =
    let hp = stamp-small p in
    let hq = stamp-small q in
    below-rank (stamp_of p) (stamp_of q) (omega arith) (omega arith)

pub below-trans : (p q r : Payment) → below (stamp_of p) (stamp_of q) ≡ true → below (stamp_of q) (stamp_of r) ≡ true
    → below (stamp_of p) (stamp_of r) ≡ true
below-trans p q r a b =
    let first : rank (stamp_of p) < rank (stamp_of q) = ltb-true _ _ (sym (below-stamps p q) ∙ a) in
    let second : rank (stamp_of q) < rank (stamp_of r) = ltb-true _ _ (sym (below-stamps q r) ∙ b) in
    below-stamps p r ∙ lt-ltb (rank (stamp_of p)) (rank (stamp_of r)) (lt_trans first second)

-- a payment that this ledger was heard for has a stamp of one of the eight ledgers
pub stamp-some : (p : Payment) (own : ℕ) → 1 ≤ own → own ≤ 8 → heard_from p own ≡ true → 1 ≤ (stamp_of p).ledger.0
stamp-some p own h g e =
    let is : own ≡ suc (own - 1) = place own (λ z. omega arith) in
    let top : time_from p (suc (own - 1)) * 256 + suc (own - 1) ≤ (stamp_of p).time.0 * 256 + (stamp_of p).ledger.0 =
    greatest-above p.times p.heard 8 (omega arith) (own - 1) (omega arith) (subst (λ n. heard_from p n ≡ true) is e) in
    split (eqb (stamp_of p).ledger.0 0)
    (λ t. let none : (stamp_of p).time.0 * 256 + (stamp_of p).ledger.0 ≡ 0 = greatest-none p.times p.heard 8
    (eqb-true _ _ t) in absurd (omega arith))
    (λ t. let some : (stamp_of p).ledger.0 ≡ 0 → ⊥ = eqb-false _ _ t in omega arith)

-- two payments that keep no time of one ledger together have different stamps
pub stamps-differ : (p q : Payment) (own : ℕ) → 1 ≤ own → own ≤ 8 → heard_from p own ≡ true → heard_from q own ≡ true → Apart p q
    → rank (stamp_of p) ≡ rank (stamp_of q) → ⊥
stamps-differ p q own h g a b apart e =
    let hp = stamp-small p in
    let hq = stamp-small q in
    let some = stamp-some p own h g a in
    let ledgers : (stamp_of p).ledger.0 ≡ (stamp_of q).ledger.0 = omega arith in
    let times : (stamp_of p).time.0 ≡ (stamp_of q).time.0 = omega arith in
    let is : (stamp_of p).ledger.0 ≡ suc ((stamp_of p).ledger.0 - 1) = omega arith in
    let k = (stamp_of p).ledger.0 - 1 in
    let mine = greatest-proposed p.times p.heard 8 ((stamp_of p).ledger.0 - 1) is in
    let other = greatest-proposed q.times q.heard 8 ((stamp_of p).ledger.0 - 1) (sym ledgers ∙ is) in
    apart ((stamp_of p).ledger.0 - 1) (omega arith) mine.0 other.0
    (ap (λ t. t.0) mine.1 ∙ times ∙ sym (ap (λ t. t.0) other.1))

module _ (l : Ledger) (s : Almost l) (range : (1 ≤ l.own.0) × (l.own.0 ≤ 8)) where
  -- a stamped payment is held, and this ledger was heard for it
  pub stamped-held : (i : ℕ) → i < limit → (at l.payments i).phase ≡ 2 → i < l.count
  stamped-held i h p = past-held l s i h (λ z. omega (arith, z, p))

  stamped-own : (i : ℕ) → i < limit → (at l.payments i).phase ≡ 2 → heard_from (at l.payments i) l.own.0 ≡ true
  stamped-own i h p =
      let u = stamped-held i h p in
      let all = eqb-true _ _
      (sym (later-stamp l.own.0 (at l.payments i) (λ z. omega (arith, p, z)) (λ z. omega (arith, p, z))
      (ap (λ b. b || is_posted (at l.payments i)) (eq-eqb _ _ p)))
      ∙ each_at l.payments l.count (phase_right l.own.0) s.phase i h u) in
      ap (λ d. has d l.own.0) all
      ∙ own-among l.group l.own.0 (at l.payments i).destinations
      (not-true _ (each_at l.payments l.count (lawful l.group l.own.0) s.destinations i h u))

  -- two stamped payments are in an order
  pub free-ordered : (i j : ℕ) → i < limit → j < limit → is_free l.payments l.own.0 i ≡ true
      → is_free l.payments l.own.0 j ≡ true
      → (i ≡ j → ⊥) → before l.payments i j ≡ false → before l.payments j i ≡ true
  free-ordered i j hi hj fi fj o b =
      let pi = free-stamped l.payments l.own.0 i fi in
      let pj = free-stamped l.payments l.own.0 j fj in
      let up : rank (stamp_of (at l.payments j)) ≤ rank (stamp_of (at l.payments i)) =
      ltb-false _ _ (sym (below-stamps (at l.payments i) (at l.payments j)) ∙ b) in
      let differ : rank (stamp_of (at l.payments i)) ≡ rank (stamp_of (at l.payments j)) → ⊥ =
      stamps-differ (at l.payments i) (at l.payments j) l.own.0 range.0 range.1 (stamped-own i hi pi) (stamped-own j hj pj)
      (apart-pairs l s i j hi hj (stamped-held i hi pi) (stamped-held j hj pj) o) in
      below-stamps (at l.payments j) (at l.payments i)
      ∙ lt-ltb _ _ (less (rank (stamp_of (at l.payments j))) (rank (stamp_of (at l.payments i))) up (λ e. differ (sym e)))
    where
      less : (a b : ℕ) → a ≤ b → (a ≡ b → ⊥) → a < b
      less a b h n = omega arith

  -- strictly rising by stamp
  pub posting-rising : Rising (before l.payments) (to_post l.payments l.own.0)
  posting-rising =
      sorted-rising (before l.payments) (is_free l.payments l.own.0)
      (λ a b c. below-trans (at l.payments a) (at l.payments b) (at l.payments c))
      limit free-ordered

-- exactly the free ones
pub posting-free : (payments : List Payment) (own : ℕ) → All (λ i. (i < limit) × (is_free payments own i ≡ true)) (to_post payments own)
posting-free payments own = sorted_all (before payments) (is_free payments own) _ limit (λ k h e. (h, e))

pub posting-all : (payments : List Payment) (own i : ℕ) → i < limit → is_free payments own i ≡ true → In i (to_post payments own)
posting-all payments own i h e = sorted-has (before payments) (is_free payments own) limit i h e
