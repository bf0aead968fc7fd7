-- A stamp is one of the proposals: what is kept in stamps is kept as a proposal too.
-- Assumes nothing.
use Prim.Native.Nat.{ℕ, zero, suc}
use mathlib.Core.Path.{◌≡◌, refl, ap, sym, ◌∙◌}
use mathlib.Core.List.{List}
use mathlib.Core.Bool.{Bool, true, false, cond, ◌&&◌, ◌||◌}
use native.Mathlib.Omega.{arith}
use lib.Dec.{eqb, leb}
use borrow.Author.Tests.{eq-eqb, eqb-true}
use Rattle.common.proofs.TestLaws.{and_both, and-false, and_left, and_right, or-false, split}
use Rattle.frame.specs.declared.Time.{Time}
use Rattle.ledgers.specs.Ledgers.{has}
use Rattle.payment.specs.Payments.{greatest, has_stamp, heard_from, keeps, proposal, has_proposal, stamp_is_of, stamp_of, time_from, time_in}
use Rattle.payment.specs.Stamps.{below}
use Rattle.payment.specs.declared.Payment.{Payment}
use Rattle.payment.specs.declared.Stamp.{Stamp}

-- ledger l was heard, and s has its time
abbrev Proposed : List Time → ℕ → ℕ → Stamp → Type 0
Proposed times heard l s = (has heard l ≡ true) × (time_in times l ≡ s.time)

-- the greatest proposal is a proposal of the ledger that it names
pub greatest-proposed : (times : List Time) (heard n l : ℕ) → (greatest times heard n).ledger.0 ≡ suc l
    → Proposed times heard (suc l) (greatest times heard n)
unfolding greatest
greatest-proposed times heard zero l e = absurd (omega arith)
greatest-proposed times heard (suc n) l e =
    go (greatest-proposed times heard n l) (has heard (suc n) && below (greatest times heard n) (proposal times (suc n))) refl e
  where
    go : ((greatest times heard n).ledger.0 ≡ suc l → Proposed times heard (suc l) (greatest times heard n))
        → (b : Bool) → has heard (suc n) && below (greatest times heard n) (proposal times (suc n)) ≡ b
        → (cond b (proposal times (suc n)) (greatest times heard n)).ledger.0 ≡ suc l
        → Proposed times heard (suc l) (cond b (proposal times (suc n)) (greatest times heard n))
    go ih true t q = (ap (has heard) (sym q) ∙ and_left (has heard (suc n)) _ t, ap (time_in times) (sym q))
    go ih false t q = ih q

-- a time that stands in a payment's stamp was proposed to it
pub stamp-proposed : (p : Payment) (l : ℕ) → stamp_is_of p (suc l) ≡ true
    → (heard_from p (suc l) ≡ true) × (time_from p (suc l) ≡ (stamp_of p).time.0)
stamp-proposed p l e =
    let q = greatest-proposed p.times p.heard 8 l (eqb-true _ _
    (and_right (leb 1 (suc l)) _ (and_right (has_stamp p) (leb 1 (suc l) && eqb (stamp_of p).ledger.0 (suc l)) e))) in
    (q.0, ap (λ t. t.0) q.1)

-- so it is enough to look at proposals
pub keeps-proposes : (p : Payment) (k t : ℕ) → keeps p k t ≡ has_proposal p k t
unfolding has
keeps-proposes p zero t = ap (λ b. b && eqb (stamp_of p).time.0 t) (and-false (has_stamp p))
keeps-proposes p (suc l) t =
    split (stamp_is_of p (suc l) && eqb (stamp_of p).time.0 t)
    (λ s. let q = stamp-proposed p l (and_left (stamp_is_of p (suc l)) _ s) in
    let kept : has_proposal p (suc l) t ≡ true =
    and_both q.0 (eq-eqb _ _ (q.1 ∙ eqb-true _ _ (and_right (stamp_is_of p (suc l)) (eqb (stamp_of p).time.0 t) s))) in
    ap (λ b. b || (stamp_is_of p (suc l) && eqb (stamp_of p).time.0 t)) kept ∙ sym kept)
    (λ s. ap (λ b. has_proposal p (suc l) t || b) s ∙ or-false (has_proposal p (suc l) t))
