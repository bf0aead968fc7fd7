-- Two payments keep no time of one ledger together: what that says of each ledger.
-- Assumes nothing.
use Prim.Native.Nat.{ℕ, suc, ◌<◌}
use mathlib.Core.Path.{◌≡◌, ap, sym, ◌∙◌}
use mathlib.Core.Bool.{true, not, ◌&&◌}
use borrow.Author.Tests.{eq-eqb, eqb-true}
use Rattle.common.proofs.PlaceLaws.{every-all, every-at}
use Rattle.common.proofs.TestLaws.{and_both, and_left, and_right, both, split}
use Rattle.payment.specs.Payments.{heard_from, has_proposal, proposal, stamp_of, time_from}
use Rattle.right.specs.Right.{times_differ}
use Rattle.payment.specs.declared.Payment.{Payment}
use Rattle.payment.proofs.KeptLaws.{greatest-proposed}
use Rattle.right.proofs.RightLaws.{differ-shared}

-- no ledger was heard for both with the same time
abbrev pub Apart : Payment → Payment → Type 0
Apart p q = (k : ℕ) → k < 8 → heard_from p (suc k) ≡ true → heard_from q (suc k) ≡ true → time_from p (suc k) ≡ time_from q (suc k) → ⊥

pub apart-at : (p q : Payment) → times_differ p q ≡ true → Apart p q
apart-at p q e k h a b t =
    let shared = every-at 8 (λ k. not (heard_from p (suc k) && has_proposal q (suc k) (time_from p (suc k))))
    (sym (differ-shared p q) ∙ e) k h in
    both shared (ap not (and_both a (and_both b (eq-eqb _ _ (sym t)))))

pub apart-so : (p q : Payment) → Apart p q → times_differ p q ≡ true
apart-so p q f =
    differ-shared p q
    ∙ every-all 8 (λ k. not (heard_from p (suc k) && has_proposal q (suc k) (time_from p (suc k))))
    (λ k h. split (heard_from p (suc k) && has_proposal q (suc k) (time_from p (suc k)))
    (λ t. let r = and_right (heard_from p (suc k)) _ t in
    absurd (f k h (and_left (heard_from p (suc k)) _ t) (and_left (heard_from q (suc k)) _ r)
    (sym (eqb-true _ _ (and_right (heard_from q (suc k)) _ r)))))
    (λ t. ap not t))

pub apart-sym : (p q : Payment) → Apart p q → Apart q p
apart-sym p q f k h a b t = f k h b a (sym t)

-- so the stamp of one is no proposal of the other
pub apart-stamp : (p q : Payment) → Apart p q → (k : ℕ) → k < 8 → heard_from q (suc k) ≡ true → stamp_of p ≡ proposal q.times (suc k) → ⊥
apart-stamp p q f k h a e =
    let mine = greatest-proposed p.times p.heard 8 k (ap (λ s. s.ledger.0) e) in
    f k h mine.0 a (ap (λ t. t.0) mine.1 ∙ ap (λ s. s.time.0) e)
