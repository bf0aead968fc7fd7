-- The greatest proposal is not below any that was heard, and its time is lawful where theirs are.
-- Assumes nothing.
use Prim.Native.Nat.{ℕ, zero, suc, ◌<◌, ◌≤◌}
use mathlib.Core.Path.{◌≡◌, refl, ap, ap₂, sym, ◌∙◌, subst}
use mathlib.Core.List.{append-nil, map-append, List, [], ◌∷◌, ◌++◌}
use mathlib.Core.Bool.{true, false, cond, ◌&&◌}
use native.Mathlib.Nat.{le_of_lt, le_refl, le_trans}
use native.Mathlib.Omega.{arith}
use borrow.Author.Tests.{le-ltb, ltb-false, ltb-true}
use native.Mathlib.Numerals.{add-one}
use Rattle.std.specs.Prelude.{map, filter, ◌+◌}
use Rattle.std.specs.List.{fold}
use Rattle.std.proofs.lemmas.List.FromFn.{filter_of_map_range_with_len_more}
use Rattle.std.proofs.lemmas.List.Sums.{fold_push}
use Rattle.frame.specs.declared.LedgerNo.{LedgerNo}
use Rattle.common.proofs.PlaceLaws.{last-or-before}
use Rattle.common.proofs.TestLaws.{and-go, and_left, and_right, split}
use Rattle.frame.specs.declared.Time.{Time}
use Rattle.ledgers.proofs.AllLedgers.{ledgers_to, numbered}
use Rattle.ledgers.specs.Ledgers.{has}
use Rattle.payment.specs.Payments.{greatest, heard_from, no_stamp, proposal, stamp_of, time_in}
use Rattle.payment.specs.Stamps.{below}
use Rattle.payment.specs.declared.Payment.{Payment}
use Rattle.payment.specs.declared.Stamp.{Stamp}
use Rattle.payment.proofs.StampLaws.{below-rank, higher, rank}

module _ (times : List Time) (heard : ℕ) where
  -- by whether the next ledger's proposal is the greatest now
  next : (A : Stamp → Type 0) (n : ℕ)
      → (has heard (suc n) && below (greatest times heard n) (proposal times (suc n)) ≡ true → A (proposal times (suc n)))
      → (has heard (suc n) && below (greatest times heard n) (proposal times (suc n)) ≡ false → A (greatest times heard n))
      → A (greatest times heard (suc n))
  unfolding greatest
  next A n f g =
      split (has heard (suc n) && below (greatest times heard n) (proposal times (suc n)))
      (λ t. subst (λ b. A (cond b (proposal times (suc n)) (greatest times heard n))) (sym t) (f t))
      (λ t. subst (λ b. A (cond b (proposal times (suc n)) (greatest times heard n))) (sym t) (g t))

  pub greatest-ledger : (n : ℕ) → (greatest times heard n).ledger.0 ≤ n
  unfolding greatest
  greatest-ledger zero = omega arith
  greatest-ledger (suc n) = next (λ s. s.ledger.0 ≤ suc n) n (λ t. omega arith) (λ t. let h = greatest-ledger n in omega arith)

  pub greatest-above : (n : ℕ) → n < 256 → (k : ℕ) → k < n → has heard (suc k) ≡ true
      → rank (proposal times (suc k)) ≤ rank (greatest times heard n)
  greatest-above zero hn k h e = absurd (omega arith)
  greatest-above (suc n) hn k h e =
      let best = greatest-ledger n in
      let order = below-rank (greatest times heard n) (proposal times (suc n)) (omega arith) (omega arith) in
      next (λ s. rank (proposal times (suc k)) ≤ rank s) n
      (λ t. let less : rank (greatest times heard n) < rank (proposal times (suc n)) = ltb-true _ _
      (sym order ∙ and_right (has heard (suc n)) _ t) in
      last-or-before n k h
      (λ q. subst (λ m. rank (proposal times (suc m)) ≤ rank (proposal times (suc n))) (sym q) (le_refl _))
      (λ l. let before : rank (proposal times (suc k)) ≤ rank (greatest times heard n) = greatest-above n (omega arith) k l e in
      le_trans before (le_of_lt less)))
      (λ t. last-or-before n k h
      (λ q. let heard-it = subst (λ m. has heard (suc m) ≡ true) q e in
      let not-less = ltb-false _ _ (sym order ∙ sym (and-go (below (greatest times heard n) (proposal times (suc n))) heard-it) ∙ t) in
      subst (λ m. rank (proposal times (suc m)) ≤ rank (greatest times heard n)) (sym q) not-less)
      (λ l. greatest-above n (omega arith) k l e))

  -- whatever holds of time 0 and of each heard time holds of the greatest proposal's
  pub greatest-time : (A : ℕ → Type 0) → A 0 → (n : ℕ) → ((k : ℕ) → k < n → has heard (suc k) ≡ true → A (time_in times (suc k)).0)
      → A (greatest times heard n).time.0
  unfolding greatest
  greatest-time A z zero f = z
  greatest-time A z (suc n) f =
      next (λ s. A s.time.0) n
      (λ t. f n (omega arith) (and_left (has heard (suc n)) _ t))
      (λ t. greatest-time A z n (λ k h e. f k (omega arith) e))

  -- only where nothing was heard does it name no ledger
  pub greatest-none : (n : ℕ) → (greatest times heard n).ledger.0 ≡ 0 → rank (greatest times heard n) ≡ 0
  unfolding greatest
  greatest-none zero = λ e. refl
  greatest-none (suc n) =
      next (λ s. s.ledger.0 ≡ 0 → rank s ≡ 0) n (λ t e. absurd (omega arith)) (λ t e. greatest-none n e)

-- a payment's stamp is not below a proposal that was heard
pub stamp-highest : (p : Payment) (k : ℕ) → 1 ≤ k → k ≤ 8 → heard_from p k ≡ true → below (stamp_of p) (proposal p.times k) ≡ false
stamp-highest p zero h₁ h₈ e = absurd (omega arith)
stamp-highest p (suc k) h₁ h₈ e =
    let few : (stamp_of p).ledger.0 ≤ 8 = greatest-ledger p.times p.heard 8 in
    below-rank (stamp_of p) (proposal p.times (suc k)) (omega arith) (omega arith)
    ∙ le-ltb _ _ (greatest-above p.times p.heard 8 (omega arith) k (omega arith) e)

-- the greatest proposal goes by the heard ledgers' times alone
pub greatest-same : (ts us : List Time) (heard n : ℕ) → ((k : ℕ) → k < n → has heard (suc k) ≡ true → time_in ts (suc k) ≡ time_in us (suc k))
    → greatest ts heard n ≡ greatest us heard n
unfolding greatest
greatest-same ts us heard zero h = refl
greatest-same ts us heard (suc n) h =
    let rest = greatest-same ts us heard n (λ k l. h k (omega arith)) in
    split (has heard (suc n))
    (λ t. ap₂ (λ best p. cond (has heard (suc n) && below best p) p best) rest
    (ap (λ x. record { time = x; ledger = record { 0 = suc n } }) (h n (omega arith) t)))
    (λ t. ap (λ b. cond (b && below (greatest ts heard n) (proposal ts (suc n))) (proposal ts (suc n)) (greatest ts heard n)) t
    ∙ rest
    ∙ sym (ap (λ b. cond (b && below (greatest us heard n) (proposal us (suc n))) (proposal us (suc n)) (greatest us heard n)) t))

-- the greatest proposal is found by going through the numbers of the ledgers
pub greatest-listed : (times : List Time) (heard n : ℕ)
    → greatest times heard n
    ≡ fold higher no_stamp (map (λ l. proposal times l.0) (filter (λ l. has heard l.0) (ledgers_to n)))
unfolding greatest
greatest-listed times heard zero = refl
greatest-listed times heard (suc n) =
    let ls = filter (λ (l : LedgerNo). has heard l.0) (ledgers_to n) in
    let next : 1 + n ≡ suc n = omega arith in
    let more = ap (λ k. filter (λ (l : LedgerNo). has heard l.0) (ledgers_to k)) (sym (add-one n))
    ∙ filter_of_map_range_with_len_more (λ l. has heard l.0) numbered 1 n (suc n) next in
    let so_far = greatest-listed times heard n in
    ap (λ best. cond (has heard (suc n) && below best (proposal times (suc n))) (proposal times (suc n)) best) so_far
    ∙ step (fold higher no_stamp (map (λ l. proposal times l.0) ls)) ls refl
    ∙ ap (λ ls. fold higher no_stamp (map (λ l. proposal times l.0) ls)) (sym more)
  where
    one : Stamp → List LedgerNo → Type 0
    one best ls =
        cond (has heard (suc n) && below best (proposal times (suc n))) (proposal times (suc n)) best
        ≡ fold higher no_stamp (map (λ l. proposal times l.0) (ls ++ cond (has heard (suc n)) (numbered (suc n) ∷ []) []))

    step : (best : Stamp) (ls : List LedgerNo) → fold higher no_stamp (map (λ l. proposal times l.0) ls) ≡ best → one best ls
    step best ls e =
        let p = λ (l : LedgerNo). proposal times l.0 in
        split (has heard (suc n))
        (λ t. simp t (sym (ap (fold higher no_stamp) (map-append p ls (numbered (suc n) ∷ []))
        ∙ fold_push higher no_stamp (map p ls) (p (numbered (suc n)))
        ∙ ap (λ b. higher b (p (numbered (suc n)))) e)))
        (λ t. simp t (sym (ap (λ k. fold higher no_stamp (map p k)) (append-nil ls) ∙ e)))
