-- Sentences of the rules that follow from the definitions, each under a name.
-- Assumes nothing.
use Prim.Native.Nat.{ℕ, suc, ◌-◌, ◌≤◌}
use mathlib.Core.Path.{◌≡◌, ap, sym, ◌∙◌}
use mathlib.Core.Bool.{true, false, cond}
use mathlib.Core.Logic.{⊎_elim}
use native.Mathlib.Omega.{arith}
use lib.Dec.{eqb}
use borrow.Author.Tests.{eq-eqb, eqb-true, not-true}
use Rattle.common.specs.Places.{first}
use Rattle.common.proofs.PlaceLaws.{any-not, any_place, first_found}
use Rattle.common.proofs.TestLaws.{both, or_cases, split}
use Rattle.payment.specs.Payments.{heard_from, is_posted, is_stamped, proposal, stamp_of}
use Rattle.payment.specs.declared.Payment.{Payment}
use Rattle.payment.proofs.GreatestLaws.{stamp-highest}
use Rattle.payment.proofs.KeptLaws.{greatest-proposed}
use Rattle.payment.proofs.StampLaws.{below-once}
use Rattle.right.specs.Right.{number_not_zero, unused}
use Rattle.held.specs.Held.{at, limit}
use Rattle.checked.proofs.AfterLaws.{after-proposed}
use Rattle.checked.proofs.ReflectLaws.{each_at, posted-at, unused-at}
use Rattle.posting.proofs.FreeLaws.{back-says, free-none, not-free-held}
use Rattle.refusals.specs.Refusals.{first_given, found, is_held}
use Rattle.refusals.specs.declared.Incoming.{Incoming}
use Rattle.ledger.specs.Sound.{sound}
use Rattle.ledger.specs.Step.{place_for}
use Rattle.ledger.specs.Table.{value_rows}
use Rattle.ledger.specs.declared.Ledger.{Ledger}
use Rattle.ledger.proofs.JudgeLaws.{place-range}
use Rattle.ledger.proofs.SoundLaws.{clauses}
use Rattle.soundness.specs.Taken.{IsGreatest, KeepsSound, UnpostedExactlyIfHeldBack}
use Rattle.soundness.proofs.Postings.{stamp-some}
use Rattle.soundness.proofs.Steps.{step-sound}

-- soundness is kept by every step
pub keeps-sound : KeepsSound
keeps-sound l frame outgoing list = step-sound l frame outgoing list

-- a payment that has heard a ledger is stamped with the greatest of the proposals heard
pub stamp-greatest : (p : Payment) (k : ℕ) → 1 ≤ k → k ≤ 8 → heard_from p k ≡ true → IsGreatest p
stamp-greatest p k h₁ h₈ e =
    let l = (stamp_of p).ledger.0 in
    let some : 1 ≤ l = stamp-some p k h₁ h₈ e in
    let is-suc : l ≡ suc (l - 1) = omega arith in
    let given = greatest-proposed p.times p.heard 8 (l - 1) is-suc in
    record {
      ledger = l;
      heard = ap (heard_from p) is-suc ∙ given.0;
      is = λ i. record { time = (sym given.1 ∙ ap (λ n. (proposal p.times n).time) (sym is-suc)) i; ledger = record { 0 = l } };
      none_above = stamp-highest p;
    }

-- in a sound state a payment that has its stamp is unposted exactly if another holds it back
pub unposted-exactly : (l : Ledger) → sound l ≡ true → UnpostedExactlyIfHeldBack l
unposted-exactly l e i h stamp =
    let s = clauses l e in (
      λ n. ⊎_elim
          (λ two. let (k, g, b) = any_place limit _
          (not-free-held l.payments l.own.0 i (free-none l.payments l.own.0 s.free i h) (eqb-true _ _ two)) in
          let q = back-says l.own.0 (stamp_of (at l.payments i)) (at l.payments k) b in
          record { holder = k; within = g; is-proposed = eq-eqb _ _ q.0; is_below = q.1 })
          (λ three. both three n)
          (or_cases (is_stamped (at l.payments i)) (is_posted (at l.payments i)) stamp),
      λ x. split (is_posted (at l.payments i))
          (λ p. absurd (below-once _ _ x.is_below
          (sym (after-proposed l.own.0 (stamp_of (at l.payments i)) (at l.payments x.holder) (eqb-true _ _ x.is-proposed))
          ∙ posted-at l.payments l.own.0 s.kept.posted i x.holder h x.within p)))
          (λ p. p),
    )

used : (p : Payment) → number_not_zero p ≡ true → unused p ≡ false
unfolding unused
used p e = simp (not-true (eqb p.number.0 0) e)

-- a new payment goes to the first unused place
pub new-place : (l : Ledger) (f : Incoming) → sound l ≡ true → first_given (value_rows l f) ≡ 0 → is_held l.payments f ≡ false
    → place_for l f ≡ first limit (λ i. unused (at l.payments i))
new-place l f s e h =
    let kept = (clauses l s).kept in
    let is : place_for l f ≡ l.count = ap (λ b. cond b (found l.payments f) l.count) h in
    let room = place-range l f s e in
    is ∙ sym (first_found limit (λ i. unused (at l.payments i)) l.count (omega arith)
    (any-not l.count (λ i. unused (at l.payments i))
    (λ i u. used (at l.payments i) (each_at l.payments l.count number_not_zero kept.number i (omega arith) u)))
    (unused-at l.payments l.count kept.unused l.count (omega arith) (omega arith)))
