-- The logs in a run: a call that is taken adds what it posts at the end of its ledger's log, and changes no other.
-- Assumes nothing.
use Rattle.common.proofs.PlaceLaws.{by_place}
use Prim.Native.Nat.{ℕ}
use mathlib.Core.Path.{◌≡◌, ap, sym, ◌∙◌, subst}
use mathlib.Core.List.{List, [], ◌++◌, append-nil}
use lib.Dec.{eqb}
use lib.ListN.{drop, length, take, length-map}
use lib.Seq.{take_at}
use borrow.Author.Tests.{eqb-false, eqb-true}
use Rattle.common.proofs.TestLaws.{split}
use Rattle.payment.specs.declared.Stamp.{Stamp}
use Rattle.held.specs.Held.{at}
use Rattle.posting.specs.Posting.{numbers, to_post}
use Rattle.ledger.specs.Step.{after_stamping, step}
use Rattle.ledger.specs.declared.Ledger.{Ledger}
use Rattle.soundness.specs.Shaped.{Shaped}
use Rattle.soundness.proofs.Kept.{posted-ledger, taken-state}
use Rattle.soundness.proofs.Steps.{is-refused, is-taken}
use Rattle.soundness.proofs.Taken.{step-posts}
use Rattle.agreement.specs.Run.{Call, World, called}
use Rattle.agreement.specs.Claims.{HasStamp, Stays}
use Rattle.agreement.proofs.Calls.{answer, at_other, at_self, frame_of, replaced-other, replaced-self}
use Rattle.agreement.proofs.Logs.{Log, log-next}
use Rattle.agreement.proofs.Phases.{stamp-stays}
use Rattle.agreement.proofs.Written.{taken-call}

module _ (w : World) (c : Call) (shape : Shaped (w.ledgers c.to)) where
  abbrev before : Ledger
  before = w.ledgers c.to

  abbrev pub posted_now : List ℕ
  posted_now = numbers (after_stamping before (frame_of c)).payments (after_stamping before (frame_of c)).own.0

  log-self : (called w c).logs c.to ≡ w.logs c.to ++ take (step before c.frame c.outgoing c.list).postings
      (step before c.frame c.outgoing c.list).list
  unfolding called
  log-self = replaced-self w.logs c.to _

  log-other : (j : ℕ) → (j ≡ c.to → ⊥) → (called w c).logs j ≡ w.logs j
  unfolding called
  log-other j n = replaced-other w.logs c.to _ j n

  log-taken : taken-call w c → answer w c ≡ 0 → (called w c).logs c.to ≡ w.logs c.to ++ posted_now
  log-taken t z =
      let p = step-posts before c.frame c.outgoing c.list shape z in
      let many : length posted_now ≡ (step before c.frame c.outgoing c.list).postings
      = length-map (to_post (after_stamping before (frame_of c)).payments (after_stamping before (frame_of c)).own.0)
      (λ i. (at (after_stamping before (frame_of c)).payments i).number.0) ∙ sym p.count-is in
      log-self
      ∙ ap (λ xs. w.logs c.to ++ xs)
      (ap (take (step before c.frame c.outgoing c.list).postings) p.list-is
      ∙ take_at posted_now (drop (step before c.frame c.outgoing c.list).postings c.list) _ many)

  -- a ledger and its log after a call: as they were, or changed by a frame that is taken
  pub by-log : (A : Ledger → List ℕ → Type 0) (j : ℕ) → A (w.ledgers j) (w.logs j)
      → (j ≡ c.to → taken-call w c → A (posted-ledger (after_stamping (w.ledgers c.to) (frame_of c))) (w.logs c.to ++ posted_now))
      → A ((called w c).ledgers j) ((called w c).logs j)
  by-log A j old new =
      by_place j c.to
      (λ e. subst (λ i. A ((called w c).ledgers i) ((called w c).logs i)) (sym e)
      (split (eqb (answer w c) 0)
      (λ t. let z = eqb-true _ _ t in
      let k = is-taken before c.frame c.outgoing c.list z in
      subst (λ l. A l ((called w c).logs c.to)) (sym (at_self w c ∙ ap (λ o. o.state) k.so
      ∙ taken-state before (frame_of c) k.is-sound shape k.unrefused c.outgoing c.list))
      (subst (A (posted-ledger (after_stamping before (frame_of c)))) (sym (log-taken k z)) (new e k)))
      (λ t. let r = is-refused before c.frame c.outgoing c.list (eqb-false _ _ t) in
      subst (λ l. A l ((called w c).logs c.to)) (sym (at_self w c ∙ ap (λ o. o.state) r))
      (subst (A (w.ledgers c.to)) (sym (log-self ∙ ap (λ o. w.logs c.to ++ take o.postings o.list) r
      ∙ append-nil (w.logs c.to)))
      (subst (λ i. A (w.ledgers i) (w.logs i)) e old)))))
      (λ n. subst (λ l. A l ((called w c).logs j)) (sym (at_other w c j n)) (subst (A (w.ledgers j)) (sym (log-other j n)) old))

  -- a log stays a log
  pub log-stays : (j : ℕ) → Log (w.ledgers j) (w.logs j) → Log ((called w c).ledgers j) ((called w c).logs j)
  log-stays j g =
      by-log Log j g
      (λ e k. log-next before (frame_of c) k.is-sound shape k.unrefused (w.logs c.to)
      (subst (λ i. Log (w.ledgers i) (w.logs i)) e g))

  -- stamps stay, and the log only grows at its end
  pub stays-once : (j : ℕ) → Stays j w (called w c)
  stays-once j =
      let r = by-log (λ l log. ((m : ℕ) (s : Stamp) → HasStamp (w.ledgers j) m s → HasStamp l m s) × (added : List ℕ)
      × (log ≡ w.logs j ++ added)) j
      ((λ m s x. x), [], sym (append-nil (w.logs j)))
      (λ e k. (
        (λ m s x. stamp-stays before (frame_of c) k.is-sound shape k.unrefused m s
            (subst (λ i. HasStamp (w.ledgers i) m s) e x)),
        posted_now,
        ap (λ i. w.logs i ++ posted_now) (sym e),
      )) in
      record { stamps = r.0; added = r.1; log = r.2 }
