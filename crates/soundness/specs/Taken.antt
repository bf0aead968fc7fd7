-- What is said of a step that is taken, beside its promise.
-- Assumes nothing.
use Rattle.std.specs.Prelude.{ℕ, ◌<◌, ◌≤◌, ◌≡◌, List, ◌++◌, true, false, drop, length}
use Rattle.common.specs.Order.{Rising}
use Rattle.common.specs.Places.{All, In}
use Rattle.ledgers.specs.Ledgers.{most_ledgers}
use Rattle.payment.specs.Payments.{has_stamp, heard_from, is_posted, is_proposed, proposal, stamp_of}
use Rattle.payment.specs.Stamps.{below}
use Rattle.payment.specs.declared.Payment.{Payment}
use Rattle.held.specs.Held.{at, limit}
use Rattle.posting.specs.Posting.{after_posting, before, is_free, none_free, numbers, to_post}
use Rattle.ledger.specs.Sound.{sound}
use Rattle.ledger.specs.Step.{Outcome, step}
use Rattle.ledger.specs.declared.Ledger.{Ledger}
use Rattle.soundness.specs.Shaped.{Shaped}

-- [R41 to R44] what rule 4 says of a step that is taken; `after` is the ledger when the payment has been heard, and stamped if all were
pub record Posts (after : Ledger) (list : List ℕ) (o : Outcome) : Type 0 where
  -- [R44, R4] their numbers stand at the front of the list, and the rest of it is as it was
  pub list-is : o.list ≡ numbers after.payments after.own.0 ++ drop o.postings list
  -- as many as are free
  pub count-is : o.postings ≡ length (to_post after.payments after.own.0)
  -- [R43] exactly the payments that were free
  pub only-free : All (λ i. (i < limit) × (is_free after.payments after.own.0 i ≡ true)) (to_post after.payments after.own.0)
  pub all-free : (i : ℕ) → i < limit → is_free after.payments after.own.0 i ≡ true → In i (to_post after.payments after.own.0)
  -- strictly rising by stamp, and so each once
  pub rising : Rising (before after.payments) (to_post after.payments after.own.0)
  -- they are posted, and every other payment is as it was
  pub payments-are : o.state.payments ≡ after_posting after.payments after.own.0
  -- [S9] afterwards no stamped payment is free
  pub none_left : none_free o.state.payments o.state.own.0 ≡ true

-- [R42] what holds the payment at place i back: one that is still proposed here, with an own proposal below that payment's stamp
pub record HeldBackBy (l : Ledger) (i : ℕ) : Type 0 where
  pub holder : ℕ
  pub within : holder < limit
  pub is-proposed : is_proposed (at l.payments holder) ≡ true
  pub is_below : below (proposal (at l.payments holder).times l.own.0) (stamp_of (at l.payments i)) ≡ true

-- [R43, S9, S11] a payment that has its stamp is unposted exactly if another holds it back
abbrev pub UnpostedExactlyIfHeldBack : Ledger → Type 0
UnpostedExactlyIfHeldBack l =
    (i : ℕ) → i < limit → has_stamp (at l.payments i) ≡ true
    → (is_posted (at l.payments i) ≡ false → HeldBackBy l i) × (HeldBackBy l i → is_posted (at l.payments i) ≡ false)

-- [R31] the stamp of a payment is the proposal of a ledger that was heard, and no proposal that was heard is above it
pub record IsGreatest (p : Payment) : Type 0 where
  pub ledger : ℕ
  pub heard : heard_from p ledger ≡ true
  pub is : stamp_of p ≡ proposal p.times ledger
  pub none_above : (k : ℕ) → 1 ≤ k → k ≤ most_ledgers → heard_from p k ≡ true → below (stamp_of p) (proposal p.times k) ≡ false

-- [S12] a sound state stays sound, whatever the frame and the buffers
abbrev pub KeepsSound : Type 0
KeepsSound = (l : Ledger) (frame outgoing list : List ℕ) → Shaped l → sound l ≡ true → sound (step l frame outgoing list).state ≡ true
