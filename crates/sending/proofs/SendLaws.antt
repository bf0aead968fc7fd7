-- Laws of what a ledger sends: one for each way through the definitions; and it goes by a frame's kind, payment and destinations alone.
-- Assumes nothing.
use Rattle.std.specs.Prelude.{ℕ, ◌≡◌, List, cond}
use mathlib.Core.Path.{refl, ap}
use borrow.Author.Tests.{eq-eqb, ne_eqb}
use Rattle.frame.specs.Frames.{writing}
use Rattle.ledgers.specs.Ledgers.{without}
use Rattle.common.proofs.TestLaws.{split}
use Rattle.frame.specs.declared.Frame.{Frame}
use Rattle.frame.specs.declared.Frame.TheVariants.{Multicast, Propose}
use Rattle.frame.specs.declared.LedgerNo.{LedgerNo}
use Rattle.frame.specs.declared.Time.{Time}
use Rattle.refusals.specs.Refusals.{is_propose, received}
use Rattle.refusals.specs.declared.Incoming.{Incoming}
use Rattle.sending.specs.Sending.{recipients, written}

module _ (own : LedgerNo) (f : Incoming) where
  pub recipients-none : f.kind ≡ 2 → recipients own.0 f ≡ 0
  recipients-none e = ap (λ b. cond b 0 (without f.destinations own.0)) (eq-eqb _ _ e)

  pub recipients-others : (f.kind ≡ 2 → ⊥) → recipients own.0 f ≡ without f.destinations own.0
  recipients-others n = ap (λ b. cond b 0 (without f.destinations own.0)) (ne_eqb _ _ n)

  module _ (time : Time) (outgoing : List ℕ) where
    pub written_none : recipients own.0 f ≡ 0 → written own time f outgoing ≡ outgoing
    written_none e =
        ap (λ b. cond b outgoing (writing (Propose f.payment f.destinations own time) outgoing).buffer) (eq-eqb _ _ e)

    pub written-some : (recipients own.0 f ≡ 0 → ⊥)
        → written own time f outgoing ≡ (writing (Propose f.payment f.destinations own time) outgoing).buffer
    written-some n =
        ap (λ b. cond b outgoing (writing (Propose f.payment f.destinations own time) outgoing).buffer) (ne_eqb _ _ n)

-- the frame that values of any kind are answered as: a PROPOSE, or else a MULTICAST
pub as_frame : Incoming → Frame
as_frame f = cond (is_propose f) (Propose f.payment f.destinations f.source f.time) (Multicast f.payment f.destinations)

pub any-values : (own : LedgerNo) (time : Time) (f : Incoming) (outgoing : List ℕ)
    → (recipients own.0 (received (as_frame f)) ≡ recipients own.0 f)
    × (written own time (received (as_frame f)) outgoing ≡ written own time f outgoing)
unfolding as_frame
any-values own time f outgoing =
    split (is_propose f)
    (λ t. simp t (refl, refl))
    (λ t. simp t (refl, refl))
