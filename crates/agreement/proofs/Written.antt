-- The copies on record: none is lost, and a taken MULTICAST adds the PROPOSE with this ledger's own time.
-- Assumes nothing.
use Prim.Native.Nat.{◌+◌}
use mathlib.Core.Path.{◌≡◌, refl, ap, ◌∙◌}
use mathlib.Core.List.{List, ◌∷◌}
use mathlib.Core.Bool.{Bool, true, false, cond, true≢false}
use mathlib.Core.Logic.{inl, inr, ⊎_elim}
use lib.Dec.{eqb}
use lib.ListN.{drop, take}
use borrow.Author.Tests.{eqb-false, eqb-true, ne_eqb}
use lib.Seq.{take_at}
use Rattle.common.proofs.TestLaws.{split}
use Rattle.frame.specs.Frames.{Values, body, frame_bytes, propose, total, values_of, writing_of}
use Rattle.frame.specs.Digits.{sum}
use Rattle.frame.specs.declared.Frame.TheVariants.{Propose}
use Rattle.frame.proofs.FrameLaws.{length-frame_bytes, writing-fits}
use Rattle.ledgers.specs.Ledgers.{without}
use Rattle.ledger.specs.Step.{new_own_time, recipients_of, sent, step, taken}
use Rattle.ledger.specs.declared.Ledger.{Ledger}
use Rattle.soundness.proofs.Steps.{Taken, is-refused, is-taken}
use Rattle.common.specs.Places.{In}
use Rattle.agreement.specs.Run.{Call, Written, Entry, World, called}
use Rattle.agreement.proofs.Calls.{answer, frame_of}
use Rattle.agreement.proofs.Copies.{copy_of, desk_frame}

-- where a copy is put in front unless b, none of the others is lost
kept-either : (b : Bool) (x y : Written) (ws : List Written) → In x ws → In x (cond b ws (y ∷ ws))
kept-either true x y ws i = i
kept-either false x y ws i = inr i

-- and one that is there was put there, or is one of the others
from-either : {A : Type 0} (b : Bool) (x y : Written) (ws : List Written) → (In x ws → A) → (b ≡ false → x ≡ y → A) → In x (cond b ws (y ∷ ws)) → A
from-either true x y ws old new = old
from-either false x y ws old new = ⊎_elim (new refl) old

-- and where it is put, it is there
put-in : (b : Bool) (y : Written) (ws : List Written) → b ≡ false → In y (cond b ws (y ∷ ws))
put-in true y ws t = absurd (true≢false t)
put-in false y ws t = inl refl

module _ (w : World) (c : Call) where
  abbrev before : Ledger
  before = w.ledgers c.to

  abbrev pub new_copy : Written
  new_copy =
      record {
        frame = take (total propose.kind) (step (w.ledgers c.to) c.frame c.outgoing c.list).outgoing;
        recipients = (step (w.ledgers c.to) c.frame c.outgoing c.list).recipients;
      }

  abbrev pub taken-call : Type 0
  taken-call = Taken (w.ledgers c.to) c.frame c.outgoing c.list

  -- no copy is lost
  pub copies_kept : (x : Written) → In x w.written → In x (called w c).written
  unfolding called
  copies_kept x i = kept-either _ x _ _ i

  -- a copy was there, or the call wrote it
  pub copies-from : (A : Type 0) (x : Written) → (In x w.written → A)
      → (taken-call → (new_copy.recipients ≡ 0 → ⊥) → x ≡ new_copy → A) → In x (called w c).written → A
  unfolding called
  copies-from A x old new = from-either _ x _ _ old (λ t. new (was-taken t) (eqb-false _ _ t))
    where
      was-taken : eqb new_copy.recipients 0 ≡ false → taken-call
      was-taken t =
          split (eqb (answer w c) 0)
          (λ z. is-taken (w.ledgers c.to) c.frame c.outgoing c.list (eqb-true _ _ z))
          (λ z. absurd (eqb-false _ _ t (ap (λ o. o.recipients)
          (is-refused (w.ledgers c.to) c.frame c.outgoing c.list (eqb-false _ _ z)))))

  -- a written copy is in the list
  pub copies-new : taken-call → (new_copy.recipients ≡ 0 → ⊥) → In new_copy (called w c).written
  unfolding called
  copies-new t n = put-in _ _ _ (ne_eqb _ _ n)

  -- what the copy of a taken MULTICAST holds
  pub copy_is : (e : Entry) → taken-call → frame_of c ≡ desk_frame e → (new_copy.recipients ≡ 0 → ⊥) → before.own.0 ≡ c.to
      → new_copy ≡ copy_of e c.to (before.clock.0 + 1)
  unfolding body sum
  copy_is e t q n own =
      ap (λ x. record { frame = take 9 x.outgoing; recipients = x.recipients })
      (t.so ∙ ap (λ f. taken (w.ledgers c.to) f c.outgoing c.list) q)
      ∙ ap (λ b. record { frame = take 9 b; recipients = without e.destinations before.own.0 })
      (written ∙ ap (λ o. o.buffer) (writing-fits v c.outgoing t.outgoing-fits))
      ∙ ap (λ b. record { frame = b; recipients = without e.destinations before.own.0 })
      (take_at (frame_bytes v) (drop 9 c.outgoing) 9 (length-frame_bytes v refl))
      ∙ ap (λ k. copy_of e k (before.clock.0 + 1)) own
    where
      v : Values
      v = values_of (Propose (record { 0 = e.number }) e.destinations before.own (new_own_time before))

      written : sent before (desk_frame e) c.outgoing ≡ (writing_of v c.outgoing).buffer
      written = ap (λ b. cond b c.outgoing (writing_of v c.outgoing).buffer)
          (ne_eqb _ _ (λ z. n (ap (λ o. o.recipients) t.so ∙ ap (recipients_of before) q ∙ z)))
