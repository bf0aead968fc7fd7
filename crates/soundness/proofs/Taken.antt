-- What a taken step does, in the words of the rules [R3, R41 to R44]: recipients and copies, postings, and nothing else.
-- Assumes nothing.
use Prim.Native.Nat.{ℕ}
use mathlib.Core.Path.{◌≡◌, refl, ap, sym, ◌∙◌, subst}
use mathlib.Core.List.{List}
use lib.ListN.{length-map}
use Rattle.frame.specs.Frames.{frame_values}
use Rattle.ledgers.specs.Ledgers.{how_many}
use Rattle.held.specs.Held.{at}
use Rattle.posting.specs.Posting.{to_post}
use Rattle.ledger.specs.Table.{answer_to}
use Rattle.refusals.specs.Refusals.{incoming}
use Rattle.ledger.specs.Step.{after_stamping, post_rule, step}
use Rattle.ledger.specs.declared.Ledger.{Ledger}
use Rattle.ledger.proofs.SoundLaws.{clauses}
use Rattle.soundness.specs.Shaped.{Shaped}
use Rattle.soundness.specs.Taken.{Posts, UnpostedExactlyIfHeldBack}
use Rattle.soundness.proofs.Bringing.{own_range}
use Rattle.soundness.proofs.Kept.{heard-almost, taken-sound}
use Rattle.soundness.proofs.Postings.{posting-all, posting-free, posting-rising}
use Rattle.soundness.proofs.Named.{unposted-exactly}
use Rattle.soundness.proofs.Steps.{is-taken, step-sound}

module _ (l : Ledger) (frame outgoing list : List ℕ) (shape : Shaped l) (e : answer_to l frame outgoing list ≡ 0) where
  pub step-posts : Posts (after_stamping l (incoming (frame_values frame))) list (step l frame outgoing list)
  unfolding post_rule
  step-posts =
      let k = is-taken l frame outgoing list e in
      let after = after_stamping l (incoming (frame_values frame)) in
      let almost = heard-almost l (incoming (frame_values frame)) k.is-sound shape k.unrefused in
      subst (Posts (after_stamping l (incoming (frame_values frame))) list) (sym k.so) record {
        list-is = refl;
        count-is = length-map (to_post after.payments after.own.0) (λ i. (at after.payments i).number.0);
        only-free = posting-free after.payments after.own.0;
        all-free = posting-all after.payments after.own.0;
        rising = posting-rising (after_stamping l (incoming (frame_values frame))) almost
            (own_range (after_stamping l (incoming (frame_values frame))) almost.range);
        payments-are = refl;
        none_left = (clauses _ (taken-sound l (incoming (frame_values frame)) k.is-sound shape k.unrefused outgoing list)).free;
      }

  -- what has its stamp afterwards is unposted exactly if a payment still proposed here has an own proposal below that stamp
  pub step-holds-back : UnpostedExactlyIfHeldBack (step l frame outgoing list).state
  step-holds-back = unposted-exactly _ (step-sound l frame outgoing list shape (is-taken l frame outgoing list e).is-sound)

  -- copies are as many as there are recipients
  pub step-copies : (step l frame outgoing list).copies ≡ how_many (step l frame outgoing list).recipients
  step-copies = ap (λ o. o.copies) (is-taken l frame outgoing list e).so
      ∙ sym (ap (λ o. how_many o.recipients) (is-taken l frame outgoing list e).so)
