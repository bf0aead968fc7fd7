-- What has been handed in is heard: by the call that took it, or long before it where the call was a repeat.
-- Assumes nothing.
use Prim.Native.Nat.{ℕ, ◌+◌, ◌<◌}
use mathlib.Core.Path.{◌≡◌, refl, ap, sym, ◌∙◌, subst}
use mathlib.Core.List.{List}
use mathlib.Core.Bool.{Bool, true, false, cond, not}
use mathlib.Core.Logic.{◌⊎◌, ⊎_elim}
use native.Mathlib.Omega.{arith}
use borrow.Author.Tests.{eqb-true, not-false, not-true}
use Rattle.common.proofs.TestLaws.{and-go, and_left, and_right, both, split}
use Rattle.payment.specs.Payments.{has_proposal, heard_from, is_waiting, time_from}
use Rattle.right.specs.Right.{lawful, phase_right}
use Rattle.payment.specs.declared.Payment.{Payment}
use Rattle.held.specs.Held.{at, limit}
use Rattle.checked.proofs.ReflectLaws.{each_at}
use Rattle.refusals.specs.Refusals.{held_one, is_held, is_propose, repeat}
use Rattle.refusals.specs.declared.Incoming.{Incoming}
use Rattle.ledger.specs.declared.Ledger.{Ledger}
use Rattle.ledger.proofs.SoundLaws.{clauses}
use Rattle.soundness.proofs.Kept.{spoken_time}
use Rattle.soundness.proofs.Steps.{is-refused, is-taken}
use Rattle.ledger.proofs.Exactly.{refusal-exactly}
use Rattle.soundness.proofs.Taking.{own-among}
use Rattle.agreement.specs.Run.{Call, Entry, Lawful, May, World, called}
use Rattle.agreement.specs.Claims.{Holds, OfGroup}
use Rattle.agreement.proofs.Agreed.{Agrees, came}
use Rattle.agreement.proofs.Answers.{number-right, one_way}
use Rattle.agreement.proofs.Calls.{Well, answer, at_self, frame_of, view}
use Rattle.agreement.proofs.Found.{holds_at}
use Rattle.agreement.proofs.Hearing.{Heard, heard-now}
use Rattle.right.proofs.RightLaws.{past-waiting}

-- whose time a frame brings to ledger k: its own for a MULTICAST, the source's for a PROPOSE
abbrev pub spoken_by : ℕ → Incoming → ℕ
spoken_by k f = cond (is_propose f) f.source.0 k

-- ledger k has heard what the frame brings
pub record Got (n k : ℕ) (l : Ledger) (f : Incoming) : Type 0 where
  pub from : OfGroup n (spoken_by k f)
  pub time : ℕ
  pub heard : Heard l f.payment.0 f.destinations (spoken_by k f) time
  pub told : is_propose f ≡ true → time ≡ f.time.0

module _ (n : ℕ) (table : List Entry) (law : Lawful n table) (w : World) (c : Call) (may : May n table w c) (a : Agrees n table w) where
  well : Well n c.to (w.ledgers c.to)
  well = a.well c.to may.ledger.0 may.ledger.1

  abbrev before : Ledger
  before = w.ledgers c.to

  -- it is a ledger of the group
  from-group : OfGroup n (spoken_by c.to (frame_of c))
  from-group =
      ⊎_elim
      (λ o. subst (λ f. OfGroup n (spoken_by c.to f)) (sym o.frame) may.ledger)
      (λ o. subst (λ f. OfGroup n (spoken_by c.to f)) (sym o.frame) o.sent.from)
      (came n table law w c may a)

  got-taken : answer w c ≡ 0 → Got n c.to ((called w c).ledgers c.to) (frame_of c)
  got-taken z =
      let t = is-taken before c.frame c.outgoing c.list z in
      record {
        from = from-group;
        time = spoken_time before (frame_of c);
        heard = subst (λ k. Heard ((called w c).ledgers c.to) (frame_of c).payment.0 (frame_of c).destinations
            (spoken_by k (frame_of c)) (spoken_time before (frame_of c))) well.own
            (heard-now before (frame_of c) t.is-sound well.shape t.unrefused ((called w c).ledgers c.to)
            (view w c t well.shape));
        told = λ e. ap (λ b. cond b (frame_of c).time.0 (before.clock.0 + 1)) e;
      }

  -- a repeat: it was heard before
  got-repeat : repeat before.payments (frame_of c) ≡ true → Got n c.to (w.ledgers c.to) (frame_of c)
  got-repeat e =
      split (is_propose (frame_of c))
      (λ t. let kept : has_proposal (held_one before.payments (frame_of c)) (frame_of c).source.0 (frame_of c).time.0 ≡ true
      = subst (λ b. cond b (has_proposal (held_one before.payments (frame_of c)) (frame_of c).source.0 (frame_of c).time.0)
      (not (is_waiting (held_one before.payments (frame_of c)))) ≡ true) t again in
      got (frame_of c).time.0
      (ap (λ b. heard_from (held_one before.payments (frame_of c)) (cond b (frame_of c).source.0 c.to)) t
      ∙ and_left (heard_from (held_one before.payments (frame_of c)) (frame_of c).source.0) _ kept)
      (ap (λ b. time_from (held_one before.payments (frame_of c)) (cond b (frame_of c).source.0 c.to)) t
      ∙ eqb-true _ _ (and_right (heard_from (held_one before.payments (frame_of c)) (frame_of c).source.0) _ kept))
      (λ u. refl))
      (λ t. let late : not (is_waiting (held_one before.payments (frame_of c))) ≡ true
      = subst (λ b. cond b (has_proposal (held_one before.payments (frame_of c)) (frame_of c).source.0 (frame_of c).time.0)
      (not (is_waiting (held_one before.payments (frame_of c)))) ≡ true) t again in
      got (time_from (held_one before.payments (frame_of c)) (spoken_by c.to (frame_of c)))
      (ap (λ b. heard_from (held_one before.payments (frame_of c)) (cond b (frame_of c).source.0 c.to)) t
      ∙ ap (heard_from (held_one before.payments (frame_of c))) (sym well.own) ∙ own-heard (not-true _ late))
      refl
      (λ u. both u t))
    where
      is-held : is_held (w.ledgers c.to).payments (frame_of c) ≡ true
      is-held = and_left (is_held before.payments (frame_of c)) _ e

      again : cond (is_propose (frame_of c)) (has_proposal (held_one before.payments (frame_of c)) (frame_of c).source.0
          (frame_of c).time.0) (not (is_waiting (held_one before.payments (frame_of c)))) ≡ true
      again = and_right (is_held before.payments (frame_of c)) _ e

      x : Holds (w.ledgers c.to) (frame_of c).payment.0 (λ p. p ≡ held_one before.payments (frame_of c))
      x = holds_at before well.is-sound (frame_of c).payment.0 (number-right n table law w c may a) is-held

      of-held : (g : Payment → Bool) → ((i : ℕ) → i < limit → i < before.count → g (at before.payments i) ≡ true)
          → g (held_one before.payments (frame_of c)) ≡ true
      of-held g h = ap g (sym x.so) ∙ h x.at_place x.within x.used

      own-heard : is_waiting (held_one before.payments (frame_of c)) ≡ false
          → heard_from (held_one before.payments (frame_of c)) before.own.0 ≡ true
      own-heard v =
          past-waiting before.own.0 (held_one before.payments (frame_of c))
          (of-held (phase_right before.own.0) (each_at before.payments before.count (phase_right before.own.0)
          (clauses before well.is-sound).kept.phase)) v
          (own-among before.group before.own.0 (held_one before.payments (frame_of c)).destinations
          (not-true _ (of-held (lawful before.group before.own.0)
          (each_at before.payments before.count (lawful before.group before.own.0)
          (clauses before well.is-sound).kept.destinations))))

      got : (t : ℕ) → heard_from (held_one before.payments (frame_of c)) (spoken_by c.to (frame_of c)) ≡ true
          → time_from (held_one before.payments (frame_of c)) (spoken_by c.to (frame_of c)) ≡ t
          → (is_propose (frame_of c) ≡ true → t ≡ (frame_of c).time.0) → Got n c.to (w.ledgers c.to) (frame_of c)
      got t h q told =
          record {
            from = from-group;
            time = t;
            heard = record {
              at_place = x.at_place;
              within = x.within;
              used = x.used;
              number = x.number;
              so = record {
                destinations = ap (λ p. p.destinations) x.so
                    ∙ eqb-true _ _ (not-false _ (sym (and-go _ is-held) ∙ one_way n table law w c may a));
                heard = ap (λ p. heard_from p (spoken_by c.to (frame_of c))) x.so ∙ h;
                time = ap (λ p. time_from p (spoken_by c.to (frame_of c))) x.so ∙ q;
              };
            };
            told = told;
          }

  -- after a call, whether it was taken or a repeat
  pub got-now : (answer w c ≡ 0) ⊎ (answer w c ≡ 9) → Got n c.to ((called w c).ledgers c.to) (frame_of c)
  got-now =
      ⊎_elim got-taken
      (λ z. let first = (refusal-exactly before c.frame c.outgoing c.list 8 (omega arith)).0 z in
      subst (λ l. Got n c.to l (frame_of c))
      (sym (at_self w c ∙ ap (λ o. o.state) (is-refused before c.frame c.outgoing c.list (λ y. omega (arith, y, z)))))
      (got-repeat first.so))
