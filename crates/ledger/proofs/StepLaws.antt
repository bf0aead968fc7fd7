-- Laws of rules 1 to 4, one for each way through the definitions.
-- Assumes nothing.
use Prim.Native.Nat.{ℕ, max}
use mathlib.Core.Path.{◌≡◌, refl, ap, sym, subst, ◌∙◌}
use mathlib.Core.Bool.{Bool, true, false, cond}
use lib.ListN.{set}
use borrow.Author.Tests.{eq-eqb, ne_eqb}
use Rattle.std.specs.Prelude.{◌+◌, ◌<◌, Some, None, unwrap_or}
use Rattle.std.specs.Option.{is_some}
use Rattle.payment.specs.Payments.{in_phase, stamp_of, stamped}
use Rattle.frame.specs.declared.Time.{Time}
use Rattle.payment.specs.declared.Payment.{Payment}
use Rattle.held.specs.Held.{at, holds, limit}
use Rattle.ledger.specs.Step.{after_hearing, count_for, keeping, kept_at, multicast_rule, place_for, propose_rule, stamp_rule}
use Rattle.refusals.specs.Refusals.{found, received}
use Rattle.refusals.specs.declared.Incoming.{Incoming}
use Rattle.refusals.specs.declared.Judged.{Judged}
use Rattle.ledger.specs.declared.rules.Accepted.{Accepted}
use Rattle.ledger.specs.declared.Ledger.{Ledger}

-- rule 3, by whether every destination is heard
module _ (l : Ledger) (i : ℕ) where
  pub stamp-now : (at l.payments i).heard ≡ (at l.payments i).destinations
      → stamp_rule l i
      ≡ record {
        group = l.group;
        own = l.own;
        clock = record { 0 = max l.clock.0 (stamp_of (at l.payments i)).time.0 };
        count = l.count;
        payments = set l.payments i (in_phase stamped (at l.payments i));
      }
  unfolding stamp_rule
  stamp-now e = simp (eq-eqb _ _ e)

  pub stamp-not : ((at l.payments i).heard ≡ (at l.payments i).destinations → ⊥) → stamp_rule l i ≡ l
  unfolding stamp_rule
  stamp-not n = simp (ne_eqb _ _ n)

-- whose frame it is
module _ (l : Ledger) (f : Incoming) where
  pub received-propose : f.kind ≡ 2 → after_hearing l f ≡ propose_rule l f
  received-propose e = ap (λ b. cond b (propose_rule l f) (multicast_rule l f)) (eq-eqb _ _ e)

  pub received-multicast : (f.kind ≡ 2 → ⊥) → after_hearing l f ≡ multicast_rule l f
  received-multicast n = ap (λ b. cond b (propose_rule l f) (multicast_rule l f)) (ne_eqb _ _ n)

-- where the payment of a frame that is taken is kept, that there is room, and how many are held with it
module _ (a : Accepted) where
  abbrev l : Ledger
  l = a.ledger

  abbrev j : Judged
  j = a.judged

  pub place-taken : unwrap_or j.place l.count ≡ place_for l (received j.frame)
  place-taken =
      ap (λ p. unwrap_or p l.count) a.may.place
      ∙ at-some (holds l.payments (received j.frame).payment.0) (found l.payments (received j.frame))
    where
      at-some : (b : Bool) (i : ℕ) → unwrap_or (cond b (Some i) None) l.count ≡ cond b i l.count
      at-some true i = refl
      at-some false i = refl

  pub room-taken : unwrap_or j.place l.count < limit
  room-taken = subst (λ n. n < limit) (sym place-taken) a.may.room

  count-taken : cond (is_some j.place) l.count (l.count + 1) ≡ count_for l (received j.frame)
  count-taken =
      ap (λ p. cond (is_some p) l.count (l.count + 1)) a.may.place
      ∙ at-some (holds l.payments (received j.frame).payment.0) (found l.payments (received j.frame))
    where
      at-some : (b : Bool) (i : ℕ) → cond (is_some (cond b (Some i) None)) l.count (l.count + 1) ≡ cond b l.count (l.count + 1)
      at-some true i = refl
      at-some false i = refl

  -- so rules 1 and 2 keep it, each with its clock
  pub kept-taken : {clock new : Time} {p q : Payment} → clock ≡ new → p ≡ q
      → kept_at (record { group = l.group; own = l.own; clock = clock; count = l.count; payments = l.payments }) j.place p
      ≡ keeping l (received j.frame) new q
  kept-taken c e = λ k. record {
    group = l.group;
    own = l.own;
    clock = c k;
    count = count-taken k;
    payments = set l.payments (place-taken k) (e k);
  }
