-- The fresh state is sound; the all-zero state, which a refused set-up hands back, is not.
-- Assumes nothing.
use Prim.Native.Nat.{ℕ, ◌<◌}
use mathlib.Core.Path.{◌≡◌, refl, ap, sym, ◌∙◌, subst}
use mathlib.Core.Bool.{Bool, true, false}
use native.Mathlib.Nat.{not-suc-le-zero}
use native.Mathlib.Omega.{arith}
use lib.ListN.{get_or-replicate, length, length-replicate}
use Rattle.common.specs.Places.{every}
use Rattle.common.proofs.TestLaws.{and_both, both, split}
use Rattle.payment.specs.Payments.{is_posted, time_in}
use Rattle.right.specs.Right.{heard_right, lawful, not_above_clock, number_not_zero, numbers_differ, times_differ, phase_right, unused}
use Rattle.payment.specs.declared.Payment.{Payment}
use Rattle.held.specs.Held.{at, limit, no_payment}
use Rattle.posting.proofs.FreeLaws.{free_other, none_so}
use Rattle.checked.proofs.ReflectLaws.{each-so, pairs-so, posted-so, unused-so}
use Rattle.ledger.specs.State.{fresh, unused_place}
use Rattle.ledgers.specs.Ledgers.{is_ledger_of}
use Rattle.ledger.specs.Sound.{each, pairs, sound}
use Rattle.ledger.proofs.SoundLaws.{clauses, sound-so}
use Rattle.soundness.specs.Shaped.{Shaped}

module _ (group own : ℕ) where
  at-empty : (i : ℕ) → i < limit → at (fresh group own).payments i ≡ unused_place
  at-empty i h = get_or-replicate limit i unused_place no_payment h

  all-zero : unused unused_place ≡ true
  unfolding unused every time_in
  all-zero = refl

  -- of no held payment anything may be said
  no-payment : (f : Payment → Bool) → each (fresh group own) f ≡ true
  no-payment f = each-so (fresh group own).payments 0 f (λ i h u. absurd (not-suc-le-zero u))

  no-pair : (f : Payment → Payment → Bool) → pairs (fresh group own) f ≡ true
  no-pair f = pairs-so (fresh group own).payments 0 f (λ i j h u l. absurd (not-suc-le-zero u))

  pub fresh-sound : is_ledger_of group own ≡ true → sound (fresh group own) ≡ true
  fresh-sound g =
      sound-so (fresh group own) record {
        kept = record {
          range = and_both g refl;
          numbers = no-pair numbers_differ;
          number = no-payment number_not_zero;
          destinations = no-payment (lawful group own);
          heard = no-payment heard_right;
          unused = unused-so (fresh group own).payments 0 (λ i h u. ap unused (at-empty i h) ∙ all-zero);
          times = no-pair times_differ;
          clock = no-payment (not_above_clock own 0);
          phase = no-payment (phase_right own);
          posted = posted-so (fresh group own).payments own (λ i j h k p. both p (ap is_posted (at-empty i h)));
        };
        free = none_so (fresh group own).payments own
            (λ i h. free_other (fresh group own).payments own i (λ e. let z = ap (λ p. p.phase) (at-empty i h) in omega (arith, z, e)));
      }

  pub fresh-shaped : Shaped (fresh group own)
  fresh-shaped =
      record {
        places = length-replicate limit unused_place;
        times = λ i h. ap (λ p. length p.times) (at-empty i h);
        heard = λ i h. subst (λ p. p.heard < 256) (sym (at-empty i h)) (omega arith);
      }

-- the all-zero state has no group
pub nothing-unsound : sound (fresh 0 0) ≡ false
nothing-unsound = split (sound (fresh 0 0)) (λ t. both (clauses (fresh 0 0) t).kept.range refl) (λ t. t)
