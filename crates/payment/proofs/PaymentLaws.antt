-- Laws of what is kept for a payment, one for each way through the definitions.
-- Assumes nothing.
use Prim.Native.Nat.{ℕ, ◌-◌}
use mathlib.Core.Path.{◌≡◌, ap, sym, ◌∙◌}
use mathlib.Core.List.{List}
use mathlib.Core.Logic.{⊎_elim}
use native.Mathlib.Numerals.{add-one}
use native.Mathlib.Omega.{arith}
use lib.ListN.{get_or, set}
use borrow.Author.Tests.{le-ltb, lt-ltb}
use Rattle.frame.specs.declared.Time.{Time}
use Rattle.ledgers.specs.Ledgers.{place_of, with}
use Rattle.payment.specs.declared.Payment.{Payment}
use Rattle.payment.specs.Payments.{hear, no_time, time_in}
use Rattle.std.specs.Prelude.{Some, None}
use Rattle.ledgers.proofs.LedgerLaws.{place, placed, unplaced}

-- the time of a ledger that has a place, and of one that has none
pub time-at : (times : List Time) (l i : ℕ) → Some i ≡ place_of l → time_in times l ≡ get_or times i no_time
unfolding time_in
time-at times l i e =
    let at = placed l i e in
    ap (time_in times) (at.0 ∙ add-one i) ∙ simp (lt-ltb i 8 at.1)

pub time-nowhere : (times : List Time) (l : ℕ) → None ≡ place_of l → time_in times l ≡ no_time
unfolding time_in
time-nowhere times l e =
    ⊎_elim (ap (time_in times))
    (λ h. ap (time_in times) (place l (λ e. omega arith)) ∙ simp (le-ltb (l - 1) 8 (omega arith)))
    (unplaced l e)

-- one more ledger's time
module _ (p : Payment) (l : ℕ) (t : Time) where
  pub hear-at : (i : ℕ) → Some i ≡ place_of l
      → hear p l t
      ≡ record {
        number = p.number;
        destinations = p.destinations;
        heard = with p.heard l;
        times = set p.times i t;
        phase = p.phase;
      }
  unfolding hear
  hear-at i e =
      let at = placed l i e in
      let number = at.0 ∙ add-one i in
      ap (λ k. hear p k t) number
      ∙ simp (lt-ltb i 8 at.1)
      (ap (λ k. record {
        number = p.number;
        destinations = p.destinations;
        heard = with p.heard k;
        times = set p.times i t;
        phase = p.phase;
      }) (sym number))

  pub hear-nowhere : None ≡ place_of l → hear p l t ≡ p
  unfolding hear
  hear-nowhere e =
      ⊎_elim (ap (λ n. hear p n t))
      (λ h. ap (λ n. hear p n t) (place l (λ e. omega arith)) ∙ simp (le-ltb (l - 1) 8 (omega arith)))
      (unplaced l e)
