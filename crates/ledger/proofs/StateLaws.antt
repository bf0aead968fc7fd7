-- Laws of set-up.
-- Assumes nothing.
use Prim.Native.Nat.{ℕ}
use mathlib.Core.Path.{◌≡◌}
use mathlib.Core.Bool.{true, false}
use Rattle.ledgers.specs.Ledgers.{is_ledger_of}
use Rattle.ledger.specs.State.{fresh, set_up}

module _ (group own : ℕ) where
  pub set-up-so : is_ledger_of group own ≡ true → set_up group own ≡ record { state = fresh group own; answer = 0 }
  unfolding set_up
  set-up-so e = simp e

  pub set-up-no : is_ledger_of group own ≡ false → set_up group own ≡ record { state = fresh 0 0; answer = 1 }
  unfolding set_up
  set-up-no e = simp e
