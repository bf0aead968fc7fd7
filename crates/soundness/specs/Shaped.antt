-- Of what the types say of a ledger, what the proofs need: every ledger that a program can hold has it.
-- Assumes nothing.
use Rattle.std.specs.Prelude.{ℕ, ◌<◌, ◌≡◌, length}
use Rattle.ledgers.specs.Ledgers.{most_ledgers}
use Rattle.held.specs.Held.{at, limit}
use Rattle.ledger.specs.declared.Ledger.{Ledger}

-- as many places as the limit, each with eight times and a byte of heard ledgers
pub record Shaped (l : Ledger) : Type 0 where
  pub places : length l.payments ≡ limit
  pub times : (i : ℕ) → i < limit → length (at l.payments i).times ≡ most_ledgers
  pub heard : (i : ℕ) → i < limit → (at l.payments i).heard < 256
