-- The state [K1], the fresh one [U1], and the one that is all zero [U2].
-- Assumes nothing.
use Rattle.std.specs.Prelude.{ℕ, cond, replicate}
use Rattle.ledgers.specs.Ledgers.{is_ledger_of}
use Rattle.payment.specs.Payments.{new_payment}
use Rattle.payment.specs.declared.Payment.{Payment}
use Rattle.held.specs.Held.{limit}
use Rattle.refusals.specs.Refusals.{answer_no}
use Rattle.ledger.specs.declared.Ledger.{Ledger}
use Rattle.ledger.specs.declared.SetUp.{SetUp}

-- [S5] a place not in use
abbrev pub unused_place : Payment
unused_place = new_payment 0 0

-- [U1] a fresh ledger holds nothing, and its clock is 0; that of number 0 of group 0 is the all-zero state
abbrev pub fresh : ℕ → ℕ → Ledger
fresh group own =
    record {
      group = group;
      own = record { 0 = own };
      clock = record { 0 = 0 };
      count = 0;
      payments = replicate limit unused_place;
    }

-- what a set-up tells: the state, and the answer
pub record Told : Type 0 where
  pub state : Ledger
  pub answer : ℕ

-- [U1, U2] a ledger of the group is set up fresh; any other number is answered 1, and the state is all zero
unfoldable pub set_up : ℕ → ℕ → Told
set_up group own =
    cond (is_ledger_of group own) (record { state = fresh group own; answer = 0 }) (record { state = fresh 0 0; answer = 1 })

-- [P5] what the code's set-up handed back
abbrev pub told : SetUp → Told
told r = record { state = r.state; answer = answer_no r.answer }
