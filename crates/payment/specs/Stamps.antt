-- Stamps [N4] and their order.
-- Assumes nothing.
use Rattle.std.specs.Prelude.{Bool, ◌&&◌, ◌||◌, eqb, ltb}
use Rattle.payment.specs.declared.Stamp.{Stamp}

-- [N5] a is first: its time is less, or the times are the same and its ledger is less
unfoldable pub below : Stamp → Stamp → Bool
below a b =
    ltb a.time.0 b.time.0 || (eqb a.time.0 b.time.0 && ltb a.ledger.0 b.ledger.0)
