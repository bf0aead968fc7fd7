-- For the code: the bytes of the input that are at hand, which stand in a lent buffer.
-- Assumes nothing.
use Rattle.std.specs.Prelude.{◌-◌, ◌≡◌, List, ℕ, drop, length, take}
use Rattle.drill.specs.declared.bytes.Hand.{Hand}

-- the bytes that are still to be read
abbrev pub at_hand : Hand → List ℕ
at_hand hand = take (hand.filled - hand.at) (drop hand.at hand.buffer.now)

-- the bytes are still to be read, before any that came behind them, and stand in the same lent buffer
pub record Keeps (bytes : List ℕ) (before after : Hand) : Type 0 where
  pub first : take (length bytes) (at_hand after) ≡ bytes
  pub lent : after.buffer.ghost_name ≡ before.buffer.ghost_name
