-- The bits of a byte.
-- Assumes nothing.
use Rattle.std.specs.Prelude.{ℕ, ◌+◌, ◌-◌, ◌/◌, ◌%◌, ◌^◌, Bool, cond, eqb}
use Rattle.common.specs.Places.{count}

-- the bit at a place, counted from 0
abbrev pub bit : ℕ → ℕ → Bool
bit byte k = eqb (byte / 2 ^ k % 2) 1

-- the byte with the bit at a place set
unfoldable pub with_bit : ℕ → ℕ → ℕ
with_bit byte k = cond (bit byte k) byte (byte + 2 ^ k)

-- the byte without the bit at a place
unfoldable pub without_bit : ℕ → ℕ → ℕ
without_bit byte k = cond (bit byte k) (byte - 2 ^ k) byte

-- how many bits are set
unfoldable pub bits : ℕ → ℕ
bits byte = count 8 (bit byte)
