-- Which ledgers there are [N1], and the bytes that name some of them [N6].
-- Assumes nothing.
use Rattle.std.specs.Prelude.{ℕ, zero, suc, ◌-◌, ◌^◌, Option, Some, None, Bool, false, cond, not, ◌&&◌, ◌||◌, eqb, leb}
use Rattle.common.specs.Bits.{bit, bits, with_bit, without_bit}

abbrev pub most_ledgers : ℕ
most_ledgers = 8

-- [N1] a group can have so many ledgers
abbrev pub is_group : ℕ → Bool
is_group n = leb 1 n && leb n most_ledgers

-- [N1] a group can have so many ledgers, and k is the number of one of them
abbrev pub is_ledger_of : ℕ → ℕ → Bool
is_ledger_of n k = is_group n && (leb 1 k && leb k n)

-- where ledger k's bit stands in a byte [N6] and its time among eight [K4], counted from 0: ledgers 1 to 8 have a place
abbrev pub place_of : ℕ → Option ℕ
place_of k = cond (leb 1 k && leb k most_ledgers) (Some (k - 1)) None

-- [N6] ledger k is among the ledgers of a byte
unfoldable pub has : ℕ → ℕ → Bool
has ledgers zero = false
has ledgers (suc k) = bit ledgers k

-- the byte with ledger k, from 1 to 8, among its ledgers
unfoldable pub with : ℕ → ℕ → ℕ
with ledgers zero = ledgers
with ledgers (suc k) = with_bit ledgers k

-- the byte without ledger k
unfoldable pub without : ℕ → ℕ → ℕ
without ledgers zero = ledgers
without ledgers (suc k) = without_bit ledgers k

-- [R3] how many ledgers there are in a byte
abbrev pub how_many : ℕ → ℕ
how_many ledgers = bits ledgers

-- [A5] destinations that ledger `own` of a group refuses: they name nobody, name one past N, or leave this ledger out
unfoldable pub unlawful : ℕ → ℕ → ℕ → Bool
unlawful group own destinations =
    eqb destinations 0 || (leb (2 ^ group) destinations || not (has destinations own))
