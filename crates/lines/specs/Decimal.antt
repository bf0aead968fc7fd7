-- Numbers as they are printed, in decimal [D10].
-- Assumes nothing.
use Rattle.std.specs.Prelude.{ℕ, zero, suc, ◌+◌, ◌*◌, ◌-◌, ◌/◌, ◌%◌, List, [], ◌∷◌, ◌++◌, cond, ltb}

-- the byte of a digit: `0` is byte 48
abbrev pub digit : ℕ → ℕ
digit d = 48 + d

-- the digits of a number that has at most k of them, the highest first
unfoldable pub digits : ℕ → ℕ → List ℕ
digits zero n = []
digits (suc k) n = cond (ltb n 10) (digit n ∷ []) (digits k (n / 10) ++ (digit (n % 10) ∷ []))

-- a number of 64 bits has at most 20 digits
abbrev pub decimal : ℕ → List ℕ
decimal n = digits 20 n

-- for the theorems: the number that digits say, where those before them said n
unfoldable pub reads : ℕ → List ℕ → ℕ
reads n [] = n
reads n (b ∷ bs) = reads (n * 10 + (b - 48)) bs
