-- Numbers as bytes, the high byte in front [F1].
-- Assumes nothing.
use Rattle.std.specs.Prelude.{ℕ, zero, suc, ◌+◌, ◌*◌, ◌/◌, ◌%◌, ◌^◌, List, [], ◌∷◌, ◌++◌, Bool, true, false, ◌&&◌, ltb, length, take, drop}

-- the w low bytes of x, high byte first
unfoldable pub bytes_of : ℕ → ℕ → List ℕ
bytes_of zero x = []
bytes_of (suc w) x = x / 256 ^ w % 256 ∷ bytes_of w x

-- the number whose bytes these are, high byte first
unfoldable pub number_of : List ℕ → ℕ
number_of [] = 0
number_of (b ∷ bs) = b * 256 ^ length bs + number_of bs

-- numbers one after the other, each in as many bytes as its width says
unfoldable pub pack : List ℕ → List ℕ → List ℕ
pack [] vs = []
pack (w ∷ ws) [] = []
pack (w ∷ ws) (v ∷ vs) = bytes_of w v ++ pack ws vs

-- the numbers that stand one after the other in bytes, each as wide as its width says
unfoldable pub unpack : List ℕ → List ℕ → List ℕ
unpack [] bs = []
unpack (w ∷ ws) bs = number_of (take w bs) ∷ unpack ws (drop w bs)

-- how many bytes the widths make together
unfoldable pub sum : List ℕ → ℕ
sum [] = 0
sum (w ∷ ws) = w + sum ws

-- as many numbers as widths, and each has room in its width
unfoldable pub fitting : List ℕ → List ℕ → Bool
fitting [] [] = true
fitting [] (v ∷ vs) = false
fitting (w ∷ ws) [] = false
fitting (w ∷ ws) (v ∷ vs) = ltb v (256 ^ w) && fitting ws vs
