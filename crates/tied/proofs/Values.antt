-- What the type of an array says of each of its elements.
-- Assumes nothing.
use Prim.Native.Nat.{ℕ, zero, suc, ◌<◌}
use mathlib.Core.List.{List, [], ◌∷◌, map}
use native.Mathlib.Nat.{not-suc-le-zero}
use native.Mathlib.Omega.{arith}
use lib.ListN.{get_or, length}
use base.Fml.{Fml}
use denote.Array.{each}
use denote.Shadow.{shadow}
use mir.Val.{Val}

-- what holds of every value of the element's type holds at each place
pub each_at : {e d : Type 0} (f : d → List Val → Fml) (to : e → d) (P : e → Type 0) → ((x : e) (v : List Val) → shadow (f (to x) v) → P x)
    → (xs : List e) (us : List Val) → shadow (each d f (map to xs) us) → (i : ℕ) (z : e) → i < length xs → P (get_or xs i z)
each_at f to P g [] us s i z h = absurd (not-suc-le-zero h)
each_at f to P g (x ∷ xs) [] s i z h = absurd s
each_at f to P g (x ∷ xs) (u ∷ us) s zero z h = g x (u ∷ []) s.0
each_at f to P g (x ∷ xs) (u ∷ us) s (suc i) z h = each_at f to P g xs us s.1 i z (omega arith)
