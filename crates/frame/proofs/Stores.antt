-- Laws of a run of stores, beside those of lib.Seq.
-- Assumes nothing.
use Prim.Native.Nat.{ℕ, suc, ◌+◌, ◌<◌}
use mathlib.Core.Path.{◌≡◌, refl, ap, sym, ◌∙◌}
use mathlib.Core.List.{List, [], ◌∷◌, ◌++◌}
use native.Mathlib.Omega.{arith}
use native.Mathlib.Nat.{add-zero, add-suc, suc-add}
use lib.ListN.{length, set}
use lib.Seq.{sets, set_comm}

module _ {A : Type 0} where
  -- a store before a run of stores may be made first
  pub set-sets : (l : List A) (i j : ℕ) (v : A) (vs : List A) → i < j → set (sets l j vs) i v ≡ sets (set l i v) j vs
  set-sets l i j v [] h = refl
  set-sets l i j v (a ∷ vs) h =
      set-sets (set l j a) i (suc j) v vs (omega arith)
      ∙ ap (λ (x : List A). sets x (suc j) vs) (set_comm l j i a v (omega arith))

  -- two runs, one behind the other
  pub sets-append : (l : List A) (i : ℕ) (vs ws : List A) → sets l i (vs ++ ws) ≡ sets (sets l i vs) (i + length vs) ws
  sets-append l i [] ws = ap (λ (n : ℕ). sets l n ws) (sym (add-zero i))
  sets-append l i (a ∷ vs) ws =
      sets-append (set l i a) (suc i) vs ws
      ∙ ap (λ (n : ℕ). sets (sets (set l i a) (suc i) vs) n ws) (suc-add i (length vs) ∙ sym (add-suc i (length vs)))
