-- Members of a list, and which stands before which.
-- Assumes nothing.
use Prim.Native.Nat.{ℕ}
use mathlib.Core.Path.{◌≡◌, refl, ap, sym, ◌∙◌, subst}
use mathlib.Core.List.{List, [], ◌∷◌, ◌++◌, map}
use mathlib.Core.Bool.{Bool, true}
use mathlib.Core.Logic.{◌⊎◌, inl, inr, ⊎_elim}
use Rattle.common.specs.Places.{In}
use Rattle.common.proofs.MemberLaws.{in-append}
use Rattle.common.specs.Order.{Rising}
use Rattle.common.proofs.RisingLaws.{all-has}
use Rattle.agreement.specs.Claims.{Precedes}

pub precedes-append : (x y : ℕ) (xs ys : List ℕ) → Precedes x y (xs ++ ys) → Precedes x y xs ⊎ ((In x xs × In y ys) ⊎ Precedes x y ys)
precedes-append x y [] ys h = inr (inr h)
precedes-append x y (z ∷ zs) ys h =
    ⊎_elim
    (λ p. ⊎_elim (λ a. inl (inl (p.0, a))) (λ b. inr (inl (inl p.0, b))) (in-append y zs ys p.1))
    (λ t. ⊎_elim (λ a. inl (inr a)) (λ r. ⊎_elim (λ b. inr (inl (inr b.0, b.1))) (λ c. inr (inr c)) r) (precedes-append x y zs ys t))
    h

pub precedes-in : (x y : ℕ) (xs : List ℕ) → Precedes x y xs → In x xs × In y xs
precedes-in x y [] h = absurd h
precedes-in x y (z ∷ zs) h =
    ⊎_elim (λ p. (inl p.0, inr p.1)) (λ t. let r = precedes-in x y zs t in (inr r.0, inr r.1)) h

-- of two different members one stands before the other
pub precedes-either : (x y : ℕ) (xs : List ℕ) → In x xs → In y xs → (x ≡ y → ⊥) → Precedes x y xs ⊎ Precedes y x xs
precedes-either x y [] hx hy n = absurd hx
precedes-either x y (z ∷ zs) hx hy n =
    ⊎_elim
    (λ a. ⊎_elim (λ b. absurd (n (a ∙ sym b))) (λ b. inl (inl (a, b))) hy)
    (λ a. ⊎_elim (λ b. inr (inl (b, a))) (λ b. ⊎_elim (λ p. inl (inr p)) (λ p. inr (inr p)) (precedes-either x y zs a b n)) hy)
    hx

module _ (f : ℕ → ℕ) where
  pub in_map : (y : ℕ) (is : List ℕ) → In y (map f is) → (i : ℕ) × In i is × (y ≡ f i)
  in_map y [] h = absurd h
  in_map y (j ∷ js) h = ⊎_elim (λ e. (j, inl refl, e)) (λ t. let r = in_map y js t in (r.0, inr r.1, r.2)) h

  pub map-in : (i : ℕ) (is : List ℕ) → In i is → In (f i) (map f is)
  map-in i [] h = absurd h
  map-in i (j ∷ js) h = ⊎_elim (λ e. inl (ap f e)) (λ t. inr (map-in i js t)) h

  pub precedes-map : (x y : ℕ) (is : List ℕ) → Precedes x y (map f is) → (i : ℕ) × (j : ℕ) × Precedes i j is × (x ≡ f i) × (y ≡ f j)
  precedes-map x y [] h = absurd h
  precedes-map x y (k ∷ ks) h =
      ⊎_elim
      (λ p. let r = in_map y ks p.1 in (k, r.0, inl (refl, r.1), p.0, r.2))
      (λ t. let r = precedes-map x y ks t in (r.0, r.1, inr r.2, r.3, r.4))
      h

-- in a rising list what stands before is before
pub rising-precedes : (before : ℕ → ℕ → Bool) (i j : ℕ) (is : List ℕ) → Rising before is → Precedes i j is → before i j ≡ true
rising-precedes before i j [] r h = absurd h
rising-precedes before i j (k ∷ ks) r h =
    ⊎_elim
    (λ p. subst (λ x. before x j ≡ true) (sym p.0) (all-has (λ y. before k y ≡ true) ks r.0 j p.1))
    (λ t. rising-precedes before i j ks r.1 t)
    h
