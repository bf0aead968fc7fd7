-- Laws of the order of stamps.
-- Assumes nothing.
use Prim.Native.Nat.{ℕ, ◌+◌, ◌*◌, ◌<◌, ◌≤◌}
use mathlib.Core.Path.{◌≡◌, ap, ap₂, sym, ◌∙◌}
use mathlib.Core.Bool.{true, false, cond}
use native.Mathlib.Omega.{arith}
use lib.Dec.{eqb, ltb}
use borrow.Author.Tests.{eq-eqb, eqb-false, eqb-true, le-ltb, lt-ltb, ltb-false, ltb-true, ne_eqb}
use Rattle.common.proofs.TestLaws.{and_left, and_right, or_cases, or_left, same, split}
use mathlib.Core.Logic.{◌⊎◌, inl, inr, ⊎_elim}
use Rattle.std.proofs.Common.{Ordering}
use Rattle.std.proofs.lemmas.Bool.Decides.{nat_tests}
use Rattle.std.specs.Ordering.{is_lt, nat_cmp, ord_max, ordering_then}
use Rattle.payment.specs.Stamps.{below}
use Rattle.payment.specs.declared.Stamp.{Stamp}

pub below-time : (a b : Stamp) → a.time.0 < b.time.0 → below a b ≡ true
unfolding below
below-time a b h = simp (lt-ltb _ _ h)

pub below-tie : (a b : Stamp) → a.time.0 ≡ b.time.0 → below a b ≡ ltb a.ledger.0 b.ledger.0
unfolding below
below-tie a b e = simp (le-ltb a.time.0 b.time.0 (omega arith), eq-eqb _ _ e)

pub below-later : (a b : Stamp) → b.time.0 ≤ a.time.0 → (a.time.0 ≡ b.time.0 → ⊥) → below a b ≡ false
unfolding below
below-later a b h n = simp (le-ltb a.time.0 b.time.0 h, ne_eqb _ _ n)

-- a stamp as one number
abbrev pub rank : Stamp → ℕ
rank s = s.time.0 * 256 + s.ledger.0

ltb_iff : (a b c d : ℕ) → (a < b → c < d) → (c < d → a < b) → ltb a b ≡ ltb c d
ltb_iff a b c d f g = same (ltb a b) (ltb c d) (λ t. lt-ltb c d (f (ltb-true a b t))) (λ t. lt-ltb a b (g (ltb-true c d t)))

pub below-rank : (a b : Stamp) → a.ledger.0 < 256 → b.ledger.0 < 256 → below a b ≡ ltb (rank a) (rank b)
below-rank a b ha hb =
    split (ltb a.time.0 b.time.0)
    (λ t. let h = ltb-true _ _ t in below-time a b h ∙ sym (lt-ltb (rank a) (rank b) (omega arith)))
    (λ t. let h = ltb-false _ _ t in
    split (eqb a.time.0 b.time.0)
    (λ e. let q = eqb-true _ _ e in
    below-tie a b q ∙ ltb_iff a.ledger.0 b.ledger.0 (rank a) (rank b) (λ l. omega arith) (λ l. omega arith))
    (λ e. let n = eqb-false _ _ e in below-later a b h n ∙ sym (le-ltb (rank a) (rank b) (omega arith))))

-- what it says that a stamp is below another
below-says : (a b : Stamp) → below a b ≡ true → (a.time.0 < b.time.0) ⊎ ((a.time.0 ≡ b.time.0) × (a.ledger.0 < b.ledger.0))
unfolding below
below-says a b e =
    ⊎_elim
    (λ s. inl (ltb-true _ _ s))
    (λ s. inr (eqb-true _ _ (and_left (eqb a.time.0 b.time.0) _ s), ltb-true _ _ (and_right (eqb a.time.0 b.time.0) _ s)))
    (or_cases (ltb a.time.0 b.time.0) _ e)

-- no two stamps are each below the other
pub below-once : (a b : Stamp) → below a b ≡ true → below b a ≡ true → ⊥
below-once a b p q =
    ⊎_elim
    (λ x. ⊎_elim (λ y. omega (arith, x, y)) (λ y. let z = y.0 in omega (arith, x, z)) (below-says b a q))
    (λ x. let z = x.0 in let u = x.1 in ⊎_elim (λ y. omega (arith, z, y)) (λ y. let v = y.1 in omega (arith, u, v)) (below-says b a q))
    (below-says a b p)

-- any stamp is above the lower of two, or below the higher
pub below-between : (a b c : Stamp) → below a c ≡ true → (below a b ≡ true) ⊎ (below b c ≡ true)
below-between a b c e =
    split (ltb a.time.0 b.time.0) (λ t. inl (below-time a b (ltb-true _ _ t)))
    (λ t. split (ltb b.time.0 c.time.0) (λ u. inr (below-time b c (ltb-true _ _ u)))
    (λ u. let x = ltb-false a.time.0 b.time.0 t in
    let y = ltb-false b.time.0 c.time.0 u in
    ⊎_elim (λ z. absurd (omega (arith, x, y, z))) (λ z. let p = z.0 in tie (omega (arith, x, y, p)) (omega (arith, x, y, p)) z.1)
    (below-says a c e)))
  where
    tie : a.time.0 ≡ b.time.0 → b.time.0 ≡ c.time.0 → a.ledger.0 < c.ledger.0 → (below a b ≡ true) ⊎ (below b c ≡ true)
    tie p q h =
        split (ltb a.ledger.0 b.ledger.0) (λ t. inl (below-tie a b p ∙ t))
        (λ t. let x = ltb-false a.ledger.0 b.ledger.0 t in
        inr (below-tie b c q ∙ lt-ltb b.ledger.0 c.ledger.0 (omega (arith, x, h))))

-- two stamps of which neither is below the other are the same
pub below-same : (a b : Stamp) → below a b ≡ false → below b a ≡ false → a ≡ b
unfolding below
below-same a b t u =
    let x = ltb-false a.time.0 b.time.0 (or_left (ltb a.time.0 b.time.0) _ t) in
    let y = ltb-false b.time.0 a.time.0 (or_left (ltb b.time.0 a.time.0) _ u) in
    let times : a.time.0 ≡ b.time.0 = omega (arith, x, y) in
    let p = ltb-false a.ledger.0 b.ledger.0 (sym (below-tie a b times) ∙ t) in
    let q = ltb-false b.ledger.0 a.ledger.0 (sym (below-tie b a (sym times)) ∙ u) in
    let ledgers : a.ledger.0 ≡ b.ledger.0 = omega (arith, p, q) in
    ap₂ (λ t l. record { time = record { 0 = t }; ledger = record { 0 = l } }) times ledgers

-- of two stamps that differ one is below the other
pub below_or : (a b : Stamp) → (a ≡ b → ⊥) → (below a b ≡ true) ⊎ (below b a ≡ true)
below_or a b n = split (below a b) (λ t. inl t) (λ t. split (below b a) (λ u. inr u) (λ u. absurd (n (below-same a b t u))))

-- the order that the derives give: by the times, then by the ledgers
abbrev pub order : Stamp → Stamp → Ordering
order a b = ordering_then (nat_cmp a.time.0 b.time.0) (nat_cmp a.ledger.0 b.ledger.0)

pub below-order : (a b : Stamp) → is_lt (order a b) ≡ below a b
unfolding below
below-order a b = grind (arith, nat_tests)

-- the higher of two stamps
abbrev pub higher : Stamp → Stamp → Stamp
higher a b = cond (below a b) b a

-- is their `max`: where neither is below the other they are the same
pub higher-max : (a b : Stamp) → ord_max order a b ≡ higher a b
higher-max a b =
    ap (λ t. cond t a b) (below-order b a)
    ∙ split (below b a)
    (λ t. split (below a b) (λ u. absurd (below-once a b u t)) (λ u. simp (t, u)))
    (λ t. split (below a b) (λ u. simp (t, u)) (λ u. simp (t, u) (below-same b a t u)))
