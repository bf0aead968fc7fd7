use Prim.Native.Nat.{ℕ, ◌/◌, ◌^◌, ◌<◌, ◌≤◌}
use mathlib.Core.Path.{◌≡◌, sym, ◌∙◌}
use mathlib.Core.Bool.{false, not}
use native.Mathlib.Nat.{div-eq_of_lt, div-lt_iff_lt-mul}
use native.Mathlib.Omega.{arith}
use lib.Dec.{eqb, leb}
use lib.Pow.{pow_mono, pow_pos}
use borrow.Author.Tests.{eq-eqb, le-ltb, leb-false, leb-true, lt-leb, ne_eqb}
use Rattle.common.proofs.TestLaws.{split}
use Rattle.ledgers.proofs.is_beyond.Goals as goal

-- a power is not above a number exactly when it divides it at least once
leb-shift : (k d : ℕ) → not (eqb (d / 2 ^ k) 0) ≡ leb (2 ^ k) d
leb-shift k d =
    split (leb (2 ^ k) d)
    (λ t. simp (ne_eqb (d / 2 ^ k) 0 (λ e. omega (
      arith,
      leb-true (2 ^ k) d t,
      (div-lt_iff_lt-mul {k = 2 ^ k} {x = d} {y = 1} (pow_pos k)).0 (omega arith),
    ))) (sym t))
    (λ t. simp (eq-eqb (d / 2 ^ k) 0 (div-eq_of_lt (leb-false (2 ^ k) d t))) (sym t))

leb-wide : (k d : ℕ) → 8 ≤ k → d < 256 → leb (2 ^ k) d ≡ false
leb-wide k d h hd = lt-leb (2 ^ k) d (omega (arith, pow_mono {i = 8} {j = k} h))

pub returns-then-group-lt-MOST : goal.returns-then-group-lt-MOST
returns-then-group-lt-MOST c = leb-shift c.args.group c.args.destinations

pub returns-else-group-lt-MOST : goal.returns-else-group-lt-MOST
returns-else-group-lt-MOST c =
    let wide = c.if-group-lt-MOST.false in
    le-ltb c.args.group 8 wide ∙ sym (leb-wide c.args.group c.args.destinations wide c.ranges.destinations.fits)
