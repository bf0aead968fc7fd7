-- Facts about a byte's bits, each by one test that is computed over every byte and place and carried to each.
-- Assumes nothing.
use Prim.Native.Nat.{ℕ, ◌-◌, ◌*◌, ◌%◌, ◌^◌, ◌<◌, ◌≤◌}
use mathlib.Core.Path.{◌≡◌, refl, ap, sym}
use mathlib.Core.Bool.{Bool, true, false, not, beq, ◌&&◌, ◌||◌}
use native.Mathlib.Nat.{div-eq_of_lt}
use native.Mathlib.Omega.{arith}
use lib.Bits.{bit_and, bit_or}
use lib.Count as many
use lib.Count.{ones_in}
use lib.Dec.{eqb, ltb}
use lib.Pow.{pow_mono}
use borrow.Author.Tests.{eqb-true, ltb-true}
use Rattle.common.specs.Bits.{bit, bits, with_bit, without_bit}
use Rattle.common.specs.Places.{count, every}
use Rattle.common.proofs.PlaceLaws.{every-at}

-- a test of every byte and place holds at each
pub at_byte : (f : ℕ → ℕ → Bool) → every 256 (λ d. every 8 (f d)) ≡ true → (d k : ℕ) → d < 256 → k < 8 → f d k ≡ true
at_byte f e d k hd hk = every-at 8 (f d) (every-at 256 (λ d. every 8 (f d)) e d hd) k hk

-- two functions that agree at every byte and place
pub same-at-byte : (f g : ℕ → ℕ → ℕ) → every 256 (λ d. every 8 (λ k. eqb (f d k) (g d k))) ≡ true
    → (d k : ℕ) → d < 256 → k < 8 → f d k ≡ g d k
same-at-byte f g e d k hd hk = eqb-true (f d k) (g d k) (at_byte (λ d k. eqb (f d k) (g d k)) e d k hd hk)

-- a byte has no bit beyond its eighth
pub bit-beyond : (d k : ℕ) → d < 256 → 8 ≤ k → bit d k ≡ false
bit-beyond d k hd hk =
    let big : 256 ≤ 2 ^ k = pow_mono hk in
    ap (λ (q : ℕ). eqb (q % 2) 1) (div-eq_of_lt {n = d} {m = 2 ^ k} (omega arith))

same_test : (a b : Bool) → beq a b ≡ true → a ≡ b
same_test true true e = refl
same_test true false e = sym e
same_test false true e = e
same_test false false e = refl

-- two tests of a byte and two places that agree everywhere
same_bits : (f g : ℕ → ℕ → ℕ → Bool) → every 256 (λ d. every 8 (λ l. every 8 (λ k. beq (f d l k) (g d l k)))) ≡ true
    → (d l k : ℕ) → d < 256 → l < 8 → k < 8 → f d l k ≡ g d l k
same_bits f g e d l k hd hl hk =
    same_test _ _ (every-at 8 (λ k. beq (f d l k) (g d l k))
    (at_byte (λ d l. every 8 (λ k. beq (f d l k) (g d l k))) e d l hd hl) k hk)

-- what setting a bit does to each bit, and clearing it
pub with-bits : (d l k : ℕ) → d < 256 → l < 8 → k < 8 → bit (with_bit d l) k ≡ eqb k l || bit d k
unfolding with_bit every
with-bits = same_bits (λ d l k. bit (with_bit d l) k) (λ d l k. eqb k l || bit d k) refl

pub without-bits : (d l k : ℕ) → d < 256 → l < 8 → k < 8 → bit (without_bit d l) k ≡ not (eqb k l) && bit d k
unfolding without_bit every
without-bits = same_bits (λ d l k. bit (without_bit d l) k) (λ d l k. not (eqb k l) && bit d k) refl

pub with_byte : (d l : ℕ) → d < 256 → l < 8 → with_bit d l < 256
unfolding with_bit every
with_byte d l hd hl = ltb-true _ _ (at_byte (λ d l. ltb (with_bit d l) 256) refl d l hd hl)

-- and what the machine computes
pub with-or : (d k : ℕ) → d < 256 → k < 8 → bit_or d (1 * 2 ^ k % 256) ≡ with_bit d k
unfolding with_bit every
with-or = same-at-byte (λ d k. bit_or d (1 * 2 ^ k % 256)) with_bit refl

pub without-and : (d k : ℕ) → d < 256 → k < 8 → bit_and d (255 - 1 * 2 ^ k % 256) ≡ without_bit d k
unfolding without_bit every
without-and = same-at-byte (λ d k. bit_and d (255 - 1 * 2 ^ k % 256)) without_bit refl

pub ones-bits : (d : ℕ) → d < 256 → many.ones d ≡ bits d
unfolding many.ones ones_in bits count every
ones-bits d hd = same-at-byte (λ d k. many.ones d) (λ d k. bits d) refl d 0 hd (omega arith)
