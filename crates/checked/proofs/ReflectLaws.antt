-- What the checks over the held payments say of each payment, and that this is all they say.
-- Assumes nothing.
use Prim.Native.Nat.{ℕ, ◌<◌, ◌≤◌}
use mathlib.Core.Path.{◌≡◌, refl, ap, sym, ◌∙◌}
use mathlib.Core.List.{List}
use mathlib.Core.Bool.{Bool, true, false, not, ◌||◌}
use lib.Dec.{leb, ltb}
use borrow.Author.Tests.{le-ltb, leb-false, lt-leb, ltb-false, not-false}
use Rattle.common.proofs.PlaceLaws.{every-all, every-at}
use Rattle.common.proofs.TestLaws.{or-go}
use Rattle.payment.specs.Payments.{is_posted, stamp_of}
use Rattle.right.specs.Right.{unused}
use Rattle.payment.specs.declared.Payment.{Payment}
use Rattle.held.specs.Held.{at, limit}
use Rattle.checked.specs.Checked.{below_all, comes_after, held_all, held_at, held_pairs, paired_at, posted_below, unused_all, unused_at}

-- a test that may be passed over: what it says where it is not, and that this is enough
or_at : {a b : Bool} → a || b ≡ true → a ≡ false → b ≡ true
or_at {a} {b} e n = sym (or-go b n) ∙ e

or-so : (a b : Bool) → (a ≡ false → b ≡ true) → a || b ≡ true
or-so true b f = refl
or-so false b f = f refl

module _ (payments : List Payment) (count : ℕ) where
  pub each_at : (f : Payment → Bool) → held_all payments count f ≡ true → (i : ℕ) → i < limit → i < count → f (at payments i) ≡ true
  each_at f e i h u = or_at (every-at limit (held_at payments count f) e i h) (lt-leb _ _ u)

  pub each-so : (f : Payment → Bool) → ((i : ℕ) → i < limit → i < count → f (at payments i) ≡ true) → held_all payments count f ≡ true
  each-so f g = every-all limit (held_at payments count f) (λ i h. or-so (leb count i) _ (λ n. g i h (leb-false _ _ n)))

  pub pairs-at : (f : Payment → Payment → Bool) → held_pairs payments count f ≡ true
      → (i j : ℕ) → i < limit → i < count → j < i → f (at payments i) (at payments j) ≡ true
  pairs-at f e i j h u l =
      every-at i (λ j. f (at payments i) (at payments j))
      (or_at (every-at limit (paired_at payments count f) e i h) (lt-leb _ _ u)) j l

  pub pairs-so : (f : Payment → Payment → Bool)
      → ((i j : ℕ) → i < limit → i < count → j < i → f (at payments i) (at payments j) ≡ true) → held_pairs payments count f ≡ true
  pairs-so f g =
      every-all limit (paired_at payments count f)
      (λ i h. or-so (leb count i) _ (λ n. every-all i (λ j. f (at payments i) (at payments j)) (λ j l. g i j h (leb-false _ _ n) l)))

  pub unused-at : unused_all payments count ≡ true → (i : ℕ) → i < limit → count ≤ i → unused (at payments i) ≡ true
  unused-at e i h u = or_at (every-at limit (unused_at payments count) e i h) (le-ltb _ _ u)

  pub unused-so : ((i : ℕ) → i < limit → count ≤ i → unused (at payments i) ≡ true) → unused_all payments count ≡ true
  unused-so g = every-all limit (unused_at payments count) (λ i h. or-so (ltb i count) _ (λ n. g i h (ltb-false _ _ n)))

module _ (payments : List Payment) (own : ℕ) where
  pub posted-at : posted_below payments own ≡ true → (i j : ℕ) → i < limit → j < limit → is_posted (at payments i) ≡ true
      → comes_after own (stamp_of (at payments i)) (at payments j) ≡ true
  posted-at e i j h g p =
      every-at limit (λ j. comes_after own (stamp_of (at payments i)) (at payments j))
      (or_at (every-at limit (λ i. below_all payments own (at payments i)) e i h) (ap not p)) j g

  pub posted-so : ((i j : ℕ) → i < limit → j < limit → is_posted (at payments i) ≡ true
      → comes_after own (stamp_of (at payments i)) (at payments j) ≡ true)
      → posted_below payments own ≡ true
  posted-so f =
      every-all limit (λ i. below_all payments own (at payments i))
      (λ i h. or-so (not (is_posted (at payments i))) _
      (λ n. every-all limit (λ j. comes_after own (stamp_of (at payments i)) (at payments j)) (λ j g. f i j h g (not-false _ n))))
