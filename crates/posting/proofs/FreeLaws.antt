-- Laws of which payments are free to post.
-- Assumes nothing.
use Prim.Native.Nat.{ℕ, ◌+◌, ◌<◌}
use Rattle.std.specs.Prelude.{Option, Some, None, MatchOption, option_map}
use mathlib.Core.Path.{◌≡◌, ap, sym, ◌∙◌}
use mathlib.Core.List.{List}
use mathlib.Core.Bool.{Bool, true, false, not, cond, ◌&&◌}
use native.Mathlib.Numerals.{add-one}
use native.Mathlib.Omega.{arith}
use lib.Dec.{eqb}
use borrow.Author.Tests.{eq-eqb, eqb-false, eqb-true, ne_eqb, not-false, not-true}
use Rattle.common.specs.Order.{least}
use Rattle.common.proofs.OrderLaws.{least-keep, least-less, least-only, least_skip}
use Rattle.common.proofs.PlaceLaws.{any_at, any_none, any-not}
use Rattle.common.proofs.TestLaws.{and-false, and-go, and_left, and_right, and-stop, split}
use Rattle.payment.specs.Payments.{is_proposed, is_stamped, proposal, stamp_of}
use Rattle.payment.specs.Stamps.{below}
use Rattle.payment.specs.declared.Payment.{Payment}
use Rattle.payment.specs.declared.Stamp.{Stamp}
use Rattle.held.specs.Held.{at, limit}
use Rattle.posting.specs.Posting.{before, first_free, held_back, holds_back, is_free, none_free}

module _ (own : ℕ) (stamp : Stamp) (p : Payment) where
  pub back-other : (p.phase ≡ 1 → ⊥) → holds_back own stamp p ≡ false
  unfolding holds_back
  back-other n = and-stop _ (ne_eqb _ _ n)

  pub back-proposed : p.phase ≡ 1 → holds_back own stamp p ≡ below (proposal p.times own) stamp
  unfolding holds_back
  back-proposed e = and-go _ (eq-eqb _ _ e)

  pub back-says : holds_back own stamp p ≡ true → (p.phase ≡ 1) × (below (proposal p.times own) stamp ≡ true)
  unfolding holds_back
  back-says e = (eqb-true _ _ (and_left (is_proposed p) _ e), and_right (is_proposed p) _ e)

module _ (payments : List Payment) (own : ℕ) where
  pub free_other : (i : ℕ) → ((at payments i).phase ≡ 2 → ⊥) → is_free payments own i ≡ false
  unfolding is_free
  free_other i n = and-stop _ (ne_eqb _ _ n)

  -- what is free is not held back, and what is stamped and not free is
  pub free-clear : (i : ℕ) → is_free payments own i ≡ true → held_back payments own (stamp_of (at payments i)) ≡ false
  unfolding is_free
  free-clear i e = not-true _ (and_right (is_stamped (at payments i)) _ e)

  pub not-free-held : (i : ℕ) → is_free payments own i ≡ false → (at payments i).phase ≡ 2
      → held_back payments own (stamp_of (at payments i)) ≡ true
  unfolding is_free
  not-free-held i e p = not-false _ (sym (and-go (not (held_back payments own (stamp_of (at payments i)))) (eq-eqb _ _ p)) ∙ e)

  pub free-held : (i j : ℕ) (s : Stamp) → s ≡ stamp_of (at payments i) → j < limit → holds_back own s (at payments j) ≡ true
      → is_free payments own i ≡ false
  unfolding is_free
  free-held i j s e h b =
      ap (λ t. is_stamped (at payments i) && not (held_back payments own t)) (sym e)
      ∙ ap (λ x. is_stamped (at payments i) && not x) (any_at limit (λ k. holds_back own s (at payments k)) j h b)
      ∙ and-false (is_stamped (at payments i))

  pub free-so : (i : ℕ) (s : Stamp) → s ≡ stamp_of (at payments i) → (at payments i).phase ≡ 2 → held_back payments own s ≡ false
      → is_free payments own i ≡ true
  unfolding is_free
  free-so i s e p h =
      and-go _ (eq-eqb _ _ p) ∙ ap (λ t. not (held_back payments own t)) (sym e) ∙ ap not h

  -- where the search for the next to post stands after the places below i: the first that is free, and its stamp
  abbrev pub best_of : ℕ → Option (ℕ × Stamp)
  best_of i =
      let best = least limit (before payments) (is_free payments own) i in
      cond (eqb best limit) None (Some (best, stamp_of (at payments best)))

  -- a place that is not free changes nothing
  pub best-skip : (i : ℕ) → is_free payments own i ≡ false → best_of (i + 1) ≡ best_of i
  best-skip i e =
      ap best_of (add-one i)
      ∙ ap (λ n. cond (eqb n limit) None (Some (n, stamp_of (at payments n))))
      (least_skip (before payments) limit (is_free payments own) i e)

  -- one that is free is put in the place of the best so far where there is none, or where it comes before it
  pub best-more : (i : ℕ) → i < limit → is_free payments own i ≡ true → (best : Option (ℕ × Stamp)) → best ≡ best_of i
      → (b : Bool) → MatchOption best (b ≡ true) (λ x. b ≡ below (stamp_of (at payments i)) x.1)
      → best_of (i + 1) ≡ cond b (Some (i, stamp_of (at payments i))) best
  best-more i h free best e b told =
      ap best_of (add-one i)
      ∙ split (eqb so_far limit)
      (λ t. let none : best ≡ None = e ∙ ap (λ z. cond z None (Some (so_far, stamp_of (at payments so_far)))) t in
      ap pack (least-only (before payments) limit (is_free payments own) i free (eqb-true _ _ t)) ∙ here
      ∙ sym (ap (λ z. cond z (Some (i, stamp_of (at payments i))) best) (rw none at told)))
      (λ t. let some : best ≡ Some (so_far, stamp_of (at payments so_far)) =
      e ∙ ap (λ z. cond z None (Some (so_far, stamp_of (at payments so_far)))) t in
      let first : b ≡ below (stamp_of (at payments i)) (stamp_of (at payments so_far)) = rw some at told in
      split b
      (λ u. ap pack (least-less (before payments) limit (is_free payments own) i free (eqb-false _ _ t) (sym first ∙ u)) ∙ here
      ∙ sym (ap (λ z. cond z (Some (i, stamp_of (at payments i))) best) u))
      (λ u. ap pack (least-keep (before payments) limit (is_free payments own) i free (eqb-false _ _ t) (sym first ∙ u)) ∙ sym e
      ∙ sym (ap (λ z. cond z (Some (i, stamp_of (at payments i))) best) u)))
    where
      so_far : ℕ
      so_far = least limit (before payments) (is_free payments own) i

      pack : ℕ → Option (ℕ × Stamp)
      pack n = cond (eqb n limit) None (Some (n, stamp_of (at payments n)))

      here : pack i ≡ Some (i, stamp_of (at payments i))
      here = ap (λ z. cond z None (Some (i, stamp_of (at payments i)))) (ne_eqb i limit (λ q. omega arith))

  pub best-place : option_map (λ x. x.0) (best_of limit) ≡ first_free payments own
  best-place =
      split (eqb (least limit (before payments) (is_free payments own) limit) limit) (λ t. simp t) (λ t. simp t)

  pub free-none : none_free payments own ≡ true → (i : ℕ) → i < limit → is_free payments own i ≡ false
  free-none e i h = any_none limit (is_free payments own) (not-true _ e) i h

  pub none_so : ((i : ℕ) → i < limit → is_free payments own i ≡ false) → none_free payments own ≡ true
  none_so f = ap not (any-not limit (is_free payments own) f)
