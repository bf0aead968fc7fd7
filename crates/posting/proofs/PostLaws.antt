-- Posting one payment after the other posts all that are free, in order.
-- Assumes nothing.
use Prim.Native.Nat.{ℕ, ◌<◌, ◌≤◌}
use mathlib.Core.Path.{◌≡◌, refl, ap, ap₂, sym, ◌∙◌, subst, fun_ext}
use mathlib.Core.List.{List, [], ◌∷◌, ◌++◌, map}
use mathlib.Core.Bool.{true, not, cond, ◌&&◌}
use Rattle.std.specs.Prelude.{Option, Some, None, is_none, IfSome}
use native.Mathlib.Omega.{arith}
use lib.Dec.{eqb}
use native.Mathlib.Nat.{zero-add}
use lib.ListN.{drop, length, length-map, set}
use lib.Seq.{get_or-set_other, get_or-set_same, sets, sets-eq}
use borrow.Author.Tests.{eq-eqb, eqb-true, le-ltb, lt-ltb, ne_eqb}
use Rattle.common.specs.Places.{any}
use Rattle.common.specs.Order.{least, sorted}
use Rattle.common.proofs.OrderLaws.{but, least_first, least-none, length-sorted, sorted_none}
use Rattle.common.proofs.PlaceLaws.{any_none, any_same, by_place, listed-places, listed_same}
use Rattle.common.proofs.TestLaws.{and_left, and-stop, split}
use Rattle.payment.specs.Payments.{in_phase, is_stamped, posted, stamp_of}
use Rattle.payment.specs.Stamps.{below}
use Rattle.payment.specs.declared.Payment.{Payment}
use Rattle.payment.specs.declared.Stamp.{Stamp}
use Rattle.held.specs.Held.{at, limit, no_payment}
use Rattle.posting.specs.Posting.{after_posting, before, first_free, held_back, holds_back, is_free, none_free, numbers, posting}
use Rattle.posting.specs.Posting.{to_post, written}
use Rattle.posting.proofs.FreeLaws.{back-other, free_other}

-- the place of the next payment to post
abbrev pub next_of : List Payment → ℕ → ℕ
next_of payments own = least limit (before payments) (is_free payments own) limit

-- with the payment at i posted
abbrev pub post_at : List Payment → ℕ → List Payment
post_at payments i = set payments i (in_phase posted (at payments i))

-- by whether two places are the same
pub free-stamped : (payments : List Payment) (own i : ℕ) → is_free payments own i ≡ true → (at payments i).phase ≡ 2
unfolding is_free
free-stamped payments own i e = eqb-true _ _ (and_left (is_stamped (at payments i)) _ e)

module _ (payments : List Payment) (own i : ℕ) (h : i < length payments) (free : is_free payments own i ≡ true) where
  at_self : at (post_at payments i) i ≡ in_phase posted (at payments i)
  at_self = get_or-set_same payments i (in_phase posted (at payments i)) no_payment h

  at_other : (j : ℕ) → (j ≡ i → ⊥) → at (post_at payments i) j ≡ at payments j
  at_other j n = get_or-set_other payments i j (in_phase posted (at payments i)) no_payment n

  -- what posting leaves alone is the same at every place
  same-part : {A : Type 0} (f : Payment → A) → f (in_phase posted (at payments i)) ≡ f (at payments i) → (j : ℕ)
      → f (at (post_at payments i) j) ≡ f (at payments j)
  same-part f e j =
      by_place j i
      (λ q. ap (λ k. f (at (post_at payments i) k)) q ∙ ap f at_self ∙ e ∙ sym (ap (λ k. f (at payments k)) q))
      (λ n. ap f (at_other j n))

  same-before : before (post_at payments i) ≡ before payments
  same-before = fun_ext (λ j. fun_ext (λ k. ap₂ below (same-part stamp_of refl j) (same-part stamp_of refl k)))

  same_back : (s : Stamp) (j : ℕ) → holds_back own s (at (post_at payments i) j) ≡ holds_back own s (at payments j)
  same_back s =
      same-part (holds_back own s)
      (back-other own s (in_phase posted (at payments i)) (λ e. omega arith)
      ∙ sym (back-other own s (at payments i) (λ e. let p = free-stamped payments own i free in omega arith)))

  same-held : (s : Stamp) → held_back (post_at payments i) own s ≡ held_back payments own s
  same-held s = any_same limit _ _ (λ j l. same_back s j)

  -- all others that were free are free
  pub free-after : is_free (post_at payments i) own ≡ but (is_free payments own) i
  unfolding is_free
  free-after =
      fun_ext (λ j. by_place j i
      (λ q. ap (is_free (post_at payments i) own) q
      ∙ free_other (post_at payments i) own i (λ e. let p = ap (λ x. x.phase) at_self in omega arith)
      ∙ sym (and-stop _ (ap not (eq-eqb j i q))))
      (λ n. ap₂ (λ p s. is_stamped p && not s) (at_other j n)
      (same-held (stamp_of (at (post_at payments i) j)) ∙ ap (λ p. held_back payments own (stamp_of p)) (at_other j n))
      ∙ sym (ap (λ b. not b && is_free payments own j) (ne_eqb j i n))))

  -- all that were to be posted are posted, as if from the start
  pub after_same : after_posting (post_at payments i) own ≡ after_posting payments own
  unfolding after_posting
  after_same =
      listed_same limit _ _
      (λ j l. by_place j i
      (λ q. ap (λ k. cond (is_free (post_at payments i) own k) (in_phase posted (at (post_at payments i) k)) (at (post_at payments i) k)) q
      ∙ ap (λ b. cond b (in_phase posted (at (post_at payments i) i)) (at (post_at payments i) i))
      (ap (λ f. f i) free-after ∙ and-stop _ (ap not (eq-eqb i i refl)))
      ∙ at_self
      ∙ sym (ap (λ b. cond b (in_phase posted (at payments i)) (at payments i)) free)
      ∙ sym (ap (λ k. cond (is_free payments own k) (in_phase posted (at payments k)) (at payments k)) q))
      (λ n. ap₂ (λ b p. cond b (in_phase posted p) p)
      (ap (λ f. f j) free-after ∙ ap (λ b. not b && is_free payments own j) (ne_eqb j i n))
      (at_other j n)))

  -- the numbers still to be posted
  same-numbers : (js : List ℕ) → map (λ j. (at (post_at payments i) j).number.0) js ≡ map (λ j. (at payments j).number.0) js
  same-numbers js = ap (λ (f : ℕ → ℕ). map f js) (fun_ext (same-part (λ p. p.number.0) refl))

-- the search for the next payment finds none exactly when none is free
pub next-none : (payments : List Payment) (own : ℕ) → eqb (next_of payments own) limit ≡ not (any limit (is_free payments own))
next-none payments own =
    split (any limit (is_free payments own))
    (λ t. let first = (least_first (before payments) limit (is_free payments own) limit (omega arith) t).0 in
    ne_eqb (next_of payments own) limit (λ e. omega (arith, first, e)) ∙ sym (ap not t))
    (λ t. eq-eqb _ _ (least-none (before payments) limit (is_free payments own) limit t) ∙ sym (ap not t))

pub first-is_none : (payments : List Payment) (own : ℕ) → is_none (first_free payments own) ≡ none_free payments own
first-is_none payments own = split (eqb (next_of payments own) limit) (λ t. simp t) (λ t. simp t) ∙ next-none payments own

-- what it finds is the place of a payment, and where it finds none there is none
first-some : (payments : List Payment) (own i : ℕ) → first_free payments own ≡ Some i → (i ≡ next_of payments own) × (i < limit)
first-some payments own i e =
    split (any limit (is_free payments own))
    (λ t. let first = (least_first (before payments) limit (is_free payments own) limit (omega arith) t).0 in
    let some : Some (next_of payments own) ≡ Some i =
    sym (ap (λ z. cond z None (Some (next_of payments own))) (ne_eqb (next_of payments own) limit (λ q. omega (arith, first, q)))) ∙ e in
    let same : next_of payments own ≡ i = cc in (sym same, omega arith))
    (λ t. let none : None ≡ Some i =
    sym (ap (λ z. cond z None (Some (next_of payments own))) (next-none payments own ∙ ap not t)) ∙ e in absurd cc)

pub first-within : (payments : List Payment) (own : ℕ) → IfSome (first_free payments own) (λ i. i < limit)
first-within payments own = of-some (first_free payments own) (λ i e. (first-some payments own i e).1)
  where
    of-some : (found : Option ℕ) → ((i : ℕ) → found ≡ Some i → i < limit) → IfSome found (λ i. i < limit)
    of-some None f = tt
    of-some (Some i) f = f i refl

pub first-none : (payments : List Payment) (own : ℕ) → first_free payments own ≡ None → limit ≤ next_of payments own
first-none payments own e =
    split (eqb (next_of payments own) limit)
    (λ t. let same = eqb-true _ _ t in omega arith)
    (λ t. let some : Some (next_of payments own) ≡ None =
    sym (ap (λ z. cond z None (Some (next_of payments own))) t) ∙ e in absurd cc)

module _ (payments : List Payment) (own : ℕ) (size : length payments ≡ limit) where
  any-free : (next_of payments own < limit) → any limit (is_free payments own) ≡ true
  any-free h =
      split (any limit (is_free payments own)) (λ t. t)
      (λ t. let e = least-none (before payments) limit (is_free payments own) limit t in absurd (omega arith))

  -- one payment is posted: it is free, and stands first
  pub post-next : (i : ℕ) → i ≡ next_of payments own → i < limit
      → (is_free payments own i ≡ true) × (numbers payments own ≡ (at payments i).number.0 ∷ numbers (post_at payments i) own)
      × (after_posting (post_at payments i) own ≡ after_posting payments own)
  post-next i e h =
      let first = least_first (before payments) limit (is_free payments own) limit (omega arith) (any-free (subst (λ n. n < limit) e h)) in
      let free : is_free payments own i ≡ true = subst (λ n. is_free payments own n ≡ true) (sym e) first.1 in
      let inside : i < length payments = omega arith in
      let rest : to_post payments own ≡ i ∷ to_post (post_at payments i) own =
      first.2
      ∙ ap (λ n. n ∷ sorted (before payments) (but (is_free payments own) n) limit) (sym e)
      ∙ sym (ap₂ (λ b f. i ∷ sorted b f limit) (same-before payments own i inside free) (free-after payments own i inside free)) in (
        free,
        ap (map (λ j. (at payments j).number.0)) rest
            ∙ ap (λ ns. (at payments i).number.0 ∷ ns) (sym (same-numbers payments own i inside free (to_post (post_at payments i) own))),
        after_same payments own i inside free,
      )

  -- so it is of the one that the search finds
  pub post-found : (i : ℕ) → first_free payments own ≡ Some i
      → (is_free payments own i ≡ true) × (numbers payments own ≡ (at payments i).number.0 ∷ numbers (post_at payments i) own)
      × (after_posting (post_at payments i) own ≡ after_posting payments own)
  post-found i e = let found = first-some payments own i e in post-next i found.0 found.1

  -- no payment is left to post
  pub post-done : limit ≤ next_of payments own → (numbers payments own ≡ []) × (after_posting payments own ≡ payments)
  unfolding after_posting
  post-done h =
      split (any limit (is_free payments own))
      (λ t. let first = (least_first (before payments) limit (is_free payments own) limit (omega arith) t).0 in absurd (omega arith))
      (λ t. let none = any_none limit (is_free payments own) t in (
        ap (map (λ j. (at payments j).number.0)) (sorted_none (before payments) (is_free payments own) limit none),
        listed_same limit _ _ (λ j l. ap (λ b. cond b (in_phase posted (at payments j)) (at payments j)) (none j l))
            ∙ listed-places payments limit no_payment size,
      ))

pub numbers-few : (payments : List Payment) (own : ℕ) → length (numbers payments own) ≤ limit
numbers-few payments own =
    subst (λ n. n ≤ limit) (sym (length-map (to_post payments own) (λ j. (at payments j).number.0)))
    (length-sorted (before payments) (is_free payments own) limit)

-- what posting leaves, by whether the list has a place for each payment
pub posting-short : (payments : List Payment) (own : ℕ) (list : List ℕ) → length list < limit
    → posting payments own list ≡ record { payments = payments; count = 0; list = list }
unfolding posting
posting-short payments own list h = simp (lt-ltb _ _ h)

pub posting-long : (payments : List Payment) (own : ℕ) (list : List ℕ) → limit ≤ length list
    → posting payments own list ≡ record {
      payments = after_posting payments own;
      count = length (numbers payments own);
      list = sets list 0 (numbers payments own);
    }
unfolding posting
posting-long payments own list h =
    simp (le-ltb _ _ h)
    (ap (λ l. record { payments = after_posting payments own; count = length (numbers payments own); list = l })
    (sym (sets-eq (numbers payments own) list 0 (let few = numbers-few payments own in omega arith)
    ∙ ap (λ n. numbers payments own ++ drop n list) (zero-add (length (numbers payments own))))))

pub posting-written : (payments : List Payment) (own : ℕ) (list : List ℕ) → limit ≤ length list
    → posting payments own list ≡ written payments own list
unfolding posting
posting-written payments own list h = simp (le-ltb _ _ h)
