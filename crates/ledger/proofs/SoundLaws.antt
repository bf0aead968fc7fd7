-- The clauses of soundness, each by its name, and the order in which the code checks them.
-- Assumes nothing.
use Prim.Native.Nat.{ℕ}
use mathlib.Core.Path.{◌≡◌, refl, ap, ap₂, sym, ◌∙◌}
use mathlib.Core.Bool.{Bool, true, false, ◌&&◌, ◌||◌}
use mathlib.Core.List.{List}
use lib.Dec.{leb}
use Rattle.common.specs.Places.{every}
use Rattle.common.proofs.PlaceLaws.{every-all, every-at, every-same}
use Rattle.common.proofs.TestLaws.{and_both, and-false, and_left, and_right, and-true, same}
use Rattle.payment.specs.declared.Payment.{Payment}
use Rattle.right.specs.Right.{heard_right, lawful, not_above_clock, number_not_zero, numbers_differ, phase_right, right, times_differ}
use Rattle.held.specs.Held.{at, limit}
use Rattle.posting.specs.Posting.{none_free}
use Rattle.checked.specs.Checked.{held_all, held_at, held_pairs, held_right, posted_below, unused_all}
use Rattle.ledger.specs.Sound.{each, in_range, pairs, sound}
use Rattle.ledger.specs.declared.Ledger.{Ledger}

-- every clause of soundness but that nothing is free to post, each by its name
pub record Almost (l : Ledger) : Type 0 where
  pub range : in_range l ≡ true
  pub numbers : pairs l numbers_differ ≡ true
  pub number : each l number_not_zero ≡ true
  pub destinations : each l (lawful l.group l.own.0) ≡ true
  pub heard : each l heard_right ≡ true
  pub unused : unused_all l.payments l.count ≡ true
  pub times : pairs l times_differ ≡ true
  pub clock : each l (not_above_clock l.own.0 l.clock.0) ≡ true
  pub phase : each l (phase_right l.own.0) ≡ true
  pub posted : posted_below l.payments l.own.0 ≡ true

pub record Sound (l : Ledger) : Type 0 where
  pub kept : Almost l
  pub free : none_free l.payments l.own.0 ≡ true

pub clauses : (l : Ledger) → sound l ≡ true → Sound l
unfolding sound
clauses l e =
    let e₁ = and_right (in_range l) _ e in
    let e₂ = and_right (pairs l numbers_differ) _ e₁ in
    let e₃ = and_right (each l number_not_zero) _ e₂ in
    let e₄ = and_right (each l (lawful l.group l.own.0)) _ e₃ in
    let e₅ = and_right (each l heard_right) _ e₄ in
    let e₆ = and_right (unused_all l.payments l.count) _ e₅ in
    let e₇ = and_right (pairs l times_differ) _ e₆ in
    let e₈ = and_right (each l (not_above_clock l.own.0 l.clock.0)) _ e₇ in
    let e₉ = and_right (each l (phase_right l.own.0)) _ e₈ in
    record {
      kept = record {
        range = and_left (in_range l) _ e;
        numbers = and_left (pairs l numbers_differ) _ e₁;
        number = and_left (each l number_not_zero) _ e₂;
        destinations = and_left (each l (lawful l.group l.own.0)) _ e₃;
        heard = and_left (each l heard_right) _ e₄;
        unused = and_left (unused_all l.payments l.count) _ e₅;
        times = and_left (pairs l times_differ) _ e₆;
        clock = and_left (each l (not_above_clock l.own.0 l.clock.0)) _ e₇;
        phase = and_left (each l (phase_right l.own.0)) _ e₈;
        posted = and_right (none_free l.payments l.own.0) _ e₉;
      };
      free = and_left (none_free l.payments l.own.0) _ e₉;
    }

pub sound-so : (l : Ledger) → Sound l → sound l ≡ true
unfolding sound
sound-so l s =
    and_both s.kept.range
    (and_both s.kept.numbers
    (and_both s.kept.number
    (and_both s.kept.destinations
    (and_both s.kept.heard
    (and_both s.kept.unused
    (and_both s.kept.times (and_both s.kept.clock (and_both s.kept.phase (and_both s.free s.kept.posted)))))))))

-- what is asked of each held payment, or of each two, may be asked one thing after the other
every-and : (n : ℕ) (a b : ℕ → Bool) → every n (λ i. a i && b i) ≡ every n a && every n b
every-and n a b =
    same (every n (λ i. a i && b i)) (every n a && every n b)
    (λ e. and_both
    (every-all n a (λ k h. and_left (a k) (b k) (every-at n (λ i. a i && b i) e k h)))
    (every-all n b (λ k h. and_right (a k) (b k) (every-at n (λ i. a i && b i) e k h))))
    (λ e. every-all n (λ i. a i && b i)
    (λ k h. and_both
    (every-at n a (and_left (every n a) (every n b) e) k h)
    (every-at n b (and_right (every n a) (every n b) e) k h)))

or-and : (a b c : Bool) → a || (b && c) ≡ (a || b) && (a || c)
or-and true b c = refl
or-and false b c = refl

module _ (payments : List Payment) (count : ℕ) where
  pub all-and : (f g : Payment → Bool) → held_all payments count (λ p. f p && g p) ≡ held_all payments count f && held_all payments count g
  all-and f g =
      every-same limit _ _ (λ i h. or-and (leb count i) (f (at payments i)) (g (at payments i)))
      ∙ every-and limit (held_at payments count f) (held_at payments count g)

  pub pairs-and : (f g : Payment → Payment → Bool)
      → held_pairs payments count (λ p q. f p q && g p q) ≡ held_pairs payments count f && held_pairs payments count g
  pairs-and f g =
      every-same limit _ _
      (λ i h. ap (λ b. leb count i || b) (every-and i (λ j. f (at payments i) (at payments j)) (λ j. g (at payments i) (at payments j)))
      ∙ or-and (leb count i) _ _)
      ∙ every-and limit _ _

-- from the code's order of the clauses to that of the rules
reorder : (range number destinations heard clock phase numbers times used free posted : Bool)
    → range && (((number && (destinations && (heard && (clock && phase)))) && ((numbers && times) && (used && posted))) && free)
    ≡ range && (numbers && (number && (destinations && (heard && (used && (times && (clock && (phase && (free && posted)))))))))
reorder false n d h c p m t u f b = refl
reorder true false d h c p m t u f b = sym (and-false m)
reorder true true false h c p m t u f b = sym (and-false m)
reorder true true true false c p m t u f b = sym (and-false m)
reorder true true true true false p m t u f b = sym (simp and-false)
reorder true true true true true false m t u f b = sym (simp and-false)
reorder true true true true true true false t u f b = refl
reorder true true true true true true true false u f b = sym (and-false u)
reorder true true true true true true true true false f b = refl
reorder true true true true true true true true true true b = and-true b
reorder true true true true true true true true true false b = and-false b

module _ (l : Ledger) where
  -- the code's check of each held payment
  right-clauses : held_all l.payments l.count (right l.group l.own.0 l.clock.0)
      ≡ each l number_not_zero && (each l (lawful l.group l.own.0) &&
      (each l heard_right && (each l (not_above_clock l.own.0 l.clock.0) && each l (phase_right l.own.0))))
  right-clauses =
      let own = l.own.0 in
      let late : Payment → Bool = λ p. not_above_clock own l.clock.0 p && phase_right own p in
      let heard : Payment → Bool = λ p. heard_right p && late p in
      all-and l.payments l.count number_not_zero (λ p. lawful l.group own p && heard p)
      ∙ ap (λ b. each l number_not_zero && b)
      (all-and l.payments l.count (lawful l.group own) heard
      ∙ ap (λ b. each l (lawful l.group own) && b)
      (all-and l.payments l.count heard_right late
      ∙ ap (λ b. each l heard_right && b) (all-and l.payments l.count (not_above_clock own l.clock.0) (phase_right own))))

  -- the checks of the code are the clauses of soundness
  pub sound-checked : in_range l
      && (held_right l.payments l.count l.group l.own.0 l.clock.0 && none_free l.payments l.own.0)
      ≡ sound l
  unfolding sound held_right
  sound-checked =
      ap₂ (λ a b. in_range l && ((a && (b && (unused_all l.payments l.count && posted_below l.payments l.own.0)))
      && none_free l.payments l.own.0))
      right-clauses (pairs-and l.payments l.count numbers_differ times_differ)
      ∙ reorder (in_range l) (each l number_not_zero) (each l (lawful l.group l.own.0)) (each l heard_right)
      (each l (not_above_clock l.own.0 l.clock.0)) (each l (phase_right l.own.0)) (pairs l numbers_differ) (pairs l times_differ)
      (unused_all l.payments l.count) (none_free l.payments l.own.0) (posted_below l.payments l.own.0)
