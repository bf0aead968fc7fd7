-- A test of calls: where it passes, they are a run.
-- Assumes nothing.
use Rattle.agreement.proofs.Few.{few-in-all}
use Rattle.common.proofs.MemberLaws.{same-numbers}
use Prim.Native.Nat.{ℕ, ◌^◌}
use mathlib.Core.Path.{◌≡◌, refl, ap, ◌∙◌}
use mathlib.Core.List.{List, [], ◌∷◌}
use mathlib.Core.Bool.{Bool, true, false, not, ◌&&◌, ◌||◌}
use mathlib.Core.Logic.{inl, inr, ⊎_elim}
use lib.Dec.{eqb, leb, ltb}
use lib.ListN.{get_or, length}
use borrow.Author.Tests.{eq-eqb, eqb-false, leb-true, ltb-true, not-true}
use Rattle.common.specs.Places.{In, every, same_numbers}
use Rattle.common.proofs.PlaceLaws.{every-at}
use Rattle.common.proofs.TestLaws.{and_left, and_right, both, or_cases}
use Rattle.frame.specs.Frames.{propose, total}
use Rattle.ledgers.specs.Ledgers.{has}
use Rattle.held.specs.Held.{limit}
use Rattle.agreement.specs.Run.{Call, Calls, Entry, Lawful, May, Run, World, after, multicast_copy, no_entry}

module _ {A : Type 0} (f : A → Bool) where
  unfoldable pub any_of : List A → Bool
  any_of [] = false
  any_of (x ∷ xs) = f x || any_of xs

  any-of : (xs : List A) → any_of xs ≡ true → (x : A) × In x xs × (f x ≡ true)
  unfolding any_of
  any-of [] e = both e refl
  any-of (x ∷ xs) e =
      ⊎_elim (λ t. (x, inl refl, t)) (λ t. let r = any-of xs t in (r.0, inr r.1, r.2)) (or_cases (f x) (any_of xs) e)

  unfoldable pub every_of : List A → Bool
  every_of [] = true
  every_of (x ∷ xs) = f x && every_of xs

  every_of-holds : (xs : List A) → every_of xs ≡ true → (x : A) → In x xs → f x ≡ true
  unfolding every_of
  every_of-holds [] e x i = absurd i
  every_of-holds (y ∷ ys) e x i =
      ⊎_elim (λ q. ap f q ∙ and_left (f y) (every_of ys) e) (λ t. every_of-holds ys (and_right (f y) (every_of ys) e) x t) i

-- the test of a table of no more payments than a ledger holds
unfoldable pub lawful_table : ℕ → List Entry → Bool
lawful_table n table =
    (leb 1 n && leb n 8)
    && (leb (length table) limit
    && (every (length table) (λ j. every j (λ i. not (eqb (get_or table i no_entry).number (get_or table j no_entry).number)))
    && (every_of (λ e. not (eqb e.number 0) && ltb e.number (2 ^ 32)) table
    && every_of (λ e. not (eqb e.destinations 0) && ltb e.destinations (2 ^ n)) table)))

not-zero : (m : ℕ) → not (eqb m 0) ≡ true → m ≡ 0 → ⊥
not-zero m e = eqb-false m 0 (not-true _ e)

lawful-so : (n : ℕ) (table : List Entry) → lawful_table n table ≡ true → Lawful n table
unfolding lawful_table
lawful-so n table e =
    let e₁ = and_right (leb 1 n && leb n 8) _ e in
    let e₂ = and_right (leb (length table) limit) _ e₁ in
    let different = and_left (every (length table) (λ j. every j
    (λ i. not (eqb (get_or table i no_entry).number (get_or table j no_entry).number)))) _ e₂ in
    let e₃ = and_right (every (length table) (λ j. every j (λ i. not
    (eqb (get_or table i no_entry).number (get_or table j no_entry).number)))) _ e₂ in
    let numbers = every_of-holds (λ e. not (eqb e.number 0) && ltb e.number (2 ^ 32)) table
    (and_left (every_of (λ e. not (eqb e.number 0) && ltb e.number (2 ^ 32)) table) _ e₃) in
    let ways = every_of-holds (λ e. not (eqb e.destinations 0) && ltb e.destinations (2 ^ n)) table
    (and_right (every_of (λ e. not (eqb e.number 0) && ltb e.number (2 ^ 32)) table) _ e₃) in
    record {
      ledgers = (
        leb-true _ _ (and_left (leb 1 n) _ (and_left (leb 1 n && leb n 8) _ e)),
        leb-true _ _ (and_right (leb 1 n) _ (and_left (leb 1 n && leb n 8) _ e)),
      );
      differ = λ i j h g q. both
          (every-at j (λ i. not (eqb (get_or table i no_entry).number (get_or table j no_entry).number))
          (every-at (length table) (λ j. every j (λ i. not (eqb (get_or table i no_entry).number
          (get_or table j no_entry).number))) different j g) i h)
          (ap not (eq-eqb _ _ q));
      number = λ x i. (
        not-zero x.number (and_left (not (eqb x.number 0)) _ (numbers x i)),
        ltb-true _ _ (and_right (not (eqb x.number 0)) _ (numbers x i)),
      );
      destinations = λ x i. (
        not-zero x.destinations (and_left (not (eqb x.destinations 0)) _ (ways x i)),
        ltb-true _ _ (and_right (not (eqb x.destinations 0)) _ (ways x i)),
      );
      few = λ k. few-in-all table (leb-true _ _ (and_left (leb (length table) limit) _ e₁)) _;
    }

-- the test of one call
unfoldable pub may_call : ℕ → List Entry → World → Call → Bool
may_call n table w c =
    (leb 1 c.to && leb c.to n)
    && (leb (total propose.kind) (length c.outgoing)
    && (leb limit (length c.list)
    && (any_of (λ e. same_numbers c.frame (multicast_copy e) && has e.destinations c.to) table
    || any_of (λ x. same_numbers c.frame x.frame && has x.recipients c.to) w.written)))

may-so : (n : ℕ) (table : List Entry) (w : World) (c : Call) → may_call n table w c ≡ true → May n table w c
unfolding may_call
may-so n table w c e =
    let e₁ = and_right (leb 1 c.to && leb c.to n) _ e in
    let e₂ = and_right (leb (total propose.kind) (length c.outgoing)) _ e₁ in
    let e₃ = and_right (leb limit (length c.list)) _ e₂ in
    record {
      ledger = (
        leb-true _ _ (and_left (leb 1 c.to) _ (and_left (leb 1 c.to && leb c.to n) _ e)),
        leb-true _ _ (and_right (leb 1 c.to) _ (and_left (leb 1 c.to && leb c.to n) _ e)),
      );
      outgoing = leb-true _ _ (and_left (leb (total propose.kind) (length c.outgoing)) _ e₁);
      list = leb-true _ _ (and_left (leb limit (length c.list)) _ e₂);
      copy =
          ⊎_elim
          (λ t. let r = any-of (λ e. same_numbers c.frame (multicast_copy e) && has e.destinations c.to) table t in
          inl (record {
            entry = r.0;
            in_table = r.1;
            frame = same-numbers c.frame (multicast_copy r.0) (and_left (same_numbers c.frame (multicast_copy r.0)) _ r.2);
            destination = and_right (same_numbers c.frame (multicast_copy r.0)) _ r.2;
          }))
          (λ t. let r = any-of (λ x. same_numbers c.frame x.frame && has x.recipients c.to) w.written t in
          inr (record {
            propose = r.0;
            written = r.1;
            frame = same-numbers c.frame r.0.frame (and_left (same_numbers c.frame r.0.frame) _ r.2);
            recipient = and_right (same_numbers c.frame r.0.frame) _ r.2;
          }))
          (or_cases (any_of (λ e. same_numbers c.frame (multicast_copy e) && has e.destinations c.to) table) _ e₃);
    }

unfoldable pub may_all : ℕ → List Entry → List Call → Bool
may_all n table [] = true
may_all n table (c ∷ cs) = may_call n table (after n cs) c && may_all n table cs

calls-so : (n : ℕ) (table : List Entry) (cs : List Call) → may_all n table cs ≡ true → Calls n table cs
unfolding may_all
calls-so n table [] e = tt
calls-so n table (c ∷ cs) e = (
  may-so n table (after n cs) c (and_left (may_call n table (after n cs) c) _ e),
  calls-so n table cs (and_right (may_call n table (after n cs) c) _ e),
)

-- the test of a run
unfoldable pub is_run : ℕ → List Entry → List Call → Bool
is_run n table cs = lawful_table n table && may_all n table cs

pub is-run : (n : ℕ) (table : List Entry) (cs : List Call) → is_run n table cs ≡ true → Run n table cs
unfolding is_run
is-run n table cs e =
    record {
      lawful = lawful-so n table (and_left (lawful_table n table) _ e);
      calls = calls-so n table cs (and_right (lawful_table n table) _ e);
    }
