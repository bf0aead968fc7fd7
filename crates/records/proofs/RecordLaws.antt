-- Laws of the records, one for each way through the definitions.
-- Assumes nothing.
use Prim.Native.Nat.{ℕ, ◌≤◌}
use mathlib.Core.Path.{◌≡◌, refl, ap, ap₂, sym, ◌∙◌}
use mathlib.Core.List.{List, ◌∷◌}
use mathlib.Core.Bool.{Bool, true, false, cond, not, ◌||◌}
use mathlib.Core.Logic.{inl, inr}
use native.Mathlib.Omega.{arith}
use lib.Dec.{eqb, ltb}
use borrow.Author.Tests.{eq-eqb, eqb-false, eqb-true, ltb-false, ne_eqb, not-false, le-ltb, lt-ltb}
use lib.ListN.{drop, length, take}
use Rattle.common.proofs.TestLaws.{or_left, or_right, or-true, split}
use Rattle.frame.specs.Digits.{sum}
use Rattle.frame.specs.Frames.{body, kind_in, known, multicast, propose, total_in}
use Rattle.ledgers.specs.Ledgers.{is_group, is_ledger_of}
use Rattle.records.specs.Records.{carried, frame_in, kind_of, multicast_record, record_size, record_total, records, row_of, row_total, second_in, stops}
use Rattle.records.specs.declared.Kind.{Kind}
use Rattle.records.specs.declared.Kind.TheVariants.{SetUp, Multicast, Propose}
use Rattle.std.specs.Option.{unwrap_or}
use Rattle.std.specs.Prelude.{Option, ◌+◌, Some, None, ◌<◌, ◌⊎◌}
use Rattle.std.proofs.lemmas.Option.{cond_some, none-some}

-- by which kind a byte stands for
by_kind : {A : Type 0} (b : ℕ)
    → (b ≡ 16 → A) → (b ≡ 17 → A) → (b ≡ 18 → A) → ((b ≡ 16 → ⊥) → (b ≡ 17 → ⊥) → (b ≡ 18 → ⊥) → A) → A
by_kind b f g h other =
    split (eqb b 16)
    (λ t. f (eqb-true b 16 t))
    (λ t. split (eqb b 17)
    (λ u. g (eqb-true b 17 u))
    (λ u. split (eqb b 18)
    (λ v. h (eqb-true b 18 v))
    (λ v. other (eqb-false b 16 t) (eqb-false b 17 u) (eqb-false b 18 v))))

-- a kind is unknown exactly where its record has no length
pub unknown-total : (k : ℕ) → not (known records k) ≡ eqb (record_total k) 0
unfolding record_total
unknown-total k = split (known records k) (λ t. simp t (sym (ne_eqb (total_in records k) 0 (λ z. omega arith)))) (λ t. simp t)

pub total-other : (k : ℕ) → (k ≡ 16 → ⊥) → (k ≡ 17 → ⊥) → (k ≡ 18 → ⊥) → record_total k ≡ 0
unfolding record_total known
total-other k a b c = simp (ne_eqb _ _ a, ne_eqb _ _ b, ne_eqb _ _ c)

pub total-propose : (k : ℕ) → (k ≡ 16 → ⊥) → (k ≡ 17 → ⊥) → (record_total k ≡ 0 → ⊥) → record_total k ≡ 10
unfolding record_total known body sum
total-propose k a b some =
    by_kind k
    (λ e. absurd (a e))
    (λ e. absurd (b e))
    (ap record_total)
    (λ d e f. absurd (some (total-other k d e f)))

-- no record is longer than one of kind 18
pub total-most : (k : ℕ) → record_total k ≤ 10
unfolding record_total known body sum
total-most k =
    by_kind k
    (λ a. let e : record_total k ≡ 2 = ap record_total a in omega arith)
    (λ a. let e : record_total k ≡ 7 = ap record_total a in omega arith)
    (λ a. let e : record_total k ≡ 10 = ap record_total a in omega arith)
    (λ a b c. let none = total-other k a b c in omega arith)

-- a record has a byte after its kind
pub total-second : (k : ℕ) → (record_total k ≡ 0 → ⊥) → 2 ≤ record_total k
unfolding record_total known body sum
total-second k some =
    by_kind k
    (λ a. let e : record_total k ≡ 2 = ap record_total a in omega arith)
    (λ a. let e : record_total k ≡ 7 = ap record_total a in omega arith)
    (λ a. let e : record_total k ≡ 10 = ap record_total a in omega arith)
    (λ a b c. absurd (some (total-other k a b c)))

-- the byte of a kind
abbrev byte_of : Option Kind → ℕ
byte_of None = 0
byte_of (Some k) = (row_of k).kind

pub kind_byte : (b : ℕ) (k : Kind) → kind_of b ≡ Some k → b ≡ (row_of k).kind
unfolding kind_of
kind_byte b k is =
    by_kind b
    (λ e. e ∙ ap byte_of (sym (ap kind_of e) ∙ is))
    (λ e. e ∙ ap byte_of (sym (ap kind_of e) ∙ is))
    (λ e. e ∙ ap byte_of (sym (ap kind_of e) ∙ is))
    (λ p q r. let none : kind_of b ≡ None = simp (ne_eqb _ _ p, ne_eqb _ _ q, ne_eqb _ _ r) in absurd (none-some k (sym none ∙ is)))

-- how long a record of a kind is
row-total : (k : Kind) → record_total (row_of k).kind ≡ row_total (row_of k)
unfolding record_total known body sum
row-total SetUp = refl
row-total Multicast = refl
row-total Propose = refl

pub total-of : (b : ℕ) (k : Kind) → kind_of b ≡ Some k → record_total b ≡ row_total (row_of k)
total-of b k is = ap record_total (kind_byte b k is) ∙ row-total k

pub total-none : (b : ℕ) → kind_of b ≡ None → record_total b ≡ 0
unfolding kind_of
total-none b is =
    by_kind b
    (λ e. absurd (none-some SetUp (sym is ∙ ap kind_of e)))
    (λ e. absurd (none-some Multicast (sym is ∙ ap kind_of e)))
    (λ e. absurd (none-some Propose (sym is ∙ ap kind_of e)))
    (total-other b)

-- the length, where there is one
size-by-total : (b : ℕ) → record_size b ≡ cond (eqb (record_total b) 0) None (Some (record_total b))
unfolding record_size
size-by-total b =
    split (known records b)
    (λ t. let e = unknown-total b in simp (t, sym (unknown-total b) ∙ ap not t))
    (λ t. let e = unknown-total b in simp (t, sym (unknown-total b) ∙ ap not t))

pub size-of : (b : ℕ) (k : Kind) → kind_of b ≡ Some k → record_size b ≡ Some (row_total (row_of k))
size-of b k is =
    let total = total-of b k is in
    size-by-total b ∙ simp (total, ne_eqb (row_total (row_of k)) 0 (λ z. omega arith))

pub size-none : (b : ℕ) → kind_of b ≡ None → record_size b ≡ None
size-none b is = size-by-total b ∙ simp (total-none b is)

-- whether a record that is whole and of a known kind ends the run
abbrev judged : ℕ → List ℕ → Bool
judged n bytes = cond (eqb (kind_in bytes) 16) (not (is_group (second_in bytes))) (not (is_ledger_of n (second_in bytes)))

-- when a record ends the run
module _ (n : ℕ) (bytes : List ℕ) where
  stops-by-total : stops n bytes
      ≡ eqb (record_total (kind_in bytes)) 0 || (ltb (length bytes) (record_total (kind_in bytes)) || judged n bytes)
  unfolding stops
  stops-by-total = ap (λ b. b || (ltb (length bytes) (record_total (kind_in bytes)) || judged n bytes)) (unknown-total (kind_in bytes))

  pub stops-unknown : record_total (kind_in bytes) ≡ 0 → stops n bytes ≡ true
  stops-unknown e = stops-by-total ∙ simp (eq-eqb _ _ e)

  pub stops-cut : length bytes < record_total (kind_in bytes) → stops n bytes ≡ true
  stops-cut h = stops-by-total ∙ simp (lt-ltb _ _ h, or-true)

  pub stops-short : length bytes < 2 → stops n bytes ≡ true
  stops-short h =
      split (eqb (record_total (kind_in bytes)) 0)
      (λ t. stops-unknown (eqb-true _ _ t))
      (λ t. let two = total-second (kind_in bytes) (eqb-false _ _ t) in stops-cut (omega arith))

  -- a whole record of a known kind
  module _ (k : Kind) (is : kind_of (kind_in bytes) ≡ Some k) (whole : row_total (row_of k) ≤ length bytes) where
    stops-whole : stops n bytes ≡ judged n bytes
    stops-whole =
        let total = total-of (kind_in bytes) k is in
        stops-by-total
        ∙ simp (
          ne_eqb (record_total (kind_in bytes)) 0 (λ z. omega arith),
          le-ltb (length bytes) (record_total (kind_in bytes)) (omega arith),
        )

    pub stops-set-up : k ≡ SetUp → stops n bytes ≡ not (is_group (second_in bytes))
    stops-set-up e = stops-whole ∙ simp (eq-eqb _ _ (kind_byte (kind_in bytes) k is ∙ ap (λ j. (row_of j).kind) e))

    pub stops-step : (k ≡ Multicast) ⊎ (k ≡ Propose) → stops n bytes ≡ not (is_ledger_of n (second_in bytes))
    stops-step e = stops-whole ∙ simp (ne_eqb (kind_in bytes) 16 (no-set-up e))
      where
        no-set-up : (k ≡ Multicast) ⊎ (k ≡ Propose) → kind_in bytes ≡ 16 → ⊥
        no-set-up (inl m) z = let b = kind_byte (kind_in bytes) k is ∙ ap (λ j. (row_of j).kind) m in omega arith
        no-set-up (inr p) z = let b = kind_byte (kind_in bytes) k is ∙ ap (λ j. (row_of j).kind) p in omega arith

  -- one that goes on has a known kind, is whole, and has a byte after its kind
  module _ (go : stops n bytes ≡ false) where
    tests : eqb (record_total (kind_in bytes)) 0 || (ltb (length bytes) (record_total (kind_in bytes)) || judged n bytes) ≡ false
    tests = sym stops-by-total ∙ go

    pub goes-known : record_total (kind_in bytes) ≡ 0 → ⊥
    goes-known = eqb-false _ _ (or_left (eqb (record_total (kind_in bytes)) 0) _ tests)

    pub goes_some : 2 ≤ record_total (kind_in bytes)
    goes_some = total-second (kind_in bytes) goes-known

    pub goes-whole : record_total (kind_in bytes) ≤ length bytes
    goes-whole = ltb-false (length bytes) _ (or_left (ltb (length bytes) (record_total (kind_in bytes))) _
        (or_right (eqb (record_total (kind_in bytes)) 0) _ tests))

    -- a step that goes on has a ledger to step
    pub goes-target : (kind_in bytes ≡ 16 → ⊥) → is_ledger_of n (second_in bytes) ≡ true
    goes-target k =
        let last : judged n bytes ≡ false = or_right (ltb (length bytes) (record_total (kind_in bytes))) _
        (or_right (eqb (record_total (kind_in bytes)) 0) _ tests) in
        not-false _ (simp (ne_eqb _ _ k) at last)

pub frame-multicast : (bytes : List ℕ) → kind_in bytes ≡ 17 → frame_in bytes ≡ carried multicast bytes
unfolding frame_in
frame-multicast bytes e = simp (eq-eqb _ _ e)

pub frame-propose : (bytes : List ℕ) → (kind_in bytes ≡ 17 → ⊥) → frame_in bytes ≡ carried propose bytes
unfolding frame_in
frame-propose bytes n = simp (ne_eqb _ _ n)

-- the kind of the frame of a step record
abbrev pub frame_kind : ℕ → ℕ
frame_kind kind = cond (eqb kind multicast_record.kind) multicast.kind propose.kind

pub kind-multicast : (k : ℕ) → k ≡ 17 → frame_kind k ≡ 1
kind-multicast k e = simp (eq-eqb _ _ e)

pub kind-propose : (k : ℕ) → (k ≡ 17 → ⊥) → frame_kind k ≡ 2
kind-propose k n = simp (ne_eqb _ _ n)

-- the frame of a step record that goes on, in the first bytes of a longer list
module _ (n : ℕ) (bytes made : List ℕ) (go : stops n bytes ≡ false) (step : kind_in bytes ≡ 16 → ⊥) (kind size : ℕ)
    (is-kind : kind ≡ frame_kind (kind_in bytes)) (is-size : size + 1 ≡ record_total (kind_in bytes)) (body : ℕ) (is-body : body + 1 ≡ size)
    (is : take (body + 1) made ≡ kind ∷ take body (drop 2 bytes)) where
  by_parts : (k m : ℕ) → kind ≡ k → body ≡ m → take size made ≡ k ∷ take m (drop 2 bytes)
  by_parts k m e f =
      ap (λ (i : ℕ). take i made) (sym is-body) ∙ is ∙ ap₂ (λ (x i : ℕ). x ∷ take i (drop 2 bytes)) e f

  pub frame_made : take size made ≡ frame_in bytes
  unfolding record_total known body sum
  frame_made =
      split (eqb (kind_in bytes) 17)
      (λ t. let e = eqb-true (kind_in bytes) 17 t in
      let seven : record_total (kind_in bytes) ≡ 7 = ap record_total e in
      by_parts 1 5 (is-kind ∙ kind-multicast (kind_in bytes) e) (omega arith) ∙ sym (frame-multicast bytes e))
      (λ t. let e = eqb-false (kind_in bytes) 17 t in
      let ten = total-propose (kind_in bytes) step e (goes-known n bytes go) in
      by_parts 2 8 (is-kind ∙ kind-propose (kind_in bytes) e) (omega arith) ∙ sym (frame-propose bytes e))

-- the length, or 0 where the kind is unknown
pub size-or-zero : (k : ℕ) → unwrap_or (record_size k) 0 ≡ record_total k
unfolding record_size record_total
size-or-zero k = split (known records k) (λ t. simp t) (λ t. simp t)

pub size-some : (k n : ℕ) → record_size k ≡ Some n → record_total k ≡ n
size-some k n is = sym (size-or-zero k) ∙ ap (λ o. unwrap_or o 0) is

pub size-missing : (k : ℕ) → record_size k ≡ None → record_total k ≡ 0
size-missing k is = sym (size-or-zero k) ∙ ap (λ o. unwrap_or o 0) is

-- a length is none of nothing
pub size-positive : (k n : ℕ) → record_size k ≡ Some n → 1 ≤ n
unfolding record_size record_total
size-positive k n is =
    let (known, same) = cond_some _ _ _ is in
    let total : record_total k ≡ 1 + sum (body records k) = ap (λ b. cond b (total_in records k) 0) known in
    omega (arith, same, total)
