-- Laws of the drill's ledgers, one for each way through the definitions.
-- Assumes nothing.
use Prim.Native.Nat.{ℕ, ◌+◌, ◌<◌, ◌≤◌}
use mathlib.Core.Path.{◌≡◌, ap, ap₂, sym, ◌∙◌}
use mathlib.Core.List.{List, [], ◌∷◌, ◌++◌}
use mathlib.Core.Bool.{true, false}
use native.Mathlib.Omega.{arith}
use lib.Dec.{leb}
use borrow.Author.Tests.{eq-eqb, leb-true, ne_eqb}
use lib.ListN.{length, length-drop, get_or, set, take, drop}
use lib.Seq.{get_or-drop, get_or-set_other, get_or-set_same, take-suc, take-suc-set}
use native.Mathlib.Nat.{add_comm}
use native.Mathlib.Numerals.{add-one}
use Rattle.common.specs.Places.{listed}
use Rattle.common.proofs.PlaceLaws.{last-or-before, listed-places, listed_same}
use Rattle.common.proofs.TestLaws.{and_left, and_right}
use Rattle.frame.specs.Frames.{kind_in, multicast, propose}
use Rattle.ledgers.specs.Ledgers.{is_group, is_ledger_of}
use Rattle.records.specs.Records.{carried, frame_in, kind_of, row_of, row_total, second_in, stops}
use Rattle.group.specs.Groups.{started, stepped, stopped, turn}
use Rattle.records.specs.declared.Did.TheVariants.{SetUp as Set}
use Rattle.records.specs.declared.Kind.{Kind}
use Rattle.records.specs.declared.Kind.TheVariants.{SetUp, Multicast, Propose}
use Rattle.records.proofs.RecordLaws.{frame-multicast, frame-propose, goes-target, goes-whole, kind_byte, total-of}
use Rattle.std.specs.Prelude.{Some}
use Rattle.group.specs.declared.Group.{Group}

-- what a record does, by whether it ends the run, and by its kind
module _ (g : Group) (bytes list : List ℕ) where
  pub turn-stops : stops g.count bytes ≡ true → turn g bytes list ≡ stopped g list
  unfolding turn
  turn-stops e = simp e

  pub turn-starts : stops g.count bytes ≡ false → kind_in bytes ≡ 16
      → turn g bytes list ≡ record { group = started (second_in bytes); did = Set (second_in bytes); list = list }
  unfolding turn
  turn-starts e k = simp (e, eq-eqb _ _ k)

  pub turn-steps : (row : List ℕ) → stops g.count bytes ≡ false → (kind_in bytes ≡ 16 → ⊥) → frame_in bytes ≡ row
      → turn g bytes list ≡ stepped g (second_in bytes) row list
  unfolding turn
  turn-steps row e n f = simp (e, ne_eqb _ _ n, f)

-- a record that does not end the run, by its kind
module _ (g : Group) (bytes list : List ℕ) (go : stops g.count bytes ≡ false) where
  pub all-there : (k : Kind) → kind_of (kind_in bytes) ≡ Some k → row_total (row_of k) ≤ length bytes
  all-there k is =
      let total = total-of (kind_in bytes) k is in
      let whole = goes-whole g.count bytes go in
      omega arith

  pub turn-set-up : kind_of (kind_in bytes) ≡ Some SetUp
      → turn g bytes list ≡ record { group = started (second_in bytes); did = Set (second_in bytes); list = list }
  turn-set-up is = turn-starts g bytes list go (kind_byte (kind_in bytes) SetUp is)

  pub turn-multicast : kind_of (kind_in bytes) ≡ Some Multicast
      → turn g bytes list ≡ stepped g (second_in bytes) (carried multicast bytes) list
  turn-multicast is =
      let e = kind_byte (kind_in bytes) Multicast is in
      turn-steps g bytes list (carried multicast bytes) go (λ z. omega arith) (frame-multicast bytes e)

  pub turn-propose : kind_of (kind_in bytes) ≡ Some Propose
      → turn g bytes list ≡ stepped g (second_in bytes) (carried propose bytes) list
  turn-propose is =
      let e = kind_byte (kind_in bytes) Propose is in
      turn-steps g bytes list (carried propose bytes) go (λ z. omega arith) (frame-propose bytes (λ z. omega arith))

  pub target-there : (k : Kind) → kind_of (kind_in bytes) ≡ Some k → ((row_of k).kind ≡ 16 → ⊥)
      → is_ledger_of g.count (second_in bytes) ≡ true
  target-there k is step = goes-target g.count bytes go (λ z. step (sym (kind_byte (kind_in bytes) k is) ∙ z))

-- one byte of the body more, where the first bytes are the kind and some of the body
pub body_more : (made bytes : List ℕ) (kind i : ℕ) → i + 1 < length made → i + 2 < length bytes
    → take (i + 1) made ≡ kind ∷ take i (drop 2 bytes)
    → take (i + 1 + 1) (set made (i + 1) (get_or bytes (i + 2) 0)) ≡ kind ∷ take (i + 1) (drop 2 bytes)
body_more made bytes kind i h g e =
    ap (λ (m : ℕ). take m (set made (i + 1) (get_or bytes (i + 2) 0))) (add-one (i + 1))
    ∙ take-suc-set made (i + 1) (get_or bytes (i + 2) 0) h
    ∙ ap₂ (λ (l : List ℕ) (x : ℕ). l ++ (x ∷ [])) e (sym (get_or-drop 2 bytes i 0 ∙ ap (λ (m : ℕ). get_or bytes m 0) (add_comm 2 i)))
    ∙ ap (λ (l : List ℕ). kind ∷ l) (sym (take-suc (drop 2 bytes) i 0 (omega (arith, length-drop 2 bytes)))
    ∙ ap (λ (m : ℕ). take m (drop 2 bytes)) (sym (add-one i)))

-- a list made place by place
module _ {A : Type 0} (d : A) (f : ℕ → A) where
  pub place-more : (xs : List A) (i : ℕ) (v : A) → i < length xs → v ≡ f i → ((k : ℕ) → k < i → get_or xs k d ≡ f k)
      → (k : ℕ) → k < i + 1 → get_or (set xs i v) k d ≡ f k
  place-more xs i v h e before k l =
      last-or-before i k (rw add-one at l)
      (λ q. rw q (get_or-set_same xs i v d h ∙ e))
      (λ m. get_or-set_other xs i k v d (λ q. omega arith) ∙ before k m)

  pub places-all : (xs : List A) (n : ℕ) → length xs ≡ n → ((k : ℕ) → k < n → get_or xs k d ≡ f k) → xs ≡ listed n f
  places-all xs n e all = sym (listed-places xs n d e) ∙ listed_same n (λ k. get_or xs k d) f all

-- a ledger of a group has its place
module _ (n target : ℕ) (e : is_ledger_of n target ≡ true) where
  pub target_first : 1 ≤ target
  target_first = leb-true _ _ (and_left (leb 1 target) _ (and_right (is_group n) _ e))

  pub target-last : target ≤ 8
  target-last =
      let within = leb-true target n (and_right (leb 1 target) (leb target n) (and_right (is_group n) _ e)) in
      let most = leb-true n 8 (and_right (leb 1 n) (leb n 8) (and_left (is_group n) _ e)) in
      omega arith
