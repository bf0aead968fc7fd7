-- A whole record reads the same, whatever follows it.
-- Assumes nothing.
use Prim.Native.Nat.{ℕ, ◌+◌, ◌≤◌}
use mathlib.Core.Path.{◌≡◌, ap, ap₂, sym, ◌∙◌}
use mathlib.Core.List.{List, ◌∷◌, ◌++◌}
use mathlib.Core.Bool.{Bool, false, cond, not, ◌||◌}
use native.Mathlib.Omega.{arith}
use borrow.Author.Tests.{eqb-false, eqb-true, le-ltb}
use lib.Dec.{eqb, ltb}
use lib.ListN.{drop, length, length-append, length-drop, take, get_or-append}
use lib.Seq.{drop-append-le, take-append-le}
use Rattle.common.proofs.TestLaws.{split}
use Rattle.frame.specs.Digits.{sum}
use Rattle.frame.specs.Frames.{body, kind_in, known, multicast, propose}
use Rattle.ledgers.specs.Ledgers.{is_group, is_ledger_of}
use Rattle.records.specs.Records.{frame_in, record_total, records, second_in, stops}
use Rattle.records.proofs.RecordLaws.{frame-multicast, frame-propose, goes_some, stops-unknown, total-propose}
use Rattle.records.proofs.RecordLaws.{total-second}

-- the parts of a record, whatever follows
module _ (bytes more : List ℕ) where
  pub kind-follows : 1 ≤ length bytes → kind_in (bytes ++ more) ≡ kind_in bytes
  kind-follows h = get_or-append bytes more 0 0 (omega arith)

  pub second-follows : 2 ≤ length bytes → second_in (bytes ++ more) ≡ second_in bytes
  second-follows h = get_or-append bytes more 0 1 (omega arith)

  body-follows : (n : ℕ) → 2 + n ≤ length bytes → take n (drop 2 (bytes ++ more)) ≡ take n (drop 2 bytes)
  body-follows n h =
      ap (take n) (drop-append-le 2 bytes more (omega arith))
      ∙ take-append-le n (drop 2 bytes) more (omega (arith, length-drop 2 bytes))

-- whether a record ends the run, from its kind, the byte after it, and whether it is cut short
abbrev verdict : ℕ → ℕ → ℕ → Bool → Bool
verdict n kind second short =
    not (known records kind)
    || (short || cond (eqb kind 16) (not (is_group second)) (not (is_ledger_of n second)))

module _ (n : ℕ) (bytes more : List ℕ) (some : 1 ≤ length bytes) (whole : record_total (kind_in bytes) ≤ length bytes) where
  kind : kind_in (bytes ++ more) ≡ kind_in bytes
  kind = kind-follows bytes more some

  same_total : record_total (kind_in (bytes ++ more)) ≡ record_total (kind_in bytes)
  same_total = ap record_total kind

  neither-short : ltb (length (bytes ++ more)) (record_total (kind_in (bytes ++ more))) ≡ ltb (length bytes) (record_total (kind_in bytes))
  neither-short =
      le-ltb (length (bytes ++ more)) (record_total (kind_in (bytes ++ more))) (omega (arith, same_total, length-append bytes more))
      ∙ sym (le-ltb (length bytes) (record_total (kind_in bytes)) whole)

  pub stops-follows : stops n (bytes ++ more) ≡ stops n bytes
  unfolding stops
  stops-follows =
      split (eqb (record_total (kind_in bytes)) 0)
      (λ t. let none = eqb-true (record_total (kind_in bytes)) 0 t in stops-unknown n (bytes ++ more) (same_total ∙ none)
      ∙ sym (stops-unknown n bytes none))
      (λ t. let two = total-second (kind_in bytes) (eqb-false (record_total (kind_in bytes)) 0 t) in
      ap (λ k. verdict n k (second_in (bytes ++ more)) (ltb (length (bytes ++ more)) (record_total (kind_in (bytes ++ more))))) kind
      ∙ ap₂ (λ x y. verdict n (kind_in bytes) x y) (second-follows bytes more (omega arith)) neither-short)

  -- the frame of a step record that goes on
  pub frame-follows : stops n bytes ≡ false → (kind_in bytes ≡ 16 → ⊥) → frame_in (bytes ++ more) ≡ frame_in bytes
  unfolding record_total known body sum
  frame-follows go step =
      split (eqb (kind_in bytes) 17)
      (λ t. let e = eqb-true (kind_in bytes) 17 t in
      let seven : record_total (kind_in bytes) ≡ 7 = ap record_total e in
      frame-multicast (bytes ++ more) (kind ∙ e) ∙ ap (λ l. multicast.kind ∷ l) (body-follows bytes more 5 (omega arith))
      ∙ sym (frame-multicast bytes e))
      (λ t. let e = eqb-false (kind_in bytes) 17 t in
      let some = goes_some n bytes go in
      let ten = total-propose (kind_in bytes) step e (λ z. omega arith) in
      frame-propose (bytes ++ more) (λ q. e (sym kind ∙ q)) ∙ ap (λ l. propose.kind ∷ l) (body-follows bytes more 8 (omega arith))
      ∙ sym (frame-propose bytes e))
