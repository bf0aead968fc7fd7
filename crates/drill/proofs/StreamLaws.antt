-- Laws of reading an input in parts.
-- Assumes nothing.
use Prim.Native.Nat.{ℕ, ◌+◌, ◌≤◌}
use mathlib.Core.Path.{◌≡◌, refl, ap, ap₂, sym, ◌∙◌, subst}
use mathlib.Core.List.{List, [], ◌++◌, append_assoc}
use mathlib.Core.Bool.{Bool, true, false, not, ◌&&◌, ◌||◌}
use mathlib.Core.Logic.{◌⊎◌, inl, inr}
use native.Mathlib.Omega.{arith}
use borrow.Author.Tests.{eq-eqb, eqb-false, le-ltb, ltb-false, ne_eqb}
use lib.Dec.{eqb, ltb}
use lib.ListN.{drop, length, take}
use lib.Seq.{length-take-le, sets, sets-eq, take-append-add, take-append-le, take-append_seam}
use Rattle.common.proofs.TestLaws.{and-false, and-true, or_left, or_right}
use Rattle.frame.specs.Frames.{kind_in}
use Rattle.records.specs.Records.{record_total, stops}
use Rattle.records.proofs.RecordLaws.{goes_some, goes-whole}
use Rattle.day.specs.Days.{Outcome, outcome, read}
use Rattle.day.specs.declared.Day.{Day}
use Rattle.day.specs.declared.Done.{Done}
use Rattle.day.proofs.DayLaws.{done-short}
use Rattle.day.proofs.OutputLaws.{after, read-leaves, reads_on, text}
use Rattle.drill.specs.Stream.{Prints, longest_line, waiting}

-- when a record waits
pub waits-not : (bytes : List ℕ) → waiting true bytes ≡ false
unfolding waiting
waits-not bytes = refl

module _ (last : Bool) (bytes : List ℕ) where
  pub waits-empty : length bytes ≡ 0 → waiting last bytes ≡ not last
  unfolding waiting
  waits-empty e = simp (eq-eqb _ _ e, and-true)

  pub waits-short : (length bytes ≡ 0 → ⊥) → waiting last bytes ≡ not last && ltb (length bytes) (record_total (kind_in bytes))
  unfolding waiting
  waits-short n = simp (ne_eqb _ _ n)

  pub waits-unknown : (length bytes ≡ 0 → ⊥) → record_total (kind_in bytes) ≡ 0 → waiting last bytes ≡ false
  waits-unknown n e = waits-short n ∙ simp (le-ltb (length bytes) (record_total (kind_in bytes)) (omega arith), and-false)

-- a record that does not wait is whole, or no more input comes
ready : (last : Bool) (bytes : List ℕ) → waiting last bytes ≡ false → (record_total (kind_in bytes) ≤ length bytes) ⊎ (last ≡ true)
unfolding waiting
ready true bytes e = inr refl
ready false bytes e =
    inl (ltb-false (length bytes) (record_total (kind_in bytes)) (or_right (eqb (length bytes) 0) _ e))

-- nothing is printed yet
pub nothing_yet : (d : Day) (bytes : List ℕ) (last : Bool) → Prints d bytes last [] d bytes
nothing_yet d bytes last = record { whatever = λ more none. refl }

-- the same bytes left, said otherwise
pub same_rest : {d : Day} {bytes : List ℕ} {last : Bool} {so_far : List ℕ} {day : Day} {rest other : List ℕ}
    → rest ≡ other → Prints d bytes last so_far day rest → Prints d bytes last so_far day other
same_rest {d} {bytes} {last} {so_far} {day} e p = subst (λ (l : List ℕ). Prints d bytes last so_far day l) e p

-- one pass behind another
pub follow : {d e : Day} {bytes : List ℕ} {last : Bool} {rest left : List ℕ} {f : Day} (s t : List ℕ)
    → Prints d bytes last s e rest → Prints e rest last t f left → Prints d bytes last (s ++ t) f left
follow s t p q =
    record {
      whatever = λ more none.
          p.whatever more none
          ∙ ap (λ (l : List ℕ). s ++ l) (q.whatever more none)
          ∙ sym (append_assoc s t _);
    }

-- the text of the second pass stands behind that of the first
text-behind : (out new tail : List ℕ) (printed w : ℕ) → printed ≤ length out → w ≤ length new
    → take (printed + w) (take printed out ++ (new ++ tail)) ≡ take printed out ++ take w new
text-behind out new tail printed w h fits =
    ap (λ (m : ℕ). take (m + w) (take printed out ++ (new ++ tail))) (sym (length-take-le printed out h))
    ∙ take-append-add (take printed out) (new ++ tail) w
    ∙ ap (λ (x : List ℕ). take printed out ++ x) (take-append-le w new tail fits)

pub follow-behind : {d e f : Day} {bytes : List ℕ} {last : Bool} {rest left : List ℕ} (out new tail : List ℕ) (printed w : ℕ)
    → printed ≤ length out → w ≤ length new
    → Prints d bytes last (take printed out) e rest → Prints e rest last (take w new) f left
    → Prints d bytes last (take (printed + w) (take printed out ++ (new ++ tail))) f left
follow-behind {d} {e} {f} {bytes} {last} {rest} {left} out new tail printed w h fits p q =
    subst (λ (t : List ℕ). Prints d bytes last t f left) (sym (text-behind out new tail printed w h fits))
    (follow (take printed out) (take w new) p q)

-- one record
one-record : (day : Day) (bytes : List ℕ) (last : Bool) (n : ℕ)
    → 1 ≤ length bytes → waiting last bytes ≡ false
    → (stops day.group.count bytes ≡ false → n ≡ record_total (kind_in bytes))
    → Prints day bytes last (text day bytes) (after day bytes) (drop n bytes)
one-record day bytes last n some now size =
    record { whatever = λ more none. reads_on day bytes more some (or-none more none (ready last bytes now)) n size }
  where
    or-none : (more : List ℕ) → (last ≡ true → more ≡ []) → (record_total (kind_in bytes) ≤ length bytes) ⊎ (last ≡ true)
        → (record_total (kind_in bytes) ≤ length bytes) ⊎ (more ≡ [])
    or-none more none (inl h) = inl h
    or-none more none (inr e) = inr (none e)

-- the text at the front of a buffer with room for it
text-front : (buffer t : List ℕ) → length t ≤ length buffer → take (length t) (sets buffer 0 t) ≡ t
text-front buffer t h = ap (take (length t)) (sets-eq t buffer 0 (omega arith)) ∙ take-append_seam t (drop (0 + length t) buffer)

-- one record, as the code reads it
pub one-read : (day : Day) (bytes : List ℕ) (last : Bool) (buffer new : List ℕ) (n : ℕ) (r : Done)
    → outcome r new ≡ read day bytes buffer → longest_line ≤ length buffer → 1 ≤ length bytes → waiting last bytes ≡ false
    → (1 ≤ record_total (kind_in bytes) → record_total (kind_in bytes) ≤ length bytes → n ≡ record_total (kind_in bytes))
    → Prints day bytes last (take r.written new) r.day (drop n bytes)
one-read day bytes last buffer new n r e room some now size =
    let leaves = e ∙ read-leaves day bytes buffer in
    let w : r.written ≡ length (text day bytes) = ap (λ (o : Outcome). o.written) leaves in
    let short = done-short r new day bytes buffer e in
    let front : take r.written new ≡ text day bytes =
    ap₂ take w (ap (λ (o : Outcome). o.buffer) leaves) ∙ text-front buffer (text day bytes) (omega arith) in
    subst (λ (t : List ℕ). Prints day bytes last t r.day (drop n bytes)) (sym front)
    (subst (λ (y : Day). Prints day bytes last (text day bytes) y (drop n bytes)) (sym (ap (λ (o : Outcome). o.day) leaves))
    (one-record day bytes last n some now
    (λ go. let two = goes_some day.group.count bytes go in size (omega arith) (goes-whole day.group.count bytes go))))

-- whether no record can be read
abbrev idle : Bool → ℕ → ℕ → Bool → Bool
idle over size room waits = over || (eqb size 0 || (ltb room longest_line || waits))

pub not-idle : (over : Bool) (size room : ℕ) (waits : Bool)
    → over ≡ false → 1 ≤ size → waits ≡ false → longest_line ≤ room → idle over size room waits ≡ false
not-idle over size room waits o s w r = simp (o, ne_eqb size 0 (λ z. omega arith), le-ltb room longest_line r, w)

module _ (over : Bool) (size room : ℕ) (waits : Bool) (e : idle over size room waits ≡ false) where
  pub some_left : 1 ≤ size
  some_left = let n = eqb-false size 0 (or_left (eqb size 0) _ (or_right over _ e)) in omega arith

  pub room-left : longest_line ≤ room
  room-left = ltb-false room longest_line (or_left (ltb room longest_line) waits (or_right (eqb size 0) _ (or_right over _ e)))

  pub none-waits : waits ≡ false
  none-waits = or_right (ltb room longest_line) waits (or_right (eqb size 0) _ (or_right over _ e))
