-- What is printed of an input is what is printed of its first record and then of the rest, wherever the input is split.
-- Assumes nothing.
use Rattle.group.specs.Groups.{Outcome as Turned}
use Rattle.std.proofs.Common.{◌≡◌, ℕ, zero, suc, ◌+◌, ◌-◌, ◌≤◌, true, false, cond, eqb, ◌⊎◌, List, [], ◌++◌, length, drop, sym, refl, ap, ◌∙◌, ap₂, ⊎_elim, append-nil, arith, length-append, length-drop, eq-eqb, ne_eqb, eqb-true}
use borrow.Author.Tests.{eqb-false}
use lib.Seq.{drop-append-le, sets}
use Rattle.common.proofs.TestLaws.{both, or-true, split}
use Rattle.frame.specs.Frames.{kind_in}
use Rattle.records.specs.Records.{record_total, stops}
use Rattle.records.proofs.FollowLaws.{kind-follows}
use Rattle.group.proofs.FollowLaws.{turn-follows}
use Rattle.records.proofs.RecordLaws.{goes_some, goes-whole}
use Rattle.group.proofs.GroupLaws.{turn-stops}
use Rattle.lines.specs.Lines.{printed}
use Rattle.day.specs.Days.{counted, ends, last_line, line_for, next, output, outputs, read, steps_in, turned}
use Rattle.day.specs.declared.Day.{Day}

-- a record after which the run goes on did not end it
went_on : (d : Day) (bytes : List ℕ) → (next d bytes).over ≡ false → stops d.group.count bytes ≡ false
went_on d bytes e =
    split (stops d.group.count bytes)
    (λ t. both (ap (λ (o : Turned). ends o.did) (turn-stops d.group bytes _ t)) e)
    (λ t. t)

-- the ways through the definition
outputs-over : (k : ℕ) (d : Day) (bytes : List ℕ) → d.over ≡ true → outputs k d bytes ≡ []
unfolding outputs
outputs-over zero d bytes e = simp e
outputs-over (suc k) d bytes e = simp e

outputs-empty : (k : ℕ) (d : Day) (bytes : List ℕ) → length bytes ≡ 0 → outputs k d bytes ≡ last_line d
unfolding outputs
outputs-empty zero d bytes e = refl
outputs-empty (suc k) d bytes e = simp (eq-eqb _ _ e, or-true)

outputs-more : (k : ℕ) (d : Day) (bytes : List ℕ) → d.over ≡ false → (length bytes ≡ 0 → ⊥)
    → outputs (suc k) d bytes ≡ line_for d bytes ++ outputs k (next d bytes) (drop (record_total (kind_in bytes)) bytes)
unfolding outputs
outputs-more k d bytes e n = simp (e, ne_eqb _ _ n)

-- any number of records that is enough is as good as another
enough : (j k : ℕ) (d : Day) (bytes : List ℕ) → length bytes ≤ j → length bytes ≤ k → outputs j d bytes ≡ outputs k d bytes
enough zero k d bytes a b =
    let none : length bytes ≡ 0 = omega arith in
    outputs-empty zero d bytes none ∙ sym (outputs-empty k d bytes none)
enough (suc j) zero d bytes a b =
    let none : length bytes ≡ 0 = omega arith in
    outputs-empty (suc j) d bytes none ∙ sym (outputs-empty zero d bytes none)
enough (suc j) (suc k) d bytes a b =
    split d.over
    (λ t. outputs-over (suc j) d bytes t ∙ sym (outputs-over (suc k) d bytes t))
    (λ f. split (eqb (length bytes) 0)
    (λ z. let none = eqb-true (length bytes) 0 z in outputs-empty (suc j) d bytes none ∙ sym (outputs-empty (suc k) d bytes none))
    (λ z. let some = eqb-false (length bytes) 0 z in
    let rest = drop (record_total (kind_in bytes)) bytes in
    outputs-more j d bytes f some
    ∙ ap (λ (l : List ℕ). line_for d bytes ++ l)
    (split (next d bytes).over
    (λ t. outputs-over j (next d bytes) rest t ∙ sym (outputs-over k (next d bytes) rest t))
    (λ g. let two = goes_some d.group.count bytes (went_on d bytes g) in
    let less = length-drop (record_total (kind_in bytes)) bytes in
    enough j k (next d bytes) rest (omega arith) (omega arith)))
    ∙ sym (outputs-more k d bytes f some)))

-- the text and the day that reading a record leaves; a run that is over stays as it is
abbrev pub text : Day → List ℕ → List ℕ
text d bytes = cond d.over [] (line_for d bytes)

abbrev pub after : Day → List ℕ → Day
after d bytes = cond d.over d (next d bytes)

pub read-leaves : (d : Day) (bytes buffer : List ℕ)
    → read d bytes buffer ≡ record { day = after d bytes; written = length (text d bytes); buffer = sets buffer 0 (text d bytes) }
unfolding read
read-leaves d bytes buffer = split d.over (λ t. simp t) (λ t. simp t)

-- a record that is whole, or behind which nothing comes, is the same with what comes behind it
module _ (d : Day) (bytes more : List ℕ) (some : 1 ≤ length bytes) (ready : (record_total (kind_in bytes) ≤ length bytes) ⊎ (more ≡ [])) where
  same_bytes : more ≡ [] → bytes ++ more ≡ bytes
  same_bytes e = ap (λ (l : List ℕ). bytes ++ l) e ∙ append-nil bytes

  same-turned : turned d (bytes ++ more) ≡ turned d bytes
  same-turned =
      ⊎_elim
      (λ whole. turn-follows d.group bytes more _ some whole)
      (λ e. ap (turned d) (same_bytes e))
      ready

  same_next : next d (bytes ++ more) ≡ next d bytes
  same_next =
      ap₂ {C = Day} (λ (o : Turned) (k : ℕ). record {
        group = o.group;
        offset = counted (d.offset + record_total k);
        steps = counted (d.steps + steps_in o.did);
        over = ends o.did;
      }) same-turned (kind-follows bytes more some)

  rest-same : (n k : ℕ) → (stops d.group.count bytes ≡ false → n ≡ record_total (kind_in bytes)) → length (bytes ++ more) ≤ suc k
      → outputs k (next d bytes) (drop (record_total (kind_in (bytes ++ more))) (bytes ++ more)) ≡ output (next d bytes)
      (drop n bytes ++ more)
  rest-same n k size fits =
      split (next d bytes).over
      (λ t. outputs-over k (next d bytes) _ t ∙ sym (outputs-over (length (drop n bytes ++ more)) (next d bytes) (drop n bytes ++ more) t))
      (λ f. let go = went_on d bytes f in
      let whole = goes-whole d.group.count bytes go in
      let two = goes_some d.group.count bytes go in
      let n-is = size go in
      let cut : drop (record_total (kind_in (bytes ++ more))) (bytes ++ more) ≡ drop n bytes ++ more =
      ap (λ (m : ℕ). drop (record_total m) (bytes ++ more)) (kind-follows bytes more some)
      ∙ ap (λ (m : ℕ). drop m (bytes ++ more)) (sym n-is)
      ∙ drop-append-le n bytes more (omega arith) in
      ap (outputs k (next d bytes)) cut
      ∙ enough k (length (drop n bytes ++ more)) (next d bytes) (drop n bytes ++ more)
      (omega (arith, length-append (drop n bytes) more, length-append bytes more, length-drop n bytes)) (omega arith))

  -- the first record, and then the rest
  pub reads_on : (n : ℕ) → (stops d.group.count bytes ≡ false → n ≡ record_total (kind_in bytes))
      → output d (bytes ++ more) ≡ text d bytes ++ output (after d bytes) (drop n bytes ++ more)
  reads_on n size =
      split d.over
      (λ t. outputs-over (length (bytes ++ more)) d (bytes ++ more) t
      ∙ sym (simp t (outputs-over (length (drop n bytes ++ more)) d (drop n bytes ++ more) t)))
      (λ f. let k = length (bytes ++ more) - 1 in
      let long = length-append bytes more in
      enough (length (bytes ++ more)) (suc k) d (bytes ++ more) (omega arith) (omega arith)
      ∙ outputs-more k d (bytes ++ more) f (λ z. omega arith)
      ∙ ap₂ (λ (o : Turned) (e : Day). printed o.did d.offset o.list ++ outputs k e
      (drop (record_total (kind_in (bytes ++ more))) (bytes ++ more))) same-turned same_next
      ∙ ap (λ (l : List ℕ). line_for d bytes ++ l) (rest-same n k size (omega arith))
      ∙ sym (simp f refl))
