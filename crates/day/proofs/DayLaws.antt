-- Laws of a day, one for each way through the definitions.
-- Assumes nothing.
use Rattle.group.specs.Groups.{Outcome as Turned, turn}
use Rattle.std.proofs.Common.{◌≡◌, ℕ, ◌+◌, ◌≤◌, Bool, true, false, List, replicate, sym, ap, ◌∙◌, subst, arith}
use Rattle.common.proofs.TestLaws.{split}
use Rattle.frame.specs.Frames.{kind_in}
use Rattle.held.specs.Held.{limit}
use Rattle.records.specs.Records.{record_total}
use Rattle.group.specs.declared.Group.{Group}
use Rattle.lines.specs.Lines.{Wrote, ending, printed, writing, wrote}
use Rattle.lines.proofs.LineLaws.{printed-short}
use Rattle.day.specs.Days.{Outcome, close, counted, done, ends, outcome, read, steps_in}
use Rattle.day.specs.declared.Day.{Day}
use Rattle.day.specs.declared.Done.{Done}

-- what is left, from its parts
abbrev left : Group → ℕ → ℕ → Bool → Wrote → Outcome
left group offset steps over w =
    record {
      day = record { group = group; offset = offset; steps = steps; over = over };
      written = w.length;
      buffer = w.buffer;
    }

module _ (d : Day) (bytes buffer : List ℕ) where
  pub read-over : d.over ≡ true → read d bytes buffer ≡ record { day = d; written = 0; buffer = buffer }
  unfolding read
  read-over e = simp e

  pub read_done : d.over ≡ false → read d bytes buffer ≡ done d bytes buffer
  unfolding read
  read_done e = simp e

  -- the code finds the parts one after the other
  pub done-by-parts : (after : Turned) (offset steps written : ℕ) (over : Bool) (new : List ℕ)
      → after ≡ turn d.group bytes (replicate limit 0)
      → offset ≡ counted (d.offset + record_total (kind_in bytes))
      → steps ≡ counted (d.steps + steps_in after.did)
      → over ≡ ends after.did
      → wrote written new ≡ writing (printed after.did d.offset after.list) buffer
      → left after.group offset steps over (wrote written new) ≡ done d bytes buffer
  done-by-parts after offset steps written over new e o s v w =
      let end = counted (d.offset + record_total (kind_in bytes)) in
      let count = counted (d.steps + steps_in after.did) in
      ap (λ n. left after.group n steps over (wrote written new)) o
      ∙ ap (λ n. left after.group end n over (wrote written new)) s
      ∙ ap (λ t. left after.group end count t (wrote written new)) v
      ∙ ap (λ x. left after.group end count (ends after.did) x) w
      ∙ ap (λ (t : Turned). left t.group end (counted (d.steps + steps_in t.did)) (ends t.did)
      (writing (printed t.did d.offset t.list) buffer)) e

module _ (d : Day) (buffer : List ℕ) where
  pub close-over : d.over ≡ true → close d buffer ≡ record { length = 0; buffer = buffer }
  unfolding close
  close-over e = simp e

  pub close-end : d.over ≡ false → close d buffer ≡ writing (ending d.steps) buffer
  unfolding close
  close-end e = simp e

-- no record prints more than 1,024 bytes
read_short : (d : Day) (bytes buffer : List ℕ) → (read d bytes buffer).written ≤ 1024
unfolding read
read_short d bytes buffer =
    split d.over
    (λ t. simp t (omega arith))
    (λ t. let after = turn d.group bytes (replicate limit 0) in simp t (printed-short after.did d.offset after.list))

pub done-short : (r : Done) (b : List ℕ) (d : Day) (bytes buffer : List ℕ) → outcome r b ≡ read d bytes buffer → r.written ≤ 1024
done-short r b d bytes buffer e = subst (λ (o : Outcome). o.written ≤ 1024) (sym e) (read_short d bytes buffer)
