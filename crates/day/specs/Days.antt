-- Where the drill stands in its input, and what it prints next [D6 to D9].
-- Assumes nothing.
use Rattle.group.specs.Groups.{Outcome as Turned, no_group, turn}
use Rattle.std.specs.Prelude.{ℕ, zero, suc, ◌+◌, ◌%◌, ◌^◌, Bool, true, false, cond, ◌||◌, List, [], ◌++◌, length, drop, replicate, ◌==◌}
use Rattle.frame.specs.Frames.{kind_in}
use Rattle.held.specs.Held.{limit}
use Rattle.records.specs.Records.{record_total}
use Rattle.records.specs.declared.Did.{Did}
use Rattle.records.specs.declared.Did.TheVariants.{SetUp, Step, Stop}
use Rattle.lines.specs.Lines.{Wrote, ending, printed, writing}
use Rattle.day.specs.declared.Day.{Day}
use Rattle.day.specs.declared.Done.{Done}

-- bytes and step records are counted in 64 bits (ours: no input is so long that the count goes round)
abbrev pub counted : ℕ → ℕ
counted n = n % 2 ^ 64

-- [D9] the number of step records
abbrev pub steps_in : Did → ℕ
steps_in (SetUp n) = 0
steps_in (Step target answer postings) = 1
steps_in Stop = 0

-- [D8] whether a record ends the run
abbrev pub ends : Did → Bool
ends (SetUp n) = false
ends (Step target answer postings) = false
ends Stop = true

-- the start of input: no ledger yet
abbrev pub begun : Day
begun = record { group = no_group; offset = 0; steps = 0; over = false }

-- what a record leaves: the day after it, how many bytes are printed of it, and the whole buffer that they are written to
pub record Outcome : Type 0 where
  pub day : Day
  pub written : ℕ
  pub buffer : List ℕ

-- what the code handed back, beside the buffer as it was left
abbrev pub outcome : Done → List ℕ → Outcome
outcome r buffer = record { day = r.day; written = r.written; buffer = buffer }

-- what the record at the start of bytes does to the ledgers
abbrev pub turned : Day → List ℕ → Turned
turned d bytes = turn d.group bytes (replicate limit 0)

-- [D6 to D8] the line that is printed of it
abbrev pub line_for : Day → List ℕ → List ℕ
line_for d bytes = printed (turned d bytes).did d.offset (turned d bytes).list

-- the day after it; the next record begins after its bytes (after a stop none is read)
abbrev pub next : Day → List ℕ → Day
next d bytes =
    record {
      group = (turned d bytes).group;
      offset = counted (d.offset + record_total (kind_in bytes));
      steps = counted (d.steps + steps_in (turned d bytes).did);
      over = ends (turned d bytes).did;
    }

-- the line is written to a buffer
abbrev pub done : Day → List ℕ → List ℕ → Outcome
done d bytes buffer =
    let line = writing (line_for d bytes) buffer in
    record { day = next d bytes; written = line.length; buffer = line.buffer }

-- what the record at the start of bytes leaves; a run that has ended stays as it is and prints no more
unfoldable pub read : Day → List ℕ → List ℕ → Outcome
read d bytes buffer = cond d.over (record { day = d; written = 0; buffer = buffer }) (done d bytes buffer)

-- [D9] at the end of input: nothing more where a record has ended the run; where none has, the line that tells how many steps
-- there were
abbrev pub last_line : Day → List ℕ
last_line d = cond d.over [] (ending d.steps)

unfoldable pub close : Day → List ℕ → Wrote
close d buffer = writing (last_line d) buffer

-- [D1] all that is printed from a day on: the line of each of at most k records, one behind the other, and the last line
unfoldable pub outputs : ℕ → Day → List ℕ → List ℕ
outputs zero d bytes = last_line d
outputs (suc k) d bytes =
    cond (d.over || length bytes == 0)
    (last_line d)
    (line_for d bytes ++ outputs k (next d bytes) (drop (record_total (kind_in bytes)) bytes))

-- there are not more records than bytes
abbrev pub output : Day → List ℕ → List ℕ
output d bytes = outputs (length bytes) d bytes
