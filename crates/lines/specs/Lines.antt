-- What the drill prints [D6 to D10], as bytes.
-- Assumes nothing.
use Rattle.std.specs.Prelude.{ℕ, min, List, [], ◌∷◌, ◌++◌, map, length, take}
use Rattle.std.proofs.lemmas.List.Edits.{sets}
use Rattle.held.specs.Held.{limit}
use Rattle.records.specs.declared.Did.{Did}
use Rattle.records.specs.declared.Did.TheVariants.{SetUp, Step, Stop}
use Rattle.lines.specs.Decimal.{decimal}

-- the words, in ASCII: `GROUP`, `STOP`, `END`
abbrev pub group : List ℕ
group = 71 ∷ 82 ∷ 79 ∷ 85 ∷ 80 ∷ []

abbrev pub stop : List ℕ
stop = 83 ∷ 84 ∷ 79 ∷ 80 ∷ []

abbrev pub end : List ℕ
end = 69 ∷ 78 ∷ 68 ∷ []

-- [D7] a letter with a number behind it: the target, the answer, a posted payment
abbrev pub target : ℕ → List ℕ
target n = 76 ∷ decimal n

abbrev pub answer : ℕ → List ℕ
answer n = 65 ∷ decimal n

abbrev pub posting : ℕ → List ℕ
posting n = 80 ∷ decimal n

-- [D10] items, each after one space
unfoldable pub spaced : List (List ℕ) → List ℕ
spaced [] = []
spaced (item ∷ items) = 32 ∷ (item ++ spaced items)

-- [D10] a line: its items with one space between them, and byte 10 at its end
abbrev pub line_of : List ℕ → List (List ℕ) → List ℕ
line_of first others = first ++ (spaced others ++ (10 ∷ []))

-- [D6] of a set-up, the group; [D7] of a step, the target, the answer, and the posted payments, the first posted first (no step posts
-- more than the limit: posting/PostLaws.numbers-few); [D8] of a record that ends the run, where it begins
abbrev pub printed : Did → ℕ → List ℕ → List ℕ
printed (SetUp n) offset list = line_of group (decimal n ∷ [])
printed (Step ledger given postings) offset list =
    line_of (target ledger) (answer given ∷ map posting (take (min postings limit) list))
printed Stop offset list = line_of stop (decimal offset ∷ [])

-- [D9] the last line of an input that nothing has stopped: how many step records it had
abbrev pub ending : ℕ → List ℕ
ending steps = line_of end (decimal steps ∷ [])

-- what writing a line leaves: the line's length, and the whole buffer
pub record Wrote : Type 0 where
  pub length : ℕ
  pub buffer : List ℕ

abbrev pub wrote : ℕ → List ℕ → Wrote
wrote r buffer = record { length = r; buffer = buffer }

-- a line stands at the buffer's first places, as far as the buffer goes; the other places stay as they were
abbrev pub writing : List ℕ → List ℕ → Wrote
writing text buffer = record { length = length text; buffer = sets buffer 0 text }
