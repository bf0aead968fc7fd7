-- Reading an input in parts, wherever it is split [D1].
-- Assumes nothing.
use Rattle.std.specs.Prelude.{ℕ, ◌≤◌, ◌≡◌, List, [], ◌++◌, Bool, true, false, not, ◌&&◌, ◌||◌, eqb, ltb, length}
use Rattle.frame.specs.Frames.{kind_in}
use Rattle.records.specs.Records.{record_total}
use Rattle.day.specs.Days.{output}
use Rattle.day.specs.declared.Day.{Day}

-- the record at the start of bytes is not whole yet, and more input may come
unfoldable pub waiting : Bool → List ℕ → Bool
waiting last bytes = not last && (eqb (length bytes) 0 || ltb (length bytes) (record_total (kind_in bytes)))

-- of the bytes at hand `text` is printed, which leaves the day `after` and the bytes `rest`: whatever input comes behind them
-- (none behind the last), all that is printed is the text and then what is printed of the rest
pub record Prints (d : Day) (bytes : List ℕ) (last : Bool) (text : List ℕ) (after : Day) (rest : List ℕ) : Type 0 where
  pub whatever : (more : List ℕ) → (last ≡ true → more ≡ []) → output d (bytes ++ more) ≡ text ++ output after (rest ++ more)

-- no line is longer than this (lines/LineLaws.printed-short)
abbrev pub longest_line : ℕ
longest_line = 1024

-- what can be read is read: where the run is not over, the record at the start of the bytes is there and does not wait, and a line has
-- room, at least one byte is read
pub record Moves (d : Day) (bytes : List ℕ) (last : Bool) (room read : ℕ) : Type 0 where
  pub on : d.over ≡ false → 1 ≤ length bytes → waiting last bytes ≡ false → longest_line ≤ room → 1 ≤ read
