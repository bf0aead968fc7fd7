-- `postings` meets its contract: at each turn the numbers before this one are written.
-- Assumes nothing.
use mathlib.Core.List.{map}
use lib.ListN.{take}
use Rattle.lines.specs.Lines.{posting, spaced}
use Rattle.lines.specs.Standing.{Adds}
use Rattle.lines.proofs.Writer.postings.Given as goal

abbrev pub invariant-loop-number : goal.invariant-loop-number
invariant-loop-number l = Adds l.initial.self (spaced (map posting (take l.number-index l.list))) l.self
