-- `text` meets its contract: at each turn the bytes before this one are written.
-- Assumes nothing.
use lib.ListN.{take}
use Rattle.lines.specs.Standing.{Adds}
use Rattle.lines.proofs.Writer.text.Given as goal

abbrev pub invariant-loop-byte : goal.invariant-loop-byte
invariant-loop-byte l = Adds l.initial.self (take l.byte-index l.bytes) l.self
