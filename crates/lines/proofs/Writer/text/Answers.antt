-- `text` meets its contract: at each turn the bytes before this one are written.
-- Assumes nothing.
use native.Mathlib.Omega.{arith}
use mathlib.Core.Path.{sym}
use Rattle.std.proofs.lemmas.List.{take_more}
use Rattle.lines.proofs.TextLaws.{same, then}
use Rattle.lines.proofs.Writer.text.Goals as goal

pub loop-byte-preserved : goal.loop-byte-preserved
loop-byte-preserved c =
    same (sym (take_more c.args.bytes.now c.loop-byte.byte-index 0 (omega arith))) (then c.loop-byte.invariant c.put.ensures)
