-- `number` calls itself at the tenth part, so its measure is the number.
-- Assumes nothing.
use Rattle.lines.proofs.Writer.+number.Given as goal

abbrev pub decreases-number : goal.decreases-number
decreases-number l = l.n
