-- `number` meets its contract: what stands before the last digit is the tenth part in decimal.
-- Assumes nothing.
use Prim.Native.Nat.{◌/◌}
use mathlib.Core.Path.{sym}
use native.Mathlib.Omega.{arith}
use Rattle.lines.proofs.DecimalLaws.{decimal-more, digits-one, length_digits}
use Rattle.lines.proofs.TextLaws.{same, then}
use Rattle.lines.proofs.Writer.+number.Goals as goal

pub put-requires-else-n-lt10 : goal.put-requires-else-n-lt10
put-requires-else-n-lt10 t c = omega (arith, length_digits 20 (c.args.n / 10))

pub returns-then-n-lt10 : goal.returns-then-n-lt10
returns-then-n-lt10 t c = same (sym (digits-one 19 c.args.n c.if-n-lt10.true)) c.put.ensures

pub returns-else-n-lt10 : goal.returns-else-n-lt10
returns-else-n-lt10 t c =
    same (decimal-more c.args.n c.ranges.n.fits c.if-n-lt10.false) (then c.number.ensures c.put-else-n-lt10.ensures)
