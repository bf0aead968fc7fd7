use mathlib.Core.Path.{sym}
use Rattle.ledgers.proofs.LedgerLaws.{has-at, has-nowhere}
use Rattle.ledgers.proofs.among.Goals as goal

pub returns-in-Some : goal.returns-in-Some
returns-in-Some c = sym (has-at _ _ c.in-Some.i c.in-Some.ensures)

pub returns-in-None : goal.returns-in-None
returns-in-None c = sym (has-nowhere _ _ c.ranges.ledgers.fits c.in-None.ensures)
