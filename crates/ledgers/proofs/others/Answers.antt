use mathlib.Core.Path.{sym}
use Rattle.ledgers.proofs.LedgerLaws.{without-at, without-nowhere}
use Rattle.ledgers.proofs.others.Goals as goal

pub returns-in-Some : goal.returns-in-Some
returns-in-Some c = without-at _ _ c.in-Some.i c.in-Some.ensures c.ranges.ledgers.fits

pub returns-in-None : goal.returns-in-None
returns-in-None c = sym (without-nowhere _ _ c.ranges.ledgers.fits c.in-None.ensures)
