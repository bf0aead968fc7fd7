use Rattle.common.proofs.ByteLaws.{ones-bits}
use Rattle.ledgers.proofs.how_many.Goals as goal

pub returns : goal.returns
returns c = ones-bits _ c.ranges.ledgers.fits
