use Rattle.std.proofs.Common.{rules}
use Rattle.posting.specs.Posting.{holds_back}
use Rattle.posting.proofs.holds_back.Goals as goal

pub returns-then-p-eq-PROPOSED : goal.returns-then-p-eq-PROPOSED
unfolding holds_back
returns-then-p-eq-PROPOSED c = search rules

pub returns-else-p-eq-PROPOSED : goal.returns-else-p-eq-PROPOSED
unfolding holds_back
returns-else-p-eq-PROPOSED c = search rules
