use Rattle.std.proofs.Common.{rules}
use Rattle.checked.specs.Checked.{held_right}
use Rattle.checked.proofs.held_right.Goals as goal

pub returns-then-unused_all : goal.returns-then-unused_all
unfolding held_right
returns-then-unused_all c = search rules

pub returns-else-unused_all : goal.returns-else-unused_all
unfolding held_right
returns-else-unused_all c = search rules

pub returns-else-held_pairs : goal.returns-else-held_pairs
unfolding held_right
returns-else-held_pairs c = search rules

pub returns-else-held_all : goal.returns-else-held_all
unfolding held_right
returns-else-held_all c = search rules
