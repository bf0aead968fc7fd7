-- `postings` meets its contract: at each turn the numbers before this one are written.
-- Assumes nothing.
use mathlib.Core.List.{◌∷◌, ◌++◌, map}
use mathlib.Core.Path.{ap, ◌∙◌}
use native.Mathlib.Omega.{arith}
use lib.ListN.{length-take, take}
use Rattle.lines.specs.Lines.{posting, spaced}
use Rattle.lines.proofs.TextLaws.{length-postings, none, same, spaced-more, then}
use Rattle.lines.proofs.Writer.postings.Goals as goal

pub loop-number-init : goal.loop-number-init
unfolding spaced
loop-number-init c = none _

pub item-requires : goal.item-requires
item-requires c =
    let before = take c.loop-number.number-index c.args.list.now in
    omega (arith, length-postings before, length-take c.loop-number.number-index c.args.list.now)

pub loop-number-preserved : goal.loop-number-preserved
loop-number-preserved c =
    let list = c.args.list.now in
    let i = c.loop-number.number-index in
    same
    (ap (λ n. spaced (map posting (take i list)) ++ (32 ∷ posting n)) c.from.ensures ∙ spaced-more posting list i (omega arith))
    (then c.loop-number.invariant c.item.ensures)
