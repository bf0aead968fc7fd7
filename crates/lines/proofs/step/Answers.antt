use mathlib.Core.List.{map}
use mathlib.Core.Path.{refl}
use Rattle.std.proofs.Common.{rules}
use native.Mathlib.Omega.{arith}
use Rattle.lines.specs.Lines.{answer, posting, target}
use Rattle.lines.proofs.DecimalLaws.{length_digits}
use Rattle.lines.proofs.TextLaws.{length-postings, same, step_line, then, whole}
use Rattle.lines.proofs.step.Goals as goal

pub item-requires : goal.item-requires
item-requires c = omega (arith, length_digits 20 c.from.result)

pub postings-requires-clause-start : goal.postings-requires-clause-start
postings-requires-clause-start c = omega (arith, length_digits 20 c.from.result, length_digits 20 c.from-2.result)

pub close-requires : goal.close-requires
close-requires c =
    omega (arith, length_digits 20 c.from.result, length_digits 20 c.from-2.result, length-postings c.args.posted.now)

pub returns : goal.returns
returns c =
    let adds = then (then (then (then c.put.ensures c.number.ensures) c.item.ensures) c.postings.ensures) c.close.ensures.adds in
    let items = map posting c.args.posted.now in
    let done = whole refl (same (step_line (target c.from.result) (answer c.from-2.result) items) adds) in
    search (rules, done)
