use mathlib.Core.Path.{refl}
use Rattle.std.proofs.Common.{rules}
use native.Mathlib.Omega.{arith}
use Rattle.lines.specs.Decimal.{decimal}
use Rattle.lines.proofs.DecimalLaws.{length_digits}
use Rattle.lines.proofs.TextLaws.{named-line, same, then, whole}
use Rattle.lines.proofs.named.Goals as goal

pub close-requires : goal.close-requires
close-requires c = omega (arith, length_digits 20 c.args.n)

pub returns : goal.returns
returns c =
    let adds = then (then (then c.text.ensures c.put.ensures) c.number.ensures) c.close.ensures.adds in
    let done = whole refl (same (named-line c.args.word.now (decimal c.args.n)) adds) in
    search (rules, done)
