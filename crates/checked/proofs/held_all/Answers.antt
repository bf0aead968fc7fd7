use mathlib.Core.Path.{refl, sym, ◌∙◌}
use Rattle.std.proofs.Common.{rules, tests}
use Rattle.std.proofs.lemmas.Iterator.{YieldsList-from_slice, YieldsList-from_take}
use Rattle.std.proofs.lemmas.Iterator.Search.{all_from_yields_List}
use Rattle.common.proofs.SearchLaws.{all-before}
use Rattle.right.specs.Right.{right}
use Rattle.held.specs.Held.{limit, no_payment}
use Rattle.checked.specs.Checked.{held_at}
use Rattle.checked.proofs.held_all.Goals as goal

pub returns : goal.returns
returns c =
    let a = c.args in
    all_from_yields_List (right a.group a.own.0 a.clock.0) _ _ c.all.result c.all.ensures.ran
    (YieldsList-from_take a.count (YieldsList-from_slice a.payments cc) cc) (λ x b q k. search (rules, tests))
    ∙ sym
    (all-before (held_at a.payments a.count (right a.group a.own.0 a.clock.0)) _ a.payments no_payment limit a.count (search rules)
    (λ i h. refl))
