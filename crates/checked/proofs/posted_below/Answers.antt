use mathlib.Core.Path.{refl, sym, ◌∙◌}
use Rattle.std.proofs.Common.{rules, tests}
use Rattle.std.proofs.lemmas.Iterator.{YieldsList-from_slice}
use Rattle.std.proofs.lemmas.Iterator.Search.{all_from_yields_List}
use Rattle.common.proofs.SearchLaws.{all-listed}
use Rattle.held.specs.Held.{at, limit, no_payment}
use Rattle.checked.specs.Checked.{below_all}
use Rattle.checked.proofs.posted_below.Goals as goal

pub returns : goal.returns
returns c =
    let a = c.args in
    all_from_yields_List (below_all a.payments a.own.0) _ _ c.all.result c.all.ensures.ran
    (YieldsList-from_slice a.payments cc) (λ x b q k. search (rules, tests))
    ∙ sym
    (all-listed (λ i. below_all a.payments a.own.0 (at a.payments i)) _ a.payments no_payment limit (search rules) (λ i h. refl))
