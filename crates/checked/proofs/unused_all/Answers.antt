use mathlib.Core.Path.{refl, sym, ◌∙◌}
use Rattle.std.proofs.Common.{rules, tests}
use Rattle.std.proofs.lemmas.Iterator.{YieldsList-from_slice}
use Rattle.std.proofs.lemmas.Iterator.Adapters.{YieldsList-from_skip}
use Rattle.std.proofs.lemmas.Iterator.Search.{all_from_yields_List}
use Rattle.common.proofs.SearchLaws.{all-from}
use Rattle.right.specs.Right.{unused}
use Rattle.held.specs.Held.{limit, no_payment}
use Rattle.checked.specs.Checked.{unused_at}
use Rattle.checked.proofs.unused_all.Goals as goal

pub returns : goal.returns
returns c =
    let a = c.args in
    all_from_yields_List unused _ _ c.all.result c.all.ensures.ran
    (YieldsList-from_skip a.count (YieldsList-from_slice a.payments cc) cc) (λ x b q k. search (rules, tests))
    ∙ sym (all-from (unused_at a.payments a.count) _ a.payments no_payment limit a.count (search rules) (λ i h. refl))
