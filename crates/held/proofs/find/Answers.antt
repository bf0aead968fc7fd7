use mathlib.Core.Path.{refl, sym, ◌∙◌}
use Rattle.std.specs.Prelude.{eqb}
use Rattle.std.proofs.Common.{rules, tests}
use Rattle.std.proofs.lemmas.Iterator.{YieldsList-from_slice}
use Rattle.std.proofs.lemmas.Iterator.Search.{position_from_yields_List}
use Rattle.common.proofs.SearchLaws.{position-listed}
use Rattle.held.specs.Held.{is_number, limit, no_payment}
use Rattle.held.proofs.find.Goals as goal

pub returns : goal.returns
returns c =
    let a = c.args in
    position_from_yields_List (λ p. eqb p.number.0 a.number.0) _ _ c.position.result c.position.ensures.ran
    (YieldsList-from_slice a.payments cc) (λ x b q k. search (rules, tests))
    ∙ sym (position-listed (is_number a.payments a.number.0) _ a.payments no_payment limit (search rules) (λ i h. refl))
