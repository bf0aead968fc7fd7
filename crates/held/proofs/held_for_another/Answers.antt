use mathlib.Core.Path.{ap, sym, ◌∙◌}
use Rattle.std.specs.Prelude.{not, ◌&&◌, eqb}
use Rattle.std.proofs.Common.{rules, tests}
use Rattle.std.proofs.lemmas.Iterator.{YieldsList-from_slice}
use Rattle.std.proofs.lemmas.Iterator.Search.{any_from_yields_List}
use Rattle.common.proofs.SearchLaws.{any-listed}
use Rattle.payment.specs.Payments.{has_proposal}
use Rattle.payment.proofs.KeptLaws.{keeps-proposes}
use Rattle.held.specs.Held.{at, is_for_another, is_number, limit, no_payment}
use Rattle.held.proofs.held_for_another.Goals as goal

pub returns : goal.returns
returns c =
    let a = c.args in
    any_from_yields_List (λ p. not (eqb p.number.0 a.number.0) && has_proposal p a.ledger.0 a.time.0) _ _ c.any.result c.any.ensures.ran
    (YieldsList-from_slice a.payments cc) (λ x b q k. search (rules, tests))
    ∙ sym
    (any-listed (is_for_another a.payments a.number.0 a.ledger.0 a.time.0) _ a.payments no_payment limit (search rules)
    (λ i h. ap (λ b. not (is_number a.payments a.number.0 i) && b) (keeps-proposes (at a.payments i) a.ledger.0 a.time.0)))
