use mathlib.Core.Path.{refl, ap, sym, ◌∙◌}
use Rattle.std.specs.Prelude.{not}
use borrow.Author.Tests.{eq-eqb}
use Rattle.std.proofs.Common.{rules, tests}
use Rattle.std.proofs.lemmas.Iterator.{YieldsList-from_slice}
use Rattle.std.proofs.lemmas.Iterator.Search.{all_from_yields_List}
use Rattle.common.proofs.SearchLaws.{all-listed}
use Rattle.common.proofs.TestLaws.{or-go}
use Rattle.payment.specs.Payments.{stamp_of}
use Rattle.held.specs.Held.{at, limit, no_payment}
use Rattle.checked.specs.Checked.{comes_after}
use Rattle.checked.proofs.below_all.Goals as goal

pub returns : goal.returns
returns c =
    let a = c.args in
    all_from_yields_List (comes_after a.own.0 (stamp_of a.p)) _ _ c.all.result c.all.ensures.ran
    (YieldsList-from_slice a.payments cc) (λ x b q k. search (rules, tests))
    ∙ sym
    (or-go _ (ap not (eq-eqb _ _ c.if-p-ne-POSTED.false))
    ∙ all-listed (λ j. comes_after a.own.0 (stamp_of a.p) (at a.payments j)) _ a.payments no_payment limit (search rules) (λ i h. refl))
