use mathlib.Core.Path.{ap, sym, ◌∙◌}
use native.Mathlib.Omega.{arith}
use Rattle.payment.specs.Stamps.{below}
use Rattle.checked.proofs.AfterLaws.{after-other, after-proposed, after-stamped}
use Rattle.checked.proofs.comes_after.Goals as goal

pub returns-in-2 : goal.returns-in-2
returns-in-2 c =
    let a = c.args in
    c.is_below.ensures ∙ ap (below a.stamp) c.stamp.ensures ∙ sym (after-stamped a.own.0 a.stamp a.p c.in-2.is)

pub returns-in-1 : goal.returns-in-1
returns-in-1 c =
    let a = c.args in
    c.is_below-in-1.ensures ∙ ap (below a.stamp) c.proposal.ensures ∙ sym (after-proposed a.own.0 a.stamp a.p c.in-1.is)

pub returns-in_default : goal.returns-in_default
returns-in_default c =
    let a = c.args in
    sym (after-other a.own.0 a.stamp a.p (λ e. omega arith) (λ e. omega arith))
