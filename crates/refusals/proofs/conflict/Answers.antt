use mathlib.Core.Path.{ap, ap₂, sym, ◌∙◌}
use mathlib.Core.Bool.{not, ◌&&◌, ◌||◌}
use lib.Dec.{eqb}
use Rattle.refusals.specs.Refusals.{conflict, payment_in, received}
use Rattle.refusals.proofs.RefusalLaws.{conflict-propose}
use Rattle.refusals.proofs.conflict.Goals as goal

pub returns-in-Propose : goal.returns-in-Propose
returns-in-Propose c =
    let a = c.args in
    let propose = c.in-Propose in
    let given = ap (λ x. (received x).destinations) propose.is in
    let another = ap₂ ◌&&◌ c.among.ensures (ap (λ t. not (eqb t.0 propose.time.0)) c.time_in.ensures) in
    ap₂ (λ d b. not (eqb a.p.destinations d) || b) (c.destinations.ensures ∙ given) (ap₂ ◌||◌ another c.held_for_another-for_another.ensures)
    ∙ conflict-propose a.payments propose.payment propose.destinations propose.source propose.time a.p
    (c.requires ∙ ap (λ x. payment_in a.payments (received x)) propose.is)
    ∙ sym (ap (λ x. conflict a.payments (received x)) propose.is)
