use mathlib.Core.Path.{refl, sym, ◌∙◌}
use Rattle.payment.specs.Payments.{hear}
use Rattle.ledger.specs.Step.{propose_rule}
use Rattle.ledger.proofs.StepLaws.{kept-taken, room-taken}
use Rattle.ledger.proofs.rules.Accepted.propose.Goals as goal

pub keep-requires : goal.keep-requires
keep-requires c = (room-taken c.args.self, c.args.self.may.count)

pub returns : goal.returns
unfolding propose_rule
returns c =
    let a = c.args.self in
    c.keep.ensures
    ∙ kept-taken a refl (c.hear.ensures ∙ (λ k. hear (a.may.payment k) (sym c.requires.0 k).0 (sym c.requires.1 k)))
