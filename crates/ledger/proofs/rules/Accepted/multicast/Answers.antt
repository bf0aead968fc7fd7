use mathlib.Core.Path.{ap, ◌∙◌}
use Rattle.payment.specs.Payments.{hear, in_phase}
use Rattle.ledger.specs.Step.{multicast_rule}
use Rattle.ledger.proofs.StepLaws.{kept-taken, room-taken}
use Rattle.ledger.proofs.rules.Accepted.multicast.Goals as goal

pub keep-requires : goal.keep-requires
keep-requires c = (room-taken c.args.self, c.args.self.may.count)

pub returns : goal.returns
unfolding multicast_rule
returns c =
    let a = c.args.self in
    let clock = c.own_time-ledger.ensures in
    let heard = c.hear-heard.ensures ∙ (λ k. hear (a.may.payment k) a.ledger.own.0 (clock k)) in
    c.keep.ensures ∙ kept-taken a clock (ap (in_phase 1) heard)
