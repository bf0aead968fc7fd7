use mathlib.Core.Path.{ap, sym, ◌∙◌}
use lib.ListN.{get_or}
use Rattle.payment.specs.Payments.{no_time}
use Rattle.payment.proofs.PaymentLaws.{time-at, time-nowhere}
use Rattle.payment.proofs.time_in.Goals as goal

pub returns-in-Some : goal.returns-in-Some
returns-in-Some c =
    let times = c.args.times in
    ap (λ i. get_or times i no_time) c.from.ensures ∙ sym (time-at times c.args.ledger.0 c.in-Some.i c.in-Some.ensures)

pub returns-in-None : goal.returns-in-None
returns-in-None c = sym (time-nowhere _ _ c.in-None.ensures)
