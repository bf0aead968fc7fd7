use mathlib.Core.Path.{ap, ap₂, sym, ◌∙◌}
use lib.ListN.{set}
use Rattle.ledgers.proofs.LedgerLaws.{with-at}
use Rattle.payment.proofs.PaymentLaws.{hear-at, hear-nowhere}
use Rattle.payment.proofs.Payment.hear.Goals as goal

pub returns-in-Some : goal.returns-in-Some
returns-in-Some c =
    let p = c.args.self in
    let l = c.args.ledger.0 in
    let i = c.in-Some.i in
    let place = c.in-Some.ensures in
    ap₂ (λ h ts. record { number = p.number; destinations = p.destinations; heard = h; times = ts; phase = p.phase })
    (with-at p.heard l i place c.well_formed.0.1.1.1.1.0.1)
    (ap (λ k. set p.times k c.args.time) c.from.ensures)
    ∙ sym (hear-at p l c.args.time i place)

pub returns-in_default : goal.returns-in_default
returns-in_default c = sym (hear-nowhere _ _ _ c.in_default.ensures)
