use Rattle.std.specs.Prelude.{cond}
use Rattle.std.proofs.Common.{rules, tests}
use mathlib.Core.Path.{◌≡◌, refl, sym, ap, ◌∙◌}
use Rattle.common.proofs.SearchLaws.{fold-passed, folded}
use Rattle.frame.specs.declared.LedgerNo.{LedgerNo}
use Rattle.ledgers.proofs.AllLedgers.{ledgers_to, yields-ledgers}
use Rattle.ledgers.specs.Ledgers.{has}
use Rattle.payment.specs.Payments.{no_stamp, proposal}
use Rattle.payment.proofs.GreatestLaws.{greatest-listed}
use Rattle.payment.proofs.StampLaws.{higher, higher-max, order}
use Rattle.std.specs.Ordering.{ord_max}
use Rattle.payment.proofs.pick.Goals as goal

pub returns : goal.returns
returns c =
    let times = c.args.times in
    let heard = c.args.heard in
    let passes = λ (l : LedgerNo). has heard l.0 in
    let proposed = λ (l : LedgerNo). proposal times l.0 in
    folded (λ best l. cond (passes l) (higher best (proposed l)) best) _ no_stamp c.fold.result c.fold.ensures.ran
    (yields-ledgers _ c.map.ensures.source refl c.map.ensures.closure (λ x r q k. search (rules, tests)))
    (λ best x b q k.
    let given : (q ≡ _) × (b ≡ cond (passes x) (ord_max order best (proposed x)) best) = search (rules, tests) in
    (given.0, given.1 ∙ ap (λ s. cond (passes x) s best) (higher-max best (proposed x))))
    ∙ sym (greatest-listed times heard 8 ∙ fold-passed higher passes proposed no_stamp (ledgers_to 8))
