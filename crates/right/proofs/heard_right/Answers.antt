use mathlib.Core.Path.{refl, sym, ◌∙◌}
use Prim.Native.Nat.{suc}
use Rattle.std.proofs.Common.{rules, tests}
use Rattle.std.proofs.lemmas.Iterator.Search.{all_from_yields_List}
use Rattle.common.proofs.SearchLaws.{every-number}
use Rattle.frame.specs.declared.LedgerNo.{LedgerNo}
use Rattle.ledgers.proofs.AllLedgers.{numbered, yields-ledgers}
use Rattle.right.specs.Right.{heard_right, time_right}
use Rattle.right.proofs.heard_right.Goals as goal

pub returns : goal.returns
unfolding heard_right
returns c =
    let p = c.args.p in
    let test = λ (l : LedgerNo). time_right p l.0 in
    all_from_yields_List test _ _ c.all.result c.all.ensures.ran
    (yields-ledgers _ c.map.ensures.source refl c.map.ensures.closure (λ x r q k. search (rules, tests)))
    (λ x b q k. search (rules, tests))
    ∙ sym (every-number numbered (λ i. time_right p (suc i)) test 8 (λ i h. refl))
