use mathlib.Core.Path.{refl, sym, ◌∙◌}
use Prim.Native.Nat.{suc}
use Rattle.std.proofs.Common.{rules, tests}
use Rattle.std.proofs.lemmas.Iterator.Search.{all_from_yields_List}
use Rattle.common.proofs.SearchLaws.{every-number}
use Rattle.frame.specs.declared.LedgerNo.{LedgerNo}
use Rattle.ledgers.proofs.AllLedgers.{numbered, yields-ledgers}
use mathlib.Core.Bool.{not}
use Rattle.right.proofs.RightLaws.{differ-shared, shared}
use Rattle.right.proofs.times_differ.Goals as goal

pub returns : goal.returns
returns c =
    let p = c.args.p in
    let q = c.args.q in
    let test = λ (l : LedgerNo). not (shared p q l.0) in
    all_from_yields_List test _ _ c.all.result c.all.ensures.ran
    (yields-ledgers _ c.map.ensures.source refl c.map.ensures.closure (λ x r s k. search (rules, tests)))
    (λ x b s k. search (rules, tests))
    ∙ sym (differ-shared p q ∙ every-number numbered (λ i. not (shared p q (suc i))) test 8 (λ i h. refl))
