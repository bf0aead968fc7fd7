use mathlib.Core.Path.{ap, sym, ◌∙◌}
use lib.Dec.{ltb}
use lib.ListN.{length}
use borrow.Author.Tests.{ltb-false}
use Rattle.common.proofs.TestLaws.{or_right}
use Rattle.held.specs.Held.{limit}
use Rattle.ledger.specs.Step.{outcome}
use Rattle.ledger.proofs.JudgeLaws.{may-take, step-refused, step-short, step-taken, step-unsound}
use Rattle.ledger.proofs.Ledger.step.Goals as goal

pub returns-then-not-is_sound : goal.returns-then-not-is_sound
returns-then-not-is_sound c =
    let a = c.args in
    ap (λ r. outcome r a.outgoing.now a.postings.now) c.refuse.ensures
    ∙ sym (step-unsound a.self a.frame.now a.outgoing.now a.postings.now
    (sym c.is_sound.ensures ∙ c.if-not-is_sound.true))

pub returns-then-outgoing-postings : goal.returns-then-outgoing-postings
returns-then-outgoing-postings c =
    let a = c.args in
    ap (λ r. outcome r a.outgoing.now a.postings.now) c.refuse-then-outgoing-postings.ensures
    ∙ sym (step-short a.self a.frame.now a.outgoing.now a.postings.now
    (sym c.is_sound.ensures ∙ c.if-not-is_sound.false) c.if-outgoing-postings.true)

pub returns-in-Err : goal.returns-in-Err
returns-in-Err c =
    let a = c.args in
    let judge = c.judge in
    ap (λ r. outcome r a.outgoing.now a.postings.now) c.refuse-in-Err.ensures
    ∙ sym (step-refused a.self a.frame.now a.outgoing.now a.postings.now judge.result judge.ensures
    (sym c.is_sound.ensures ∙ c.if-not-is_sound.false) c.if-outgoing-postings.false c.in-Err.refused c.in-Err.is)

pub take-requires : goal.take-requires
take-requires c =
    let a = c.args in
    ltb-false _ _ (or_right (ltb (length a.outgoing.now) 9) (ltb (length a.postings.now) limit) c.if-outgoing-postings.false)

pub invariant_of-take : goal.invariant_of-take
invariant_of-take c =
    let a = c.args in
    record {
      may = may-take a.self a.frame.now a.outgoing.now a.postings.now c.judge.result c.judge.ensures c.in-Ok.judged c.in-Ok.is
          (sym c.is_sound.ensures ∙ c.if-not-is_sound.false);
    }

pub returns-in-Ok : goal.returns-in-Ok
returns-in-Ok c =
    let a = c.args in
    c.take.ensures
    ∙ sym (step-taken a.self a.frame.now a.outgoing.now a.postings.now c.judge.result c.judge.ensures c.in-Ok.judged c.in-Ok.is
    (sym c.is_sound.ensures ∙ c.if-not-is_sound.false) c.if-outgoing-postings.false)
