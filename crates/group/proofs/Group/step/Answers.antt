use Prim.Native.Nat.{◌-◌}
use mathlib.Core.Path.{ap, ◌∙◌}
use lib.ListN.{get_or, replicate, set}
use Rattle.ledger.specs.Step.{step}
use Rattle.frame.specs.Digits.{sum}
use Rattle.frame.specs.Frames.{body}
use Rattle.records.specs.declared.Did.TheVariants.{Step}
use Rattle.group.specs.Groups.{no_ledger, stepped}
use Rattle.group.proofs.Group.step.Goals as goal

pub returns : goal.returns
unfolding stepped body sum
returns c =
    let a = c.args in
    let handed = c.step-done.ensures
    ∙ ap (λ i. step (get_or a.self.ledgers i no_ledger) a.frame.now (replicate 9 0) a.postings.now) c.from-at.ensures in
    λ k. record {
      group = record { count = a.self.count; ledgers = set a.self.ledgers (c.from-at.ensures k) (handed k).state };
      did = Step a.target ((c.number.ensures ∙ ap (λ o. o.answer) handed) k) (handed k).postings;
      list = (handed k).list;
    }
