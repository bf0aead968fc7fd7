use mathlib.Core.Path.{ap, sym, ◌∙◌}
use Prim.Native.Nat.{max}
use lib.ListN.{set}
use Rattle.payment.specs.Payments.{in_phase}
use Rattle.held.specs.Held.{at}
use Rattle.ledger.proofs.StepLaws.{stamp-not, stamp-now}
use Rattle.ledger.proofs.Ledger.stamp.Goals as goal

pub returns-then-p : goal.returns-then-p
returns-then-p c =
    let a = c.args in
    let l = a.self in
    let later = c.later-clock.ensures ∙ ap (λ s. record { 0 = max l.clock.0 s.time.0 }) c.stamp.ensures in
    (λ k. record {
      group = l.group;
      own = l.own;
      clock = later k;
      count = l.count;
      payments = set l.payments a.place (in_phase 2 (at l.payments a.place));
    })
    ∙ sym (stamp-now l a.place c.if-p.true)

pub returns-else-p : goal.returns-else-p
returns-else-p c = let a = c.args in sym (stamp-not a.self a.place c.if-p.false)
