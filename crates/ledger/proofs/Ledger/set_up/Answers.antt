use mathlib.Core.Path.{ap, sym, ◌∙◌}
use Rattle.ledger.specs.State.{Told}
use Rattle.ledger.proofs.StateLaws.{set-up-no, set-up-so}
use Rattle.ledger.proofs.Ledger.set_up.Goals as goal

pub returns-then-not-is_ledger_of : goal.returns-then-not-is_ledger_of
returns-then-not-is_ledger_of c =
    let a = c.args in
    ap {B = Told} (λ l. record { state = l; answer = 1 }) c.nothing-self.ensures
    ∙ sym (set-up-no a.group a.own.0 (sym c.is_ledger_of.ensures ∙ c.if-not-is_ledger_of.true))

pub returns : goal.returns
returns c =
    let a = c.args in
    ap {B = Told} (λ l. record {
      state = record { group = a.group; own = a.own; clock = l.clock; count = l.count; payments = l.payments };
      answer = 0;
    }) c.nothing-self.ensures
    ∙ sym (set-up-so a.group a.own.0 (sym c.is_ledger_of.ensures ∙ c.if-not-is_ledger_of.false))
