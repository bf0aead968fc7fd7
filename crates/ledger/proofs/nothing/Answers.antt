use mathlib.Core.Path.{ap}
use Rattle.payment.specs.Payments.{no_time}
use Rattle.held.specs.Held.{limit}
use lib.ListN.{replicate}
use Rattle.ledger.specs.declared.Ledger.{Ledger}
use Rattle.payment.specs.declared.Payment.{Payment}
use Rattle.ledger.proofs.nothing.Goals as goal

pub returns : goal.returns
returns c = ap {B = Ledger} (λ (p : Payment). record {
  group = 0;
  own = record { 0 = 0 };
  clock = no_time;
  count = 0;
  payments = replicate limit p;
}) c.new_payment.ensures
