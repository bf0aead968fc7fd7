use mathlib.Core.Path.{◌∙◌}
use mathlib.Core.Bool.{◌&&◌}
use lib.Dec.{leb}
use Rattle.payment.specs.Payments.{last_time}
use Rattle.held.specs.Held.{limit}
use Rattle.ledger.proofs.SoundLaws.{sound-checked}
use Rattle.ledger.proofs.Ledger.is_sound.Goals as goal

pub returns : goal.returns
returns c =
    let l = c.args.self in
    (λ k. (c.is_ledger_of.ensures k && (leb l.clock.0 last_time && leb (c.from.ensures k) limit))
    && (c.held_right-right.ensures k && c.none_free.ensures k))
    ∙ sound-checked l
