use mathlib.Core.Path.{◌≡◌, ◌∙◌}
use lib.ListN.{length}
use Rattle.std.proofs.Common.{rules}
use Rattle.right.proofs.RightLaws.{unused-equal}
use Rattle.right.proofs.is_unused.Goals as goal

pub returns : goal.returns
returns c =
    let size : length c.args.p.times ≡ 8 = search rules in
    rw c.new_payment.ensures at c.eq.ensures ∙ unused-equal c.args.p size
