use mathlib.Core.Path.{ap, ◌∙◌}
use Rattle.posting.proofs.PostLaws.{posting-written}
use Rattle.ledger.specs.Step.{post_rule}
use Rattle.ledger.proofs.Ledger.post.Goals as goal

pub returns : goal.returns
unfolding post_rule
returns c =
    let args = c.args in
    let pre = c.requires in
    let post = c.post-done in
    let l = args.self in
    ap (λ p. record {
      state = record { group = l.group; own = l.own; clock = l.clock; count = l.count; payments = p.payments };
      count = p.count;
      list = p.list;
    }) (post.ensures ∙ posting-written l.payments l.own.0 args.list.now (pre))
