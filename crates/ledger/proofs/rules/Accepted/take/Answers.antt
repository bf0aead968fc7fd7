use mathlib.Core.Path.{ap, ap₂, sym, subst, ◌∙◌}
use Prim.Native.Nat.{◌<◌}
use Rattle.std.specs.Prelude.{unwrap_or}
use Rattle.sending.specs.Sending.{recipients, written}
use Rattle.held.specs.Held.{limit}
use Rattle.ledgers.specs.Ledgers.{how_many}
use Rattle.ledger.specs.Step.{post_rule, stamp_rule}
use Rattle.ledger.proofs.StepLaws.{place-taken, room-taken}
use Rattle.ledger.proofs.rules.Accepted.take.Goals as goal

pub stamp-requires : goal.stamp-requires
stamp-requires c =
    let a = c.args.self in
    subst (λ n. n < limit) (sym (c.unwrap_or-place.ensures ∙ ap (unwrap_or a.judged.place) c.from.ensures)) (room-taken a)

pub returns : goal.returns
returns c =
    let a = c.args.self in
    let place = c.unwrap_or-place.ensures ∙ ap (unwrap_or a.judged.place) c.from.ensures ∙ place-taken a in
    let stamped = c.stamp.ensures ∙ ap₂ stamp_rule c.after_hearing.ensures place in
    let settled = c.post-posted.ensures ∙ ap (λ l. post_rule l c.args.postings.now) stamped in
    let recipients = c.send-recipients.ensures.recipients ∙ ap (recipients a.ledger.own.0) c.from-2.ensures in
    let written = c.send-recipients.ensures.written
    ∙ ap₂ (λ t f. written a.ledger.own t f c.args.outgoing.now) c.own_time.ensures c.from-2.ensures in
    λ k. record {
      state = (settled k).state;
      answer = 0;
      recipients = recipients k;
      copies = (c.how_many.ensures ∙ ap how_many recipients) k;
      postings = (settled k).count;
      outgoing = written k;
      list = (settled k).list;
    }
