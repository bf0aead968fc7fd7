use mathlib.Core.Path.{◌≡◌, refl, ap, sym, ◌∙◌}
use mathlib.Core.Bool.{true}
use native.Mathlib.Omega.{arith}
use Rattle.std.specs.Prelude.{Some}
use Rattle.std.proofs.Common.{rules, tests}
use Rattle.common.specs.Order.{least}
use Rattle.common.specs.Places.{any}
use Rattle.common.proofs.PlaceLaws.{any-more}
use Rattle.held.specs.Held.{at, limit}
use Rattle.posting.specs.Posting.{first_free, holds_back, is_free}
use Rattle.posting.proofs.FreeLaws.{best-more, best-skip, free-held, free_other, free-so}
use Rattle.posting.proofs.PostLaws.{first-within}
use Rattle.posting.proofs.next.Goals as goal
use Rattle.posting.proofs.next.Goals.{then-is_none_or, else-is_none_or}

pub candidates-init : goal.candidates-init
unfolding least
candidates-init c = refl

pub candidates-preserved-then-p-ne-STAMPED : goal.candidates-preserved-then-p-ne-STAMPED
candidates-preserved-then-p-ne-STAMPED c =
    let ps = c.args.payments in
    let own = c.args.own.0 in
    let i = c.candidates.i in
    c.candidates.invariant ∙ sym (best-skip ps own i (free_other ps own i c.if-p-ne-STAMPED.true))

pub loop-q-init : goal.loop-q-init
unfolding any
loop-q-init c = refl

pub candidates-preserved-then-holds_back : goal.candidates-preserved-then-holds_back
candidates-preserved-then-holds_back c =
    let ps = c.args.payments in
    let own = c.args.own.0 in
    let i = c.candidates.i in
    let stamp = c.stamp-stamp in
    c.candidates.invariant
    ∙ sym (best-skip ps own i (free-held ps own i c.loop-q.q-index stamp.result stamp.ensures (omega arith)
    (sym c.holds_back.ensures ∙ c.if-holds_back.true)))

pub loop-q-preserved : goal.loop-q-preserved
loop-q-preserved c =
    any-more (λ k. holds_back c.args.own.0 c.stamp-stamp.result (at c.args.payments k)) c.loop-q.q-index c.loop-q.invariant
    (sym c.holds_back.ensures ∙ c.if-holds_back.false)

pub candidates-preserved : goal.candidates-preserved
candidates-preserved c =
    let ps = c.args.payments in
    let own = c.args.own.0 in
    let i = c.candidates.i in
    let best = c.candidates.best in
    let stamp = c.stamp-stamp in
    let done : c.loop-q.q-index ≡ limit = omega arith in
    let free : is_free ps own i ≡ true =
    free-so ps own i stamp.result stamp.ensures c.if-p-ne-STAMPED.false (rw done at c.loop-q.invariant) in
    let more = best-more ps own i (omega arith) free best c.candidates.invariant c.is_none_or.result (search (rules, tests)) in
    elim c.if-is_none_or.branch [
      | then-is_none_or w ↦ w.best-is ∙ ap (λ s. Some (i, s)) stamp.ensures ∙ sym (rw w.if-is_none_or.true at more)
      | else-is_none_or w ↦ w.best-is ∙ sym (rw w.if-is_none_or.false at more)
    ]

pub returns-clause-within : goal.returns-clause-within
returns-clause-within c =
    let found : c.map.result ≡ first_free c.args.payments c.args.own.0 = search rules in
    rw found (first-within c.args.payments c.args.own.0)
