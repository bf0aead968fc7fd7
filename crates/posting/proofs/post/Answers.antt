use mathlib.Core.Path.{◌≡◌, refl, ap, sym, ◌∙◌}
use native.Mathlib.Omega.{arith}
use native.Mathlib.Numerals.{add-one}
use Rattle.held.specs.Held.{at}
use Rattle.posting.proofs.PostLaws.{first-none, numbers-few, post_at, post-done, post-found, posting-long, posting-short}
use Rattle.posting.specs.Posting.{numbers}
use native.Mathlib.Nat.{zero-add}
use lib.ListN.{length, length-set, set}
use lib.Seq.{sets}
use Rattle.std.proofs.Common.{rules}
use Rattle.posting.proofs.post.Goals as goal

pub returns-then-list-lt-HELD : goal.returns-then-list-lt-HELD
returns-then-list-lt-HELD c =
    let args = c.args in
    sym (posting-short args.payments args.own.0 _ c.if-list-lt-HELD.true)

pub loop-i-init : goal.loop-i-init
loop-i-init c =
    let args = c.args in
    (search rules, refl, c.if-list-lt-HELD.false, zero-add _, numbers-few args.payments args.own.0, refl, refl)

pub bounds-list-n : goal.bounds-list-n
bounds-list-n c =
    let own = c.args.own.0 in
    let head = c.loop-i in
    let more = ap length (post-found head.payments own head.invariant.0 c.in-Some.i (sym c.next.ensures.first ∙ c.in-Some.is)).1 in
    omega arith

pub loop-i-smaller : goal.loop-i-smaller
loop-i-smaller c =
    let own = c.args.own.0 in
    let head = c.loop-i in
    let more = ap length (post-found head.payments own head.invariant.0 c.in-Some.i (sym c.next.ensures.first ∙ c.in-Some.is)).1 in
    omega arith

pub loop-i-preserved : goal.loop-i-preserved
loop-i-preserved c =
    let own = c.args.own.0 in
    let head = c.loop-i in
    let i = c.in-Some.i in
    let step = post-found head.payments own head.invariant.0 i (sym c.next.ensures.first ∙ c.in-Some.is) in
    let more = ap length step.1 in (
      simp length-set head.invariant.0,
      simp length-set head.invariant.1,
      head.invariant.2,
      omega arith,
      head.invariant.4,
      ap (λ m. sets (set head.list head.n (at head.payments i).number.0) m (numbers (post_at head.payments i) own)) (add-one head.n)
          ∙ ap (sets head.list head.n) (sym step.1) ∙ head.invariant.5,
      step.2 ∙ head.invariant.6,
    )

pub returns : goal.returns
returns c =
    let args = c.args in
    let own = args.own.0 in
    let head = c.loop-i in
    let done = post-done head.payments own head.invariant.0 (first-none head.payments own (sym c.next.ensures.first ∙ c.in_default.is)) in
    let none = ap length done.0 in
    let count : head.n ≡ length (numbers args.payments own) = omega arith in
    (λ k. record {
      payments = (sym done.1 ∙ head.invariant.6) k;
      count = count k;
      list = (ap (sets head.list head.n) (sym done.0) ∙ head.invariant.5) k;
    })
    ∙ sym (posting-long args.payments own _ head.invariant.2)
