-- One turn more: its text stands behind the text before it, and what it leaves of the rest is what is left of all.
-- Assumes nothing.
use Rattle.std.proofs.Common.{◌-◌, ◌≡◌, ap, sym, ◌∙◌, arith, rules, drop, length, take}
use borrow.Rule.Slice.PartMut.{same_len_mid}
use lib.ListN.{length-drop}
use lib.Seq.{drop-drop, take_all}
use Rattle.drill.proofs.StreamLaws.{follow-behind, same_rest}
use Rattle.drill.proofs.read_all.Goals as goal

pub loop-one-preserved : goal.loop-one-preserved
loop-one-preserved c =
    let head = c.loop-one in
    let one = c.in-Some.one in
    let input = c.args.input.now in
    let rest = take (length input - head.read) (drop head.read input) in
    let all : rest ≡ drop head.read input = take_all (length input - head.read) (drop head.read input)
    (simp length-drop (omega arith)) in
    let within = c.in-Some.ensures.within in (
      search rules,
      search rules,
      same_len_mid head.printed (length head.out - head.printed) head.out c.read_one.new.out c.read_one.auto.out ∙ head.invariant.2,
      same_rest (ap (drop one.read) all ∙ drop-drop one.read head.read input)
          (follow-behind head.out c.read_one.new.out _ head.printed one.printed (omega arith) (omega arith)
          (same_rest (sym all) head.invariant.3) c.in-Some.ensures.prints),
      λ z. absurd (omega (arith, within.0, z)),
    )
