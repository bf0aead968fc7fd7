use Rattle.std.proofs.Common.{◌+◌, sym, ap, ◌∙◌}
use Rattle.group.specs.Groups.{outcome}
use Rattle.day.specs.Days.{counted}
use Rattle.day.proofs.DayLaws.{done-by-parts, read_done, read-over}
use Rattle.day.proofs.Day.read.Goals as goal

pub returns-then-self : goal.returns-then-self
returns-then-self c =
    let a = c.args in
    sym (read-over a.self a.bytes.now a.out.now c.if-self.true)

pub returns : goal.returns
returns c =
    let d = c.args.self in
    let turn = c.turn-did in
    done-by-parts d c.args.bytes.now c.args.out.now (outcome turn.result turn.new.postings) _ _ _ _ _
    turn.ensures
    (ap (λ n. counted (d.offset + n)) c.size.ensures)
    (ap (λ n. counted (d.steps + n)) c.steps_in.ensures)
    c.is_over.ensures
    c.line.ensures
    ∙ sym (read_done d c.args.bytes.now c.args.out.now c.if-self.false)
