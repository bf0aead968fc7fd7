use Rattle.std.proofs.Common.{sym, ◌∙◌}
use Rattle.day.proofs.DayLaws.{close-end, close-over}
use Rattle.day.proofs.Day.close.Goals as goal

pub returns-then-self : goal.returns-then-self
returns-then-self c =
    let args = c.args in
    sym (close-over args.self args.out.now c.if-self.true)

pub returns : goal.returns
returns c =
    let if1 = c.if-self in
    let a = c.args in
    c.end.ensures ∙ sym (close-end a.self a.out.now if1.false)
