use mathlib.Core.Path.{ap, sym, ◌∙◌}
use Rattle.std.specs.Prelude.{Err, Ok}
use Rattle.std.proofs.lemmas.Result.{err_from_is_err_and}
use Rattle.frame.specs.Frames.{told as read-told}
use Rattle.frame.proofs.FrameLaws.{told-refused}
use Rattle.refusals.specs.Refusals.{told}
use Rattle.refusals.proofs.RefusalLaws.{judge-none, judge-read}
use Rattle.refusals.proofs.judge.Goals as goal

pub returns-in_err-frame : goal.returns-in_err-frame
returns-in_err-frame c =
    let a = c.args in
    let none = told-refused a.bytes.now (read-told c.read.result) c.read.ensures (ap (λ r. (read-told r).answer) c.in_err-frame.was) in
    let exit = err_from_is_err_and c.from_residual.result c.from_residual.ensures.1 in
    ap told (exit.1 ∙ ap Err exit.2)
    ∙ sym (judge-none a.group a.own.0 a.clock.0 a.count a.payments a.bytes.now none)

pub returns-in-Ok : goal.returns-in-Ok
returns-in-Ok c =
    let a = c.args in
    let judged = c.look_up-judged in
    judge-read a.group a.own.0 a.clock.0 a.count a.payments a.bytes.now c.in_ok-frame.frame judged.result c.check.result
    c.read.ensures c.in_ok-frame.was judged.ensures c.check.ensures (Ok tt) c.in-Ok.is

pub returns-in-Err : goal.returns-in-Err
returns-in-Err c =
    let a = c.args in
    let judged = c.look_up-judged in
    judge-read a.group a.own.0 a.clock.0 a.count a.payments a.bytes.now c.in_ok-frame.frame judged.result c.check.result
    c.read.ensures c.in_ok-frame.was judged.ensures c.check.ensures (Err c.in-Err.refusal) c.in-Err.is
