use mathlib.Core.Path.{ap, sym, ◌∙◌}
use Rattle.frame.proofs.FrameLaws.{wrote-buffer}
use Rattle.sending.proofs.SendLaws.{recipients-none, recipients-others, written_none, written-some}
use Rattle.sending.proofs.send.Goals as goal

pub returns-then-f-eq-PROPOSE : goal.returns-then-f-eq-PROPOSE
returns-then-f-eq-PROPOSE c =
    let a = c.args in
    let none = recipients-none a.own a.f c.if-f-eq-PROPOSE.true in
    record { recipients = sym none; written = sym (written_none a.own a.f a.time a.outgoing.now none) }

pub returns-then-recipients-ne0 : goal.returns-then-recipients-ne0
returns-then-recipients-ne0 c =
    let write = c.write in
    let others = c.others-recipients in
    let a = c.args in
    let given = others.ensures ∙ sym (recipients-others a.own a.f c.if-f-eq-PROPOSE.false) in
    record {
      recipients = given;
      written = sym (wrote-buffer write.result write.new.buffer)
          ∙ ap (λ w. w.buffer) write.ensures
          ∙ sym (written-some a.own a.f a.time a.outgoing.now (λ z. c.if-recipients-ne0.true (given ∙ z)));
    }

pub returns-else-recipients-ne0 : goal.returns-else-recipients-ne0
returns-else-recipients-ne0 c =
    let a = c.args in
    let given = c.others-recipients.ensures ∙ sym (recipients-others a.own a.f c.if-f-eq-PROPOSE.false) in
    record {
      recipients = given;
      written = sym (written_none a.own a.f a.time a.outgoing.now (sym given ∙ c.if-recipients-ne0.false));
    }
