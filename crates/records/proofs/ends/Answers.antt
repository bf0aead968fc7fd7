use mathlib.Core.Path.{ap, sym, ◌∙◌}
use Rattle.std.specs.Prelude.{not}
use Rattle.std.proofs.Common.{arith}
use Rattle.records.proofs.RecordLaws.{stops-cut, stops-set-up, stops-short, stops-step, stops-unknown, total-none, total-of}
use Rattle.records.proofs.ends.Goals as goal

pub returns-in_default : goal.returns-in_default
returns-in_default c = sym (stops-short c.args.count c.args.bytes.now c.in_default.len_below)

pub returns-in_default-of : goal.returns-in_default-of
returns-in_default-of c =
    sym (stops-unknown c.args.count c.args.bytes.now (total-none _ (sym c.of.ensures ∙ c.in_default-of.is)))

pub returns-then-bytes-total : goal.returns-then-bytes-total
returns-then-bytes-total c =
    let total = total-of _ c.in-Some.kind (sym c.of.ensures ∙ c.in-Some.is) in
    sym (stops-cut c.args.count c.args.bytes.now (omega (arith, total, c.total.ensures, c.if-bytes-total.true)))

pub returns-in-SetUp : goal.returns-in-SetUp
returns-in-SetUp c =
    ap not c.is_group.ensures
    ∙ sym (stops-set-up c.args.count c.args.bytes.now c.in-Some.kind (sym c.of.ensures ∙ c.in-Some.is)
    (omega (arith, c.total.ensures, c.if-bytes-total.false)) c.in-SetUp.is)

pub returns-in-Multicast : goal.returns-in-Multicast
returns-in-Multicast c =
    ap not c.is_ledger_of.ensures
    ∙ sym (stops-step c.args.count c.args.bytes.now c.in-Some.kind (sym c.of.ensures ∙ c.in-Some.is)
    (omega (arith, c.total.ensures, c.if-bytes-total.false)) c.in-Multicast.is)
