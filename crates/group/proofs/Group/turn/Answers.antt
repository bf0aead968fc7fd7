-- A record that does not end the run: its kind is known, it is whole, and a step has a ledger.
use Prim.Native.Nat.{ℕ, ◌≤◌}
use mathlib.Core.List.{List}
use mathlib.Core.Bool.{false}
use mathlib.Core.Path.{◌≡◌, ap, sym, ◌∙◌}
use native.Mathlib.Omega.{arith}
use lib.ListN.{length}
use Rattle.frame.specs.Digits.{sum}
use Rattle.records.specs.Records.{second_in, stops}
use Rattle.group.specs.Groups.{stepped}
use Rattle.std.specs.Prelude.{Some}
use Rattle.records.specs.declared.Did.TheVariants.{SetUp as Set}
use Rattle.records.specs.declared.Kind.TheVariants.{Multicast, Propose}
use Rattle.records.proofs.RecordLaws.{goes-known, goes_some, goes-whole, total-none}
use Rattle.group.proofs.GroupLaws.{all-there, target-there, turn-multicast, turn-propose, turn-set-up, turn-stops}
use Rattle.group.proofs.Group.turn.Goals as goal

pub returns-then-ends : goal.returns-then-ends
returns-then-ends c =
    let a = c.args in
    sym (turn-stops a.self a.bytes.now a.postings.now (sym c.ends.ensures ∙ c.if-ends.true))

-- it has two bytes
two : (n : ℕ) (bytes : List ℕ) → stops n bytes ≡ false → 2 ≤ length bytes
two n bytes go =
    let some = goes_some n bytes go in
    let all = goes-whole n bytes go in
    omega arith

pub bounds-bytes-0 : goal.bounds-bytes-0
bounds-bytes-0 c = let h = two _ _ (sym c.ends.ensures ∙ c.if-ends.false) in omega arith

pub bounds-bytes-1 : goal.bounds-bytes-1
bounds-bytes-1 c = let h = two _ _ (sym c.ends.ensures ∙ c.if-ends.false) in omega arith

pub unreachable-requires : goal.unreachable-requires
unreachable-requires c =
    goes-known _ _ (sym c.ends.ensures ∙ c.if-ends.false) (total-none _ (sym c.of.ensures ∙ c.in-None.is))

pub returns-in-Some-SetUp : goal.returns-in-Some-SetUp
returns-in-Some-SetUp c =
    let a = c.args in
    let go = sym c.ends.ensures ∙ c.if-ends.false in
    let is = sym c.of.ensures ∙ c.in-Some-SetUp.is ∙ ap Some c.in-Some-SetUp.field-0-is in
    ap (λ g. record { group = g; did = Set (second_in a.bytes.now); list = a.postings.now }) c.start.ensures
    ∙ sym (turn-set-up a.self a.bytes.now a.postings.now go is)

pub frame_in-requires : goal.frame_in-requires
unfolding sum
frame_in-requires c =
    let go = sym c.ends.ensures ∙ c.if-ends.false in
    let is = sym c.of.ensures ∙ c.in-Some-Multicast.is ∙ ap Some c.in-Some-Multicast.field-0-is in
    let all = all-there c.args.self c.args.bytes.now c.args.postings.now go Multicast is in
    let some : 1 ≤ 6 = omega arith in
    (omega arith, (some, omega arith))

pub step-requires : goal.step-requires
step-requires c =
    let go = sym c.ends.ensures ∙ c.if-ends.false in
    let is = sym c.of.ensures ∙ c.in-Some-Multicast.is ∙ ap Some c.in-Some-Multicast.field-0-is in
    target-there c.args.self c.args.bytes.now c.args.postings.now go Multicast is (λ z. omega arith)

pub returns-in-Some-Multicast : goal.returns-in-Some-Multicast
unfolding sum
returns-in-Some-Multicast c =
    let a = c.args in
    let go = sym c.ends.ensures ∙ c.if-ends.false in
    let is = sym c.of.ensures ∙ c.in-Some-Multicast.is ∙ ap Some c.in-Some-Multicast.field-0-is in
    c.step.ensures
    ∙ ap (λ f. stepped a.self (second_in a.bytes.now) f a.postings.now) c.frame_in.ensures
    ∙ sym (turn-multicast a.self a.bytes.now a.postings.now go is)

pub frame_in-requires-in-Some-Propose : goal.frame_in-requires-in-Some-Propose
unfolding sum
frame_in-requires-in-Some-Propose c =
    let go = sym c.ends.ensures ∙ c.if-ends.false in
    let is = sym c.of.ensures ∙ c.in-Some-Propose.is ∙ ap Some c.in-Some-Propose.field-0-is in
    let all = all-there c.args.self c.args.bytes.now c.args.postings.now go Propose is in
    let some : 1 ≤ 9 = omega arith in
    (omega arith, (some, omega arith))

pub step-requires-in-Some-Propose : goal.step-requires-in-Some-Propose
step-requires-in-Some-Propose c =
    let go = sym c.ends.ensures ∙ c.if-ends.false in
    let is = sym c.of.ensures ∙ c.in-Some-Propose.is ∙ ap Some c.in-Some-Propose.field-0-is in
    target-there c.args.self c.args.bytes.now c.args.postings.now go Propose is (λ z. omega arith)

pub returns-in-Some-Propose : goal.returns-in-Some-Propose
unfolding sum
returns-in-Some-Propose c =
    let a = c.args in
    let go = sym c.ends.ensures ∙ c.if-ends.false in
    let is = sym c.of.ensures ∙ c.in-Some-Propose.is ∙ ap Some c.in-Some-Propose.field-0-is in
    c.step-in-Some-Propose.ensures
    ∙ ap (λ f. stepped a.self (second_in a.bytes.now) f a.postings.now) c.frame_in-in-Some-Propose.ensures
    ∙ sym (turn-propose a.self a.bytes.now a.postings.now go is)
