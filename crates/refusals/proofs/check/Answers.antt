use mathlib.Core.Path.{◌≡◌, refl, ap, ap₂, sym, ◌∙◌}
use Rattle.std.specs.Prelude.{Some, None}
use Rattle.std.specs.Option.{is_some}
use Rattle.ledgers.specs.Ledgers.{unlawful}
use mathlib.Core.Bool.{Bool, true, false, cond, not, ◌&&◌}
use mathlib.Core.List.{List}
use native.Mathlib.Omega.{arith}
use borrow.Author.Tests.{eq-eqb, ne_eqb}
use lib.Dec.{eqb}
use lib.ListN.{drop}
use Prim.Native.Nat.{ℕ}
use Rattle.held.specs.Held.{holds, limit}
use Rattle.refusals.specs.Refusals.{Row, first_given, no_room, received, repeat, repeats, rows}
use Rattle.refusals.proofs.RefusalLaws.{repeat-in}
use Rattle.refusals.proofs.TableLaws.{give, pass}
use Rattle.refusals.proofs.check.Goals as goal
use Rattle.refusals.proofs.check.Goals.{Start, Else-payment-eq0, Else-is_unlawful, Else-bad_source, Else-bad_time, Else-conflict}
use Rattle.refusals.proofs.check.Goals.{Else-repeats, Else-is_none-from, Else-clock_at_end}

-- where the function begins, from each test that was passed
abbrev start-1 : Else-payment-eq0 → Start
start-1 c = c.before.before.before.before

abbrev start-2 : Else-is_unlawful → Start
start-2 c = start-1 c.before.before.before

abbrev start-3 : Else-bad_source → Start
start-3 c = start-2 c.before.before

abbrev start-4 : Else-bad_time → Start
start-4 c = start-3 c.before.before

abbrev start-5 : Else-conflict → Start
start-5 c = start-4 c.before.before

abbrev start-6 : Else-repeats → Start
start-6 c = start-5 c.before.before

abbrev start-7 : Else-is_none-from → Start
start-7 c = start-6 c.before.before.before.before

abbrev start-8 : Else-clock_at_end → Start
start-8 c = start-7 c.before.before

abbrev rows_at : Start → List Row
rows_at s = let a = s.args in rows a.group a.own.0 a.clock.0 a.count a.payments (received a.judged.frame)

-- the rows before this place are passed over
abbrev Past : ℕ → Start → Type 0
Past k s = first_given (rows_at s) ≡ first_given (drop k (rows_at s))

-- what the code asks of the frame's payment is what the table asks
is-repeat : (s : Start) → repeat s.args.payments (received s.args.judged.frame) ≡ repeats s.args.judged.payment (received s.args.judged.frame)
is-repeat s =
    let f = received s.args.judged.frame in
    repeat-in s.args.payments f ∙ sym (ap (λ j. repeats j.payment f) s.requires)

-- a place was found exactly where the payment is held
some-held : (b : Bool) (i : ℕ) → is_some (cond b (Some i) None) ≡ b
some-held true i = refl
some-held false i = refl

-- nothing was found, and so many are held
none-now : {b : Bool} {n count : ℕ} (r : Bool) → b ≡ not r → n ≡ count → not b && eqb count limit ≡ r && eqb n limit
none-now true e q = ap₂ (λ b m. not b && eqb m limit) e (sym q)
none-now false e q = ap₂ (λ b m. not b && eqb m limit) e (sym q)

is-full : (s : Start) → no_room s.args.count s.args.payments (received s.args.judged.frame) ≡ not (is_some s.args.judged.place) && eqb s.args.count limit
is-full s =
    let a = s.args in
    ap (λ b. not b && eqb a.count limit)
    (sym (some-held (holds a.payments (received a.judged.frame).payment.0) _) ∙ sym (ap (λ j. is_some j.place) s.requires))

past-1 : (c : Else-payment-eq0) → Past 1 (start-1 c)
past-1 c = pass 0 (rows_at (start-1 c)) (omega arith) refl (sym (ap (λ n. eqb n.0 0) c.payment.ensures) ∙ ne_eqb _ _ c.if-payment-eq0.false)

lawful : (group own : ℕ) {d e : ℕ} → d ≡ e → unlawful group own e ≡ unlawful group own d
lawful group own q = sym (ap (unlawful group own) q)

past-2 : (c : Else-is_unlawful) → Past 2 (start-2 c)
past-2 c = pass 1 (rows_at (start-2 c)) (omega arith) (past-1 c.before.before.before) (lawful c.args.group c.args.own.0 c.destinations.ensures ∙ sym c.is_unlawful.ensures ∙ c.if-is_unlawful.false)

past-3 : (c : Else-bad_source) → Past 3 (start-3 c)
past-3 c = pass 2 (rows_at (start-3 c)) (omega arith) (past-2 c.before.before) (sym c.before.bad_source.ensures ∙ c.if-bad_source.false)

past-4 : (c : Else-bad_time) → Past 4 (start-4 c)
past-4 c = pass 3 (rows_at (start-4 c)) (omega arith) (past-3 c.before.before) (sym c.before.bad_time.ensures ∙ c.if-bad_time.false)

past-5 : (c : Else-conflict) → Past 5 (start-5 c)
past-5 c = pass 4 (rows_at (start-5 c)) (omega arith) (past-4 c.before.before) (sym c.before.conflict.ensures ∙ c.if-conflict.false)

past-6 : (c : Else-repeats) → Past 6 (start-6 c)
past-6 c = pass 5 (rows_at (start-6 c)) (omega arith) (past-5 c.before.before)
    (is-repeat (start-5 c.before.before) ∙ sym c.before.repeats.ensures ∙ c.if-repeats.false)

past-7 : (c : Else-is_none-from) → Past 7 (start-7 c)
past-7 c = pass 6 (rows_at (start-7 c)) (omega arith) (past-6 c.before.before.before.before) (is-full (start-6 c.before.before.before.before) ∙ none-now c.is_none.result c.is_none.ensures c.from.ensures ∙ c.if-is_none-from.false)

past-8 : (c : Else-clock_at_end) → Past 8 (start-8 c)
past-8 c = pass 7 (rows_at (start-8 c)) (omega arith) (past-7 c.before.before) (sym c.before.clock_at_end.ensures ∙ c.if-clock_at_end.false)

pub returns-then-payment-eq0 : goal.returns-then-payment-eq0
returns-then-payment-eq0 c = sym (give 0 (rows_at c.before.before.before.before) (omega arith) refl (sym (ap (λ n. eqb n.0 0) c.payment.ensures) ∙ eq-eqb _ _ c.if-payment-eq0.true))

pub returns-then-is_unlawful : goal.returns-then-is_unlawful
returns-then-is_unlawful c = sym (give 1 (rows_at (start-1 c.before.before.before)) (omega arith) (past-1 c.before.before.before)
    (lawful c.args.group c.args.own.0 c.destinations.ensures ∙ sym c.is_unlawful.ensures ∙ c.if-is_unlawful.true))

pub returns-then-bad_source : goal.returns-then-bad_source
returns-then-bad_source c = sym (give 2 (rows_at (start-2 c.before.before)) (omega arith) (past-2 c.before.before)
    (sym c.before.bad_source.ensures ∙ c.if-bad_source.true))

pub returns-then-bad_time : goal.returns-then-bad_time
returns-then-bad_time c = sym (give 3 (rows_at (start-3 c.before.before)) (omega arith) (past-3 c.before.before)
    (sym c.before.bad_time.ensures ∙ c.if-bad_time.true))

pub returns-then-conflict : goal.returns-then-conflict
returns-then-conflict c = sym (give 4 (rows_at (start-4 c.before.before)) (omega arith) (past-4 c.before.before)
    (sym c.before.conflict.ensures ∙ c.if-conflict.true))

pub returns-then-repeats : goal.returns-then-repeats
returns-then-repeats c = sym (give 5 (rows_at (start-5 c.before.before)) (omega arith) (past-5 c.before.before)
    (is-repeat (start-5 c.before.before) ∙ sym c.before.repeats.ensures ∙ c.if-repeats.true))

pub returns-then-is_none-from : goal.returns-then-is_none-from
returns-then-is_none-from c = sym (give 6 (rows_at (start-6 c.before.before.before.before)) (omega arith) (past-6 c.before.before.before.before) (is-full (start-6 c.before.before.before.before) ∙ none-now c.is_none.result c.is_none.ensures c.from.ensures ∙ c.if-is_none-from.true))

pub returns-then-clock_at_end : goal.returns-then-clock_at_end
returns-then-clock_at_end c = sym (give 7 (rows_at (start-7 c.before.before)) (omega arith) (past-7 c.before.before)
    (sym c.before.clock_at_end.ensures ∙ c.if-clock_at_end.true))

pub returns : goal.returns
unfolding first_given
returns c = sym (past-8 c)
