use mathlib.Core.Path.{◌≡◌, refl, ap, sym, ◌∙◌}
use native.Mathlib.Omega.{arith}
use Rattle.std.specs.Prelude.{ℕ, ◌||◌, length, take, leb}
use Rattle.std.specs.List.{enumerate_from, list_all}
use Rattle.std.proofs.Common.{rules, tests}
use Rattle.std.proofs.lemmas.Iterator.{YieldsList-from_slice, YieldsList-from_take}
use Rattle.std.proofs.lemmas.Iterator.Consumers.{YieldsList-from_enumerate}
use Rattle.std.proofs.lemmas.Iterator.Search.{all_from_yields_List}
use Rattle.std.proofs.lemmas.List.FromFn.{length-enumerate_from}
use Rattle.common.proofs.SearchLaws.{all-before, all-taken, get_or-numbered}
use Rattle.payment.specs.declared.Payment.{Payment}
use Rattle.right.specs.Right.{apart}
use Rattle.held.specs.Held.{at, limit, no_payment}
use Rattle.checked.specs.Checked.{paired_at}
use Rattle.checked.proofs.held_pairs.Goals as goal

pub returns : goal.returns
returns c =
    let a = c.args in
    let size : length a.payments ≡ limit = search rules in
    let test = λ (p : ℕ × Payment). list_all (apart p.1) (take p.0 a.payments) in
    all_from_yields_List test _ _ c.all.result c.all.ensures.ran
    (YieldsList-from_take a.count (YieldsList-from_enumerate (YieldsList-from_slice a.payments cc) cc) cc)
    (λ x b q k. search (rules, tests))
    ∙ sym
    (all-before (paired_at a.payments a.count apart) test (enumerate_from 0 a.payments) (0, no_payment) limit a.count
    (length-enumerate_from 0 a.payments ∙ size)
    (λ i h. let p = at a.payments i in
    ap (λ b. leb a.count i || b)
    (all-taken (λ j. apart p (at a.payments j)) (apart p) a.payments no_payment i (omega arith) (λ j l. refl)
    ∙ ap test (sym (get_or-numbered a.payments i no_payment (omega arith))))))
