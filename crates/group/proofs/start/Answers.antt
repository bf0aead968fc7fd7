-- Each place is set up when its turn comes, and so are all in the end.
-- Assumes nothing.
use Prim.Native.Nat.{ℕ, suc, ◌+◌, ◌<◌}
use mathlib.Core.Path.{◌≡◌, ap, subst, sym, ◌∙◌}
use mathlib.Core.List.{List}
use native.Mathlib.Numerals.{add-one}
use native.Mathlib.Omega.{arith}
use lib.ListN.{get_or, set}
use Rattle.std.proofs.Common.{rules}
use Rattle.std.proofs.lemmas.List.Edits.{fill_by_more}
use Rattle.ledger.specs.State.{fresh, set_up}
use Rattle.ledger.specs.declared.Ledger.{Ledger}
use Rattle.group.specs.Groups.{started}
use Rattle.group.proofs.GroupLaws.{places-all}
use Rattle.group.proofs.start.Goals as goal

pub returns : goal.returns
unfolding started
returns c =
    let head = c.loop-i in
    let count = c.args.count in
    let end : head.i ≡ 8 = omega arith in
    ap (λ (ls : List Ledger). record { count = count; ledgers = ls })
    (places-all (fresh 0 0) (λ k. (set_up count (suc k)).state) head.ledger-items 8 head.invariant.0 (rw end at head.invariant.1))

pub loop-i-preserved : goal.loop-i-preserved
loop-i-preserved c =
    let head = c.loop-i in
    let state = λ (k : ℕ). (set_up c.args.count (suc k)).state in
    let own = ap (λ d. d.state) c.set_up.ensures ∙ ap (λ n. (set_up c.args.count n).state) (add-one head.i) in (
      search rules,
      subst (λ (v : Ledger). (k : ℕ) → k < head.i + 1 → get_or (set head.ledger-items head.i v) k (fresh 0 0) ≡ state k) (sym own)
          (fill_by_more state head.ledger-items head.i (fresh 0 0) (omega arith) head.invariant.1),
    )
