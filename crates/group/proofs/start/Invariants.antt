use Prim.Native.Nat.{ℕ, suc, ◌<◌}
use mathlib.Core.Path.{◌≡◌}
use lib.ListN.{length, get_or}
use Rattle.ledger.specs.State.{fresh, set_up}
use Rattle.group.proofs.start.Given as goal

abbrev pub invariant-loop-i : goal.invariant-loop-i
invariant-loop-i l =
    (length l.ledger-items ≡ 8) × ((k : ℕ) → k < l.i → get_or l.ledger-items k (fresh 0 0) ≡ (set_up l.count (suc k)).state)
