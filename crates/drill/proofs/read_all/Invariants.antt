-- Each record read stands behind those before it; the bytes that are left get fewer.
-- Assumes nothing.
use Rattle.std.proofs.Common.{◌≤◌, drop, length, take, ◌≡◌, ◌-◌}
use Rattle.drill.specs.Stream.{Prints}
use Rattle.drill.proofs.read_all.Given as goal

abbrev pub invariant-loop-one : goal.invariant-loop-one
invariant-loop-one l =
    (l.read ≤ length l.input) × (l.printed ≤ length l.fn.out) × (length l.out ≡ length l.fn.out)
    × Prints l.fn.begun l.input l.last (take l.printed l.out) l.day (drop l.read l.input)
    × (l.read ≡ 0 → (l.day ≡ l.fn.begun) × (l.printed ≡ 0))

abbrev pub decreases-loop-one : goal.decreases-loop-one
decreases-loop-one l = length l.input - l.read
