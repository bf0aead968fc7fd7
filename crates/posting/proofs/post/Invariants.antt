use mathlib.Core.Path.{◌≡◌}
use Prim.Native.Nat.{◌+◌, ◌≤◌}
use Rattle.held.specs.Held.{limit}
use Rattle.posting.specs.Posting.{after_posting, numbers}
use lib.ListN.{length}
use lib.Seq.{sets}
use Rattle.posting.proofs.post.Given as goal

abbrev pub invariant-loop-i : goal.invariant-loop-i
invariant-loop-i l =
    (length l.payments ≡ limit)
    × (length l.list ≡ length l.initial.list)
    × (limit ≤ length l.initial.list)
    × (l.n + length (numbers l.payments l.own.0) ≡ length (numbers l.initial.payments l.own.0))
    × (length (numbers l.initial.payments l.own.0) ≤ limit)
    × (sets l.list l.n (numbers l.payments l.own.0) ≡ sets l.initial.list 0 (numbers l.initial.payments l.own.0))
    × (after_posting l.payments l.own.0 ≡ after_posting l.initial.payments l.own.0)

abbrev pub decreases-loop-i : goal.decreases-loop-i
decreases-loop-i l = length (numbers l.payments l.own.0)
