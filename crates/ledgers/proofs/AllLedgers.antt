-- The numbers of all ledgers, as `(1..MOST + 1).map(LedgerNo)` gives them.
-- Assumes nothing.
use Rattle.std.specs.Prelude.{ℕ, ◌≡◌, List, map}
use Rattle.std.specs.Fn.{Called}
use Rattle.std.specs.Iterator.Adapters.{map_callee, map_source}
use Rattle.std.specs.List.{range_with_len}
use Rattle.std.specs.declared.iter.Map.{Map}
use Rattle.std.specs.declared.ops.Range.{Range}
use Rattle.std.proofs.iter.Yields.{nat_range_steps}
use Rattle.std.proofs.lemmas.Iterator.{YieldsList, YieldsList-from_map, YieldsList-from_range, maps}
use Rattle.std.proofs.lemmas.Iterator.Consumers.{YieldsList-at}
use denote.Param.Members.{Mut}
use mathlib.Core.Path.{refl}
use Rattle.frame.specs.declared.LedgerNo.{LedgerNo}

abbrev pub numbered : ℕ → LedgerNo
numbered n = record { 0 = n }

-- the ledgers 1 to n
abbrev pub ledgers_to : ℕ → List LedgerNo
ledgers_to n = map numbered (range_with_len 1 n)

pub yields-ledgers : {F : Type 0} {s : Map (Range ℕ) F} (g : Mut F (ℕ × Unit {0}) LedgerNo) {f : F} {r : Range ℕ}
    → map_source s ≡ r → r ≡ record { start = 1; end = 9 }
    → map_callee s ≡ f
    → ((x : ℕ) (l : LedgerNo) (q : F) → Called g f (x, tt) l q → (q ≡ f) × (l ≡ numbered x))
    → YieldsList (maps nat_range_steps g) (λ l. l) s (ledgers_to 8)
yields-ledgers g source range callee computes =
    YieldsList-from_map g numbered (YieldsList-at source (YieldsList-from_range 1 9 8 range refl)) callee computes
