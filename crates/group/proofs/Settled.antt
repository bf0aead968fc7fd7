-- No second outcome satisfies the promise of a public function of this crate.
-- Assumes nothing.
use Prim.Native.Nat.{ℕ}
use mathlib.Core.Path.{◌≡◌}
use mathlib.Core.List.{List}
use Rattle.common.proofs.Settled.{one-outcome, same-told}
use Rattle.group.specs.Groups.{Outcome, no_group, outcome, turn}
use Rattle.group.specs.declared.Group.{Group}
use Rattle.group.specs.declared.Turn.{Turn}

pub nothing-settled : (r s : Group) → r ≡ no_group → s ≡ no_group → r ≡ s
nothing-settled r s p q = one-outcome p q

-- of a turn: the group, what the record did, and the posting list to its last place
pub turn-settled : (g : Group) (bytes list : List ℕ) (r s : Turn) (b c : List ℕ)
    → outcome r b ≡ turn g bytes list → outcome s c ≡ turn g bytes list → (r ≡ s) × (b ≡ c)
turn-settled g bytes list r s b c = same-told {A = Outcome} (λ o. record { group = o.group; did = o.did }) (λ o. o.list)
