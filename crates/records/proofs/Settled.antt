-- No second outcome satisfies the promise of a public function of this crate.
-- Assumes nothing.
use Prim.Native.Nat.{ℕ}
use mathlib.Core.Path.{◌≡◌}
use mathlib.Core.List.{List}
use mathlib.Core.Bool.{Bool}
use Rattle.common.proofs.Settled.{one-outcome}
use Rattle.std.specs.Prelude.{Option}
use Rattle.records.specs.Records.{kind_of, record_size, stops}
use Rattle.records.specs.declared.Kind.{Kind}

pub of-settled : (byte : ℕ) (r s : Option Kind) → r ≡ kind_of byte → s ≡ kind_of byte → r ≡ s
of-settled byte r s p q = one-outcome p q

pub total-settled : (kind : ℕ) (r s : Option ℕ) → r ≡ record_size kind → s ≡ record_size kind → r ≡ s
total-settled kind r s p q = one-outcome p q

pub ends-settled : (count : ℕ) (bytes : List ℕ) (r s : Bool) → r ≡ stops count bytes → s ≡ stops count bytes → r ≡ s
ends-settled count bytes r s p q = one-outcome p q
