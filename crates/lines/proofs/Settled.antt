-- No second outcome satisfies the promise of a public function of this crate.
-- Assumes nothing.
use Prim.Native.Nat.{ℕ}
use mathlib.Core.Path.{◌≡◌}
use mathlib.Core.List.{List}
use Rattle.common.proofs.Settled.{same-told}
use Rattle.records.specs.declared.Did.{Did}
use Rattle.lines.specs.Lines.{Wrote, ending, printed, writing, wrote}

-- of any line: its length, and the buffer to its last place
pub wrote-settled : (o : Wrote) (r s : ℕ) (b c : List ℕ) → wrote r b ≡ o → wrote s c ≡ o → (r ≡ s) × (b ≡ c)
wrote-settled o r s b c = same-told (λ w. w.length) (λ w. w.buffer)

pub line-settled : (did : Did) (offset : ℕ) (list buffer : List ℕ) (r s : ℕ) (b c : List ℕ)
    → wrote r b ≡ writing (printed did offset list) buffer → wrote s c ≡ writing (printed did offset list) buffer → (r ≡ s) × (b ≡ c)
line-settled did offset list buffer = wrote-settled (writing (printed did offset list) buffer)

pub end-settled : (steps : ℕ) (buffer : List ℕ) (r s : ℕ) (b c : List ℕ)
    → wrote r b ≡ writing (ending steps) buffer → wrote s c ≡ writing (ending steps) buffer → (r ≡ s) × (b ≡ c)
end-settled steps buffer = wrote-settled (writing (ending steps) buffer)
