-- No second outcome satisfies the promise of a public function of this crate.
-- Assumes nothing.
use Rattle.std.proofs.Common.{◌≡◌, ℕ, List}
use Rattle.common.proofs.Settled.{one-outcome, same-told}
use Rattle.lines.proofs.Settled.{wrote-settled}
use Rattle.lines.specs.Lines.{wrote}
use Rattle.day.specs.Days.{Outcome, begun, close, outcome, read}
use Rattle.day.specs.declared.Day.{Day}
use Rattle.day.specs.declared.Done.{Done}

pub begin-settled : (r s : Day) → r ≡ begun → s ≡ begun → r ≡ s
begin-settled r s p q = one-outcome p q

-- of a record: the day after it, how many bytes are printed, and the buffer to its last place
pub read-settled : (d : Day) (bytes buffer : List ℕ) (r s : Done) (b c : List ℕ)
    → outcome r b ≡ read d bytes buffer → outcome s c ≡ read d bytes buffer → (r ≡ s) × (b ≡ c)
read-settled d bytes buffer r s b c = same-told {A = Outcome} (λ o. record { day = o.day; written = o.written }) (λ o. o.buffer)

pub close-settled : (d : Day) (buffer : List ℕ) (r s : ℕ) (b c : List ℕ)
    → wrote r b ≡ close d buffer → wrote s c ≡ close d buffer → (r ≡ s) × (b ≡ c)
close-settled d buffer = wrote-settled (close d buffer)
