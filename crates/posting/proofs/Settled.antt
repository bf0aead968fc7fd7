-- No second outcome satisfies the promise of `post`. Every other public function here and in the crates below promises
-- `r ≡ ..` outright, which `common/Settled.one-outcome` settles as it stands.
-- Assumes nothing.
use Prim.Native.Nat.{ℕ}
use mathlib.Core.Path.{◌≡◌}
use mathlib.Core.List.{List}
use Rattle.common.proofs.Settled.{same-told}
use Rattle.payment.specs.declared.Payment.{Payment}
use Rattle.posting.specs.Posting.{Posting, left, posting}
use Rattle.posting.specs.declared.Posted.{Posted}

pub post-settled : (payments : List Payment) (own : ℕ) (list : List ℕ) (r s : Posted) (b c : List ℕ)
    → left r b ≡ posting payments own list → left s c ≡ posting payments own list → (r ≡ s) × (b ≡ c)
post-settled payments own list r s b c = same-told {A = Posting} (λ o. record { payments = o.payments; count = o.count }) (λ o. o.list)
