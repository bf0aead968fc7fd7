-- No second outcome satisfies the promise of `read` or of `write`: the definitions `told` and `wrote`, by which the promises
-- give the numbers of the rules, take no two outcomes for one.
-- Assumes nothing.
use Prim.Native.Nat.{ℕ}
use mathlib.Core.Path.{◌≡◌, refl, ap, ap₂, sym, ◌∙◌}
use mathlib.Core.List.{List}
use native.Mathlib.Omega.{arith}
use lib.ListN.{get_or}
use Rattle.frame.specs.Frames.{Values, wrote, reading, told, values_of, writing}
use Rattle.frame.specs.declared.Frame.{Frame}
use Rattle.frame.specs.declared.Frame.TheVariants.{Multicast, Propose}
use Rattle.std.specs.Prelude.{Result, Ok, Err}
use Rattle.frame.specs.declared.NotAFrame.{NotAFrame}
use Rattle.frame.specs.declared.TooShort.{TooShort}

-- the number at a place of a frame's body
at : ℕ → Values → ℕ
at i v = get_or v.numbers i 0

pub values_one : (f g : Frame) → values_of f ≡ values_of g → f ≡ g
unfolding at
values_one (Multicast p d) (Multicast q c) e = ap₂ (λ n m. Multicast (record { 0 = n }) m) (ap (at 0) e) (ap (at 1) e)
values_one (Multicast p d) (Propose q c s t) e = let kinds = ap (λ v. v.kind) e in absurd (omega arith)
values_one (Propose p d s t) (Multicast q c) e = let kinds = ap (λ v. v.kind) e in absurd (omega arith)
values_one (Propose p d s t) (Propose q c u w) e = λ i.
    Propose (record { 0 = ap (at 0) e i }) (ap (at 1) e i) (record { 0 = ap (at 2) e i }) (record { 0 = ap (at 3) e i })

told-one : (r s : Result Frame NotAFrame) → told r ≡ told s → r ≡ s
told-one (Ok f) (Ok g) e = ap Ok (values_one f g (ap (λ o. o.frame) e))
told-one (Ok f) (Err none) e = let answers = ap (λ o. o.answer) e in absurd (omega arith)
told-one (Err none) (Ok g) e = let answers = ap (λ o. o.answer) e in absurd (omega arith)
told-one (Err none) (Err other) e = refl

wrote_one : (r s : Result ℕ TooShort) (b c : List ℕ) → wrote r b ≡ wrote s c → (r ≡ s) × (b ≡ c)
wrote_one (Ok n) (Ok m) b c e = (ap (λ o. Ok o.written) e, ap (λ o. o.buffer) e)
wrote_one (Ok n) (Err short) b c e = let answers = ap (λ o. o.answer) e in absurd (omega arith)
wrote_one (Err short) (Ok m) b c e = let answers = ap (λ o. o.answer) e in absurd (omega arith)
wrote_one (Err short) (Err other) b c e = (refl, ap (λ o. o.buffer) e)

-- what `read` promises of bytes, only one answer keeps
pub read-settled : (bytes : List ℕ) (r s : Result Frame NotAFrame) → told r ≡ reading bytes → told s ≡ reading bytes → r ≡ s
read-settled bytes r s p q = told-one r s (p ∙ sym q)

-- what `write` promises of a frame and a buffer, only one answer with one buffer keeps
pub write-settled : (frame : Frame) (buffer : List ℕ) (r s : Result ℕ TooShort) (b c : List ℕ)
    → wrote r b ≡ writing frame buffer → wrote s c ≡ writing frame buffer → (r ≡ s) × (b ≡ c)
write-settled frame buffer r s b c p q = wrote_one r s b c (p ∙ sym q)
