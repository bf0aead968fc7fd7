-- What the types of the code say of bytes and of a frame's numbers. The round trips [F4, F5] ask for it; that every value of the code
-- has it is proved in crate `tied`.
-- Assumes nothing.
use Rattle.std.specs.Prelude.{ℕ, ◌<◌, ◌^◌, List, get_or}
use Rattle.frame.specs.declared.Frame.{Frame}
use Rattle.frame.specs.declared.Frame.TheVariants.{Multicast, Propose}

-- every number of the list is a byte
abbrev pub Bytes : List ℕ → Type 0
Bytes bs = (i : ℕ) → get_or bs i 0 < 256

-- every number of the frame has room in its width
abbrev pub Typed : Frame → Type 0
Typed (Multicast payment destinations) = (payment.0 < 2 ^ 32) × (destinations < 2 ^ 8)
Typed (Propose payment destinations source time) =
    (payment.0 < 2 ^ 32) × (destinations < 2 ^ 8) × (source.0 < 2 ^ 8) × (time.0 < 2 ^ 16)
