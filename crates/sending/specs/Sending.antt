-- What a ledger sends for a frame that it takes, and to whom [R13, R14, R22].
-- Assumes nothing.
use Rattle.std.specs.Prelude.{ℕ, List, cond, eqb}
use Rattle.frame.specs.Frames.{writing}
use Rattle.frame.specs.declared.Frame.TheVariants.{Propose}
use Rattle.frame.specs.declared.LedgerNo.{LedgerNo}
use Rattle.frame.specs.declared.Time.{Time}
use Rattle.ledgers.specs.Ledgers.{without}
use Rattle.refusals.specs.Refusals.{is_propose}
use Rattle.refusals.specs.declared.Incoming.{Incoming}

-- [R13] all destinations but this ledger; [R22] of a PROPOSE nobody
abbrev pub recipients : ℕ → Incoming → ℕ
recipients own f = cond (is_propose f) 0 (without f.destinations own)

-- [R14] this ledger's PROPOSE, with `time` as its own time, at the front of the outgoing buffer; where nobody is to receive it, or the buffer
-- is too short for it, the buffer as it was [R4, F7]
abbrev pub written : LedgerNo → Time → Incoming → List ℕ → List ℕ
written own time f outgoing =
    cond (eqb (recipients own.0 f) 0) outgoing
    (writing (Propose f.payment f.destinations own time) outgoing).buffer
