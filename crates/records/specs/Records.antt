-- The drill's records [D2 to D4]: how long each is, the frame in it, and when one ends the run [D8].
-- Assumes nothing.
use Rattle.std.specs.Prelude.{ℕ, ◌+◌, Option, Some, None, List, [], ◌∷◌, Bool, not, ◌||◌, cond, length, get_or, take, drop, eqb, ltb}
use Rattle.frame.specs.Digits.{sum}
use Rattle.frame.specs.Frames.{Row, kind_in, known, multicast, propose, total_in}
use Rattle.ledgers.specs.Ledgers.{is_group, is_ledger_of}
use Rattle.records.specs.declared.Kind.{Kind}
use Rattle.records.specs.declared.Kind.TheVariants.{SetUp, Multicast, Propose}

-- [D2] kind 16: the byte behind it is N
abbrev pub set_up_record : Row
set_up_record = record { kind = 16; body = 1 ∷ [] }

-- [D3] kind 17: a target, and the body of a MULTICAST
abbrev pub multicast_record : Row
multicast_record = record { kind = 17; body = 1 ∷ multicast.body }

-- [D4] kind 18: a target, and the body of a PROPOSE
abbrev pub propose_record : Row
propose_record = record { kind = 18; body = 1 ∷ propose.body }

abbrev pub records : List Row
records = set_up_record ∷ multicast_record ∷ propose_record ∷ []

-- the row of each kind
abbrev pub row_of : Kind → Row
row_of SetUp = set_up_record
row_of Multicast = multicast_record
row_of Propose = propose_record

-- how many bytes a record of a row has
abbrev pub row_total : Row → ℕ
row_total row = 1 + sum row.body

-- the kind that a first byte stands for
unfoldable pub kind_of : ℕ → Option Kind
kind_of byte =
    cond (eqb byte set_up_record.kind)
    (Some SetUp)
    (cond (eqb byte multicast_record.kind) (Some Multicast) (cond (eqb byte propose_record.kind) (Some Propose) None))

-- how many bytes a record of a kind has; 0 where the kind is unknown
unfoldable pub record_total : ℕ → ℕ
record_total kind = cond (known records kind) (total_in records kind) 0

-- the same, where the kind is known
unfoldable pub record_size : ℕ → Option ℕ
record_size kind = cond (known records kind) (Some (record_total kind)) None

-- the byte after the kind: N, or the target ledger
abbrev pub second_in : List ℕ → ℕ
second_in bytes = get_or bytes 1 0

-- [D8] the run is over at a record of another kind, with bytes missing, with an N that is no group, or with a target that is not in the
-- group; its N, here n, is 0 before any set-up, and then no target is in it (no byte at all is a record cut before its kind; the program
-- asks only where there is a byte)
unfoldable pub stops : ℕ → List ℕ → Bool
stops n bytes =
    not (known records (kind_in bytes))
    || (ltb (length bytes) (record_total (kind_in bytes))
    || cond (eqb (kind_in bytes) set_up_record.kind) (not (is_group (second_in bytes))) (not (is_ledger_of n (second_in bytes))))

-- [D3, D4] the frame of a step record: the frame's own kind, and the body bytes after the target
abbrev pub carried : Row → List ℕ → List ℕ
carried row bytes = row.kind ∷ take (sum row.body) (drop 2 bytes)

-- the frame of a record of kind 17, or else of kind 18
unfoldable pub frame_in : List ℕ → List ℕ
frame_in bytes = cond (eqb (kind_in bytes) multicast_record.kind) (carried multicast bytes) (carried propose bytes)
