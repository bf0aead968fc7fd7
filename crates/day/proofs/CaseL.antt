-- Case L [CL]: the whole output, as the definitions have it. (The program is run on the same records and compared.)
-- Assumes nothing.
use Rattle.std.proofs.Common.{◌≡◌, ℕ, List, [], ◌∷◌, refl}
use Rattle.ledger.proofs.Computing.{computing}
use Rattle.records.specs.Records.{frame_in, record_total, stops}
use Rattle.group.specs.Groups.{started, stepped, turn}
use Rattle.lines.specs.Decimal.{digits}
use Rattle.lines.specs.Lines.{spaced}
use Rattle.day.specs.Days.{begun, output, outputs}

-- the records, one to a line
abbrev records : List ℕ
records =
    16 ∷ 2
    ∷ 17 ∷ 1 ∷ 0 ∷ 0 ∷ 0 ∷ 7 ∷ 3
    ∷ 17 ∷ 2 ∷ 0 ∷ 0 ∷ 0 ∷ 9 ∷ 3
    ∷ 17 ∷ 1 ∷ 0 ∷ 0 ∷ 0 ∷ 9 ∷ 3
    ∷ 17 ∷ 2 ∷ 0 ∷ 0 ∷ 0 ∷ 7 ∷ 3
    ∷ 18 ∷ 1 ∷ 0 ∷ 0 ∷ 0 ∷ 7 ∷ 3 ∷ 2 ∷ 0 ∷ 2
    ∷ 18 ∷ 1 ∷ 0 ∷ 0 ∷ 0 ∷ 9 ∷ 3 ∷ 2 ∷ 0 ∷ 1
    ∷ 18 ∷ 2 ∷ 0 ∷ 0 ∷ 0 ∷ 9 ∷ 3 ∷ 1 ∷ 0 ∷ 2
    ∷ 18 ∷ 2 ∷ 0 ∷ 0 ∷ 0 ∷ 7 ∷ 3 ∷ 1 ∷ 0 ∷ 1
    ∷ []

-- the lines, one to a line
abbrev lines : List ℕ
lines =
    71 ∷ 82 ∷ 79 ∷ 85 ∷ 80 ∷ 32 ∷ 50 ∷ 10
    ∷ 76 ∷ 49 ∷ 32 ∷ 65 ∷ 48 ∷ 10
    ∷ 76 ∷ 50 ∷ 32 ∷ 65 ∷ 48 ∷ 10
    ∷ 76 ∷ 49 ∷ 32 ∷ 65 ∷ 48 ∷ 10
    ∷ 76 ∷ 50 ∷ 32 ∷ 65 ∷ 48 ∷ 10
    ∷ 76 ∷ 49 ∷ 32 ∷ 65 ∷ 48 ∷ 10
    ∷ 76 ∷ 49 ∷ 32 ∷ 65 ∷ 48 ∷ 32 ∷ 80 ∷ 57 ∷ 32 ∷ 80 ∷ 55 ∷ 10
    ∷ 76 ∷ 50 ∷ 32 ∷ 65 ∷ 48 ∷ 32 ∷ 80 ∷ 57 ∷ 10
    ∷ 76 ∷ 50 ∷ 32 ∷ 65 ∷ 48 ∷ 32 ∷ 80 ∷ 55 ∷ 10
    ∷ 69 ∷ 78 ∷ 68 ∷ 32 ∷ 56 ∷ 10
    ∷ []

pub case-l : output begun records ≡ lines
unfolding computing outputs turn stops started frame_in stepped record_total spaced digits
case-l = refl
