-- The whole table of answers, in its order [A1 to A11]; the first row that applies gives the answer [T1].
-- Assumes nothing.
use Rattle.std.specs.Prelude.{ℕ, List, ◌∷◌, not, ◌||◌, length, ltb}
use Rattle.frame.specs.Frames.{propose, total}
use Rattle.held.specs.Held.{limit}
use Rattle.refusals.specs.Refusals.{Row, first_given, frame_rows, row, rows}
use Rattle.refusals.specs.declared.Incoming.{Incoming}
use Rattle.ledger.specs.Sound.{sound}
use Rattle.ledger.specs.declared.Ledger.{Ledger}

-- [A4 to A11] the rows that judge a frame's values, by what the ledger keeps
abbrev pub value_rows : Ledger → Incoming → List Row
value_rows l f = rows l.group l.own.0 l.clock.0 l.count l.payments f

-- [A1] the state is not sound; [A2] no room for a PROPOSE in the outgoing buffer, or for as many postings as can be held in the list;
-- then the rows that judge the frame [A3 to A11]
abbrev pub refusals : Ledger → List ℕ → List ℕ → List ℕ → List Row
refusals l frame outgoing list =
    row 1 (not (sound l))
    ∷ row 2 (ltb (length outgoing) (total propose.kind) || ltb (length list) limit)
    ∷ frame_rows l.group l.own.0 l.clock.0 l.count l.payments frame

-- [T1] the answer of a step
abbrev pub answer_to : Ledger → List ℕ → List ℕ → List ℕ → ℕ
answer_to l frame outgoing list = first_given (refusals l frame outgoing list)
