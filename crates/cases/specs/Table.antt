-- The worked cases that are proved [C2], a definition for each letter and one table of them all. A frame that rule 1 sends is written out.
-- Assumes nothing.
use Rattle.std.specs.Prelude.{List, [], ◌∷◌}
use Rattle.cases.specs.Cases.{Case}
use Rattle.cases.specs.Words.{case, ledger◌gets◌⇒◌, MULTICAST◌to◌, PROPOSE◌to◌from◌time◌}
use Rattle.cases.specs.Words.{answer◌clock◌, ◌posts◌, ◌bytes◌recipients◌copies◌, ◌payment◌own-time◌stamp◌}

-- [CA] the first MULTICAST of a payment for both ledgers, byte by byte
unfoldable pub case_a : Case
case_a =
    case "A"
    (ledger 1 gets MULTICAST 7 to 3
    ⇒ answer 0 clock 1
    bytes (0x02 ∷ 0x00 ∷ 0x00 ∷ 0x00 ∷ 0x07 ∷ 0x03 ∷ 0x01 ∷ 0x00 ∷ 0x01 ∷ []) recipients 2 copies 1
    ∷ [])

-- [CB] once more
unfoldable pub case_b : Case
case_b =
    case "B"
    (ledger 1 gets MULTICAST 7 to 3 ⇒ answer 0 clock 1 bytes PROPOSE 7 to 3 from 1 time 1 recipients 2 copies 1
    ∷ ledger 1 gets MULTICAST 7 to 3 ⇒ answer 9 clock 1
    ∷ [])

-- [CC] a payment for this ledger alone is posted at once
unfoldable pub case_c : Case
case_c = case "C" (ledger 1 gets MULTICAST 7 to 1 ⇒ answer 0 clock 1 posts (7 ∷ []) ∷ [])

-- [CD] a PROPOSE before its MULTICAST
unfoldable pub case_d : Case
case_d =
    case "D"
    (ledger 1 gets PROPOSE 7 to 3 from 2 time 5 ⇒ answer 0 clock 0
    ∷ ledger 1 gets MULTICAST 7 to 3
    ⇒ answer 0 clock 5 posts (7 ∷ [])
    bytes PROPOSE 7 to 3 from 1 time 1 recipients 2 copies 1
    payment 7 own-time 1 stamp (5, 2)
    ∷ [])

-- [CE] a PROPOSE that names this ledger as its source
unfoldable pub case_e : Case
case_e = case "E" (ledger 1 gets PROPOSE 7 to 3 from 1 time 5 ⇒ answer 6 clock 0 ∷ [])

-- [CF] the bounds of a time
unfoldable pub case_f : Case
case_f =
    case "F"
    (ledger 1 gets PROPOSE 7 to 3 from 2 time 0 ⇒ answer 7 clock 0
    ∷ ledger 1 gets PROPOSE 7 to 3 from 2 time 60_000 ⇒ answer 0 clock 0
    ∷ ledger 1 gets PROPOSE 7 to 3 from 2 time 60_001 ⇒ answer 7 clock 0
    ∷ [])

-- [CG] destinations that are none, that leave this ledger out, or that go beyond the group; in either kind of frame
unfoldable pub case_g : Case
case_g =
    case "G"
    (ledger 1 gets MULTICAST 7 to 0 ⇒ answer 5 clock 0
    ∷ ledger 1 gets MULTICAST 7 to 2 ⇒ answer 5 clock 0
    ∷ ledger 1 gets MULTICAST 7 to 4 ⇒ answer 5 clock 0
    ∷ ledger 1 gets PROPOSE 7 to 0 from 2 time 5 ⇒ answer 5 clock 0
    ∷ ledger 1 gets PROPOSE 7 to 2 from 2 time 5 ⇒ answer 5 clock 0
    ∷ ledger 1 gets PROPOSE 7 to 4 from 2 time 5 ⇒ answer 5 clock 0
    ∷ [])

-- [CH] bytes that are no frame; and payment number 0 comes before its destinations
unfoldable pub case_h : Case
case_h =
    case "H"
    (ledger 1 gets [] ⇒ answer 3 clock 0
    ∷ ledger 1 gets (1 ∷ 0 ∷ 0 ∷ 0 ∷ 7 ∷ []) ⇒ answer 3 clock 0
    ∷ ledger 1 gets (1 ∷ 0 ∷ 0 ∷ 0 ∷ 7 ∷ 3 ∷ 0 ∷ []) ⇒ answer 3 clock 0
    ∷ ledger 1 gets MULTICAST 0 to 0 ⇒ answer 4 clock 0
    ∷ [])

-- [CI] another time for the same payment, the same time for another payment, and a repeat
unfoldable pub case_i : Case
case_i =
    case "I"
    (ledger 1 gets PROPOSE 7 to 3 from 2 time 5 ⇒ answer 0 clock 0
    ∷ ledger 1 gets PROPOSE 7 to 3 from 2 time 6 ⇒ answer 8 clock 0
    ∷ ledger 1 gets PROPOSE 9 to 3 from 2 time 5 ⇒ answer 8 clock 0
    ∷ ledger 1 gets PROPOSE 7 to 3 from 2 time 5 ⇒ answer 9 clock 0
    ∷ [])

-- [CJ] the clock follows a stamp to its end
unfoldable pub case_j : Case
case_j =
    case "J"
    (ledger 1 gets PROPOSE 7 to 3 from 2 time 60_000 ⇒ answer 0 clock 0
    ∷ ledger 1 gets MULTICAST 7 to 3
    ⇒ answer 0 clock 60_000 posts (7 ∷ [])
    bytes PROPOSE 7 to 3 from 1 time 1 recipients 2 copies 1
    ∷ ledger 1 gets MULTICAST 9 to 3 ⇒ answer 11 clock 60_000
    ∷ [])

-- [CL] the drill's run of two ledgers
unfoldable pub case_l : Case
case_l =
    case "L"
    (ledger 1 gets MULTICAST 7 to 3 ⇒ answer 0 clock 1 bytes PROPOSE 7 to 3 from 1 time 1 recipients 2 copies 1
    ∷ ledger 2 gets MULTICAST 9 to 3 ⇒ answer 0 clock 1 bytes PROPOSE 9 to 3 from 2 time 1 recipients 1 copies 1
    ∷ ledger 1 gets MULTICAST 9 to 3 ⇒ answer 0 clock 2 bytes PROPOSE 9 to 3 from 1 time 2 recipients 2 copies 1
    ∷ ledger 2 gets MULTICAST 7 to 3 ⇒ answer 0 clock 2 bytes PROPOSE 7 to 3 from 2 time 2 recipients 1 copies 1
    ∷ ledger 1 gets PROPOSE 7 to 3 from 2 time 2 ⇒ answer 0 clock 2
    ∷ ledger 1 gets PROPOSE 9 to 3 from 2 time 1 ⇒ answer 0 clock 2 posts (9 ∷ 7 ∷ [])
    ∷ ledger 2 gets PROPOSE 9 to 3 from 1 time 2 ⇒ answer 0 clock 2 posts (9 ∷ [])
    ∷ ledger 2 gets PROPOSE 7 to 3 from 1 time 1 ⇒ answer 0 clock 2 posts (7 ∷ [])
    ∷ [])

unfoldable pub table : List Case
table =
    case_a ∷ case_b ∷ case_c ∷ case_d ∷ case_e ∷ case_f ∷ case_g ∷ case_h ∷ case_i ∷ case_j ∷ case_l ∷ []
