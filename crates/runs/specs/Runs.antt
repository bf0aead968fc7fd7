-- Three runs [G1 to G6] written out call by call, the oldest first: case L's; one of three ledgers with overlapping destinations,
-- retries, and a PROPOSE before its MULTICAST; and one of three ledgers and three payments whose stamps all have the
-- same time.
-- Assumes nothing.
use Rattle.std.specs.Prelude.{ℕ, List, [], ◌∷◌, ◌++◌, map, reverse, replicate}
use Rattle.held.specs.Held.{limit}
use Rattle.agreement.specs.Run.{Call, Entry}
use Rattle.cases.specs.Words.{MULTICAST◌to◌, PROPOSE◌to◌from◌time◌}

infix 70 to◌ledger◌
-- a call with zeroed buffers just long enough
abbrev to◌ledger◌ : List ℕ → ℕ → Call
to bytes ledger k = record { to = k; frame = bytes; outgoing = replicate 9 0; list = replicate limit 0 }

abbrev goes : ℕ → ℕ → Entry
goes m d = record { number = m; destinations = d }

-- [CL] payments 7 and 9, both to ledgers 1 and 2
abbrev pub table_l : List Entry
table_l = goes 7 3 ∷ goes 9 3 ∷ []

unfoldable pub calls_l : List Call
calls_l =
    reverse
    (to (MULTICAST 7 to 3) ledger 1
    ∷ to (MULTICAST 9 to 3) ledger 2
    ∷ to (MULTICAST 9 to 3) ledger 1
    ∷ to (MULTICAST 7 to 3) ledger 2
    ∷ to (PROPOSE 7 to 3 from 2 time 2) ledger 1
    ∷ to (PROPOSE 9 to 3 from 2 time 1) ledger 1
    ∷ to (PROPOSE 9 to 3 from 1 time 2) ledger 2
    ∷ to (PROPOSE 7 to 3 from 1 time 1) ledger 2
    ∷ [])

-- payment 7 to ledgers 1 and 2, 9 to 2 and 3, 11 to all three
abbrev pub table_of_three : List Entry
table_of_three = goes 7 3 ∷ goes 9 6 ∷ goes 11 7 ∷ []

unfoldable pub calls_of_three : List Call
calls_of_three =
    reverse
    (to (MULTICAST 7 to 3) ledger 1
    ∷ to (PROPOSE 7 to 3 from 1 time 1) ledger 2  -- before its MULTICAST
    ∷ to (MULTICAST 9 to 6) ledger 3
    ∷ to (MULTICAST 11 to 7) ledger 2
    ∷ to (MULTICAST 7 to 3) ledger 1  -- a retry
    ∷ to (MULTICAST 9 to 6) ledger 2
    ∷ to (MULTICAST 7 to 3) ledger 2
    ∷ to (MULTICAST 11 to 7) ledger 3
    ∷ to (PROPOSE 9 to 6 from 3 time 1) ledger 2
    ∷ to (PROPOSE 9 to 6 from 2 time 2) ledger 3
    ∷ to (PROPOSE 7 to 3 from 2 time 3) ledger 1
    ∷ to (PROPOSE 7 to 3 from 2 time 3) ledger 1  -- once more
    ∷ to (MULTICAST 11 to 7) ledger 1
    ∷ to (PROPOSE 11 to 7 from 1 time 4) ledger 3
    ∷ to (PROPOSE 11 to 7 from 2 time 1) ledger 3
    ∷ to (PROPOSE 11 to 7 from 3 time 2) ledger 2
    ∷ to (PROPOSE 11 to 7 from 1 time 4) ledger 2
    ∷ to (PROPOSE 11 to 7 from 2 time 1) ledger 1
    ∷ to (PROPOSE 11 to 7 from 3 time 2) ledger 1
    ∷ [])

-- payments 7, 9 and 11, each to all three ledgers
abbrev pub table_of_ties : List Entry
table_of_ties = goes 7 7 ∷ goes 9 7 ∷ goes 11 7 ∷ []

infix 70 ledger◌gets◌
-- one ledger's calls, one after the other
abbrev ledger◌gets◌ : ℕ → List (List ℕ) → List Call
ledger k gets frames = map (λ bytes. to bytes ledger k) frames

-- 7 is proposed last at ledger 1, 9 at ledger 2 and 11 at ledger 3, so that their stamps are (3, 1), (3, 2) and (3, 3); then each ledger
-- has stamped the other two, and the one that it proposed last is still proposed there
unfoldable pub calls_of_ties : List Call
calls_of_ties =
    reverse
    (ledger 1 gets (MULTICAST 9 to 7 ∷ MULTICAST 11 to 7 ∷ MULTICAST 7 to 7 ∷ [])
    ++ ledger 2 gets (MULTICAST 7 to 7 ∷ MULTICAST 11 to 7 ∷ MULTICAST 9 to 7 ∷ [])
    ++ ledger 3 gets (MULTICAST 7 to 7 ∷ MULTICAST 9 to 7 ∷ MULTICAST 11 to 7 ∷ [])
    ++ ledger 1 gets (PROPOSE 9 to 7 from 2 time 3 ∷ PROPOSE 9 to 7 from 3 time 2 ∷ [])
    ++ ledger 1 gets (PROPOSE 11 to 7 from 2 time 2 ∷ PROPOSE 11 to 7 from 3 time 3 ∷ [])
    ++ ledger 2 gets (PROPOSE 7 to 7 from 1 time 3 ∷ PROPOSE 7 to 7 from 3 time 1 ∷ [])
    ++ ledger 2 gets (PROPOSE 11 to 7 from 1 time 2 ∷ PROPOSE 11 to 7 from 3 time 3 ∷ [])
    ++ ledger 3 gets (PROPOSE 7 to 7 from 1 time 3 ∷ PROPOSE 7 to 7 from 2 time 1 ∷ [])
    ++ ledger 3 gets (PROPOSE 9 to 7 from 1 time 1 ∷ PROPOSE 9 to 7 from 2 time 3 ∷ []))

-- the same calls, gone on with until every copy has been handed in
unfoldable pub calls_of_ties_to_the_end : List Call
calls_of_ties_to_the_end =
    reverse
    (ledger 1 gets (PROPOSE 7 to 7 from 2 time 1 ∷ PROPOSE 7 to 7 from 3 time 1 ∷ [])
    ++ ledger 2 gets (PROPOSE 9 to 7 from 1 time 1 ∷ PROPOSE 9 to 7 from 3 time 2 ∷ [])
    ++ ledger 3 gets (PROPOSE 11 to 7 from 1 time 2 ∷ PROPOSE 11 to 7 from 2 time 2 ∷ []))
    ++ calls_of_ties
