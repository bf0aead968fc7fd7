-- The runs that are written out: each is a run of the definition, and its logs and answers are these.
-- Assumes nothing.
use mathlib.Core.Path.{◌≡◌, refl}
use mathlib.Core.List.{[], ◌∷◌, ◌++◌}
use lib.ListN.{replicate}
use mathlib.Core.Bool.{true}
use Rattle.ledger.proofs.Computing.{computing}
use Rattle.agreement.specs.Run.{Run, after, called}
use Rattle.runs.specs.Runs.{calls_l, calls_of_three, calls_of_ties, calls_of_ties_to_the_end, table_l, table_of_three, table_of_ties}
use Rattle.runs.proofs.Checking.{any_of, every_of, is-run, is_run, lawful_table, may_all, may_call}

-- ledgers 1 and 2 post 9 before 7, as the drill prints
abbrev pub LogsL : Type 0
LogsL = ((after 2 calls_l).logs 1 ≡ 9 ∷ 7 ∷ []) × ((after 2 calls_l).logs 2 ≡ 9 ∷ 7 ∷ [])

-- stamps: 9 (2, 2), 7 (3, 2), 11 (4, 1)
abbrev pub LogsOfThree : Type 0
LogsOfThree =
    ((after 3 calls_of_three).logs 1 ≡ 7 ∷ 11 ∷ [])
    × ((after 3 calls_of_three).logs 2 ≡ 9 ∷ 7 ∷ 11 ∷ [])
    × ((after 3 calls_of_three).logs 3 ≡ 9 ∷ 11 ∷ [])

-- each ledger has a payment still proposed with own time 3, and two stamps with time 3. Ledger 1's proposal, (3, 1), is below (3, 2) and
-- (3, 3) and holds both back; ledger 2's, (3, 2), is below (3, 3) and not below (3, 1); ledger 3's is below neither. (If equal times held
-- back, all three logs would be empty; if only smaller times did, ledger 1 would have posted 9 and 11 before 7, and ledger 2 11 before 9.)
abbrev pub LogsOfTies : Type 0
LogsOfTies =
    ((after 3 calls_of_ties).logs 1 ≡ [])
    × ((after 3 calls_of_ties).logs 2 ≡ 7 ∷ [])
    × ((after 3 calls_of_ties).logs 3 ≡ 7 ∷ 9 ∷ [])

abbrev pub LogsOfTiesAtTheEnd : Type 0
LogsOfTiesAtTheEnd =
    ((after 3 calls_of_ties_to_the_end).logs 1 ≡ 7 ∷ 9 ∷ 11 ∷ [])
    × ((after 3 calls_of_ties_to_the_end).logs 2 ≡ 7 ∷ 9 ∷ 11 ∷ [])
    × ((after 3 calls_of_ties_to_the_end).logs 3 ≡ 7 ∷ 9 ∷ 11 ∷ [])

-- computed from the definitions, call by call; the answers are the newest first, and 9 was given to the retry and to the PROPOSE
-- that came once more
computed : (is_run 2 table_l calls_l ≡ true) × (is_run 3 table_of_three calls_of_three ≡ true) × LogsL × LogsOfThree
    × ((after 3 calls_of_three).answers ≡ replicate 7 0 ++ (9 ∷ replicate 6 0) ++ (9 ∷ replicate 4 0))
unfolding computing calls_l calls_of_three after called is_run may_all may_call lawful_table every_of any_of
computed = (refl, refl, (refl, refl), (refl, refl, refl), refl)

computed-ties : (is_run 3 table_of_ties calls_of_ties_to_the_end ≡ true) × LogsOfTies × LogsOfTiesAtTheEnd
unfolding computing calls_of_ties calls_of_ties_to_the_end after called is_run may_all may_call lawful_table every_of any_of
computed-ties = (refl, (refl, refl, refl), (refl, refl, refl))

pub l-is-a-run : Run 2 table_l calls_l
l-is-a-run = is-run 2 table_l calls_l computed.0

pub three-is-a-run : Run 3 table_of_three calls_of_three
three-is-a-run = is-run 3 table_of_three calls_of_three computed.1

pub l-logs : LogsL
l-logs = computed.2

pub three-logs : LogsOfThree
three-logs = computed.3

-- and so its beginning, calls_of_ties, is one
pub ties-is-a-run : Run 3 table_of_ties calls_of_ties_to_the_end
ties-is-a-run = is-run 3 table_of_ties calls_of_ties_to_the_end computed-ties.0

pub ties-logs : LogsOfTies × LogsOfTiesAtTheEnd
ties-logs = (computed-ties.1, computed-ties.2)
