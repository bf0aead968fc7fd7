-- The drill's ledgers, and what a record does to them [D2 to D5, D8].
-- Assumes nothing.
use Rattle.std.specs.Prelude.{ℕ, suc, ◌-◌, List, [], cond, get_or, set, replicate, eqb}
use Rattle.common.specs.Places.{listed}
use Rattle.frame.specs.Frames.{kind_in, propose, total}
use Rattle.ledgers.specs.Ledgers.{most_ledgers}
use Rattle.ledger.specs.State.{fresh, set_up}
use Rattle.ledger.specs.Step.{step}
use Rattle.ledger.specs.declared.Ledger.{Ledger}
use Rattle.records.specs.Records.{frame_in, second_in, set_up_record, stops}
use Rattle.records.specs.declared.Did.{Did}
use Rattle.records.specs.declared.Did.TheVariants.{SetUp, Step, Stop}
use Rattle.group.specs.declared.Group.{Group}
use Rattle.group.specs.declared.Turn.{Turn}

-- [D2] N ledgers afresh; a place beyond N, whose set-up is refused, is all zero
unfoldable pub started : ℕ → Group
started n = record { count = n; ledgers = listed most_ledgers (λ i. (set_up n (suc i)).state) }

-- before any set-up
abbrev pub no_group : Group
no_group = record { count = 0; ledgers = replicate most_ledgers (fresh 0 0) }

-- what stands beyond the last place
abbrev pub no_ledger : Ledger
no_ledger = record { group = 0; own = record { 0 = 0 }; clock = record { 0 = 0 }; count = 0; payments = [] }

-- ledger `target` of a group (no target goes beyond the places)
abbrev pub ledger_of : Group → ℕ → Ledger
ledger_of g target = get_or g.ledgers (target - 1) no_ledger

-- what a record leaves: the group after it, what was done, and the whole posting list
pub record Outcome : Type 0 where
  pub group : Group
  pub did : Did
  pub list : List ℕ

-- what the code handed back, beside the posting list as it was left
abbrev pub outcome : Turn → List ℕ → Outcome
outcome r list = record { group = r.group; did = r.did; list = list }

-- [D5] a step: the target ledger is handed the frame; what it sends goes nowhere
unfoldable pub stepped : Group → ℕ → List ℕ → List ℕ → Outcome
stepped g target frame list =
    let after = step (ledger_of g target) frame (replicate (total propose.kind) 0) list in
    record {
      group = record { count = g.count; ledgers = set g.ledgers (target - 1) after.state };
      did = Step target after.answer after.postings;
      list = after.list;
    }

-- [D8] a record that ends the run leaves the ledgers and the list as they were
abbrev pub stopped : Group → List ℕ → Outcome
stopped g list = record { group = g; did = Stop; list = list }

-- what the record at the start of bytes does
unfoldable pub turn : Group → List ℕ → List ℕ → Outcome
turn g bytes list =
    cond (stops g.count bytes)
    (stopped g list)
    (cond (eqb (kind_in bytes) set_up_record.kind)
    (record { group = started (second_in bytes); did = SetUp (second_in bytes); list = list })
    (stepped g (second_in bytes) (frame_in bytes) list))
