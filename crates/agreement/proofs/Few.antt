-- No more payments in all than a ledger can hold: then no ledger is sent too many.
-- Assumes nothing.
use Prim.Native.Nat.{ℕ, ◌≤◌}
use mathlib.Core.List.{List}
use mathlib.Core.Bool.{Bool}
use native.Mathlib.Nat.{le_trans}
use lib.ListN.{length}
use Rattle.common.specs.Places.{count}
use Rattle.common.proofs.CountLaws.{count_most}
use Rattle.held.specs.Held.{limit}
use Rattle.agreement.specs.Run.{Call, Entry, Run, RunInAll}

pub few-in-all : (table : List Entry) → length table ≤ limit → (f : ℕ → Bool) → count (length table) f ≤ limit
few-in-all table h f = le_trans (count_most (length table) f) h

pub run-in-all : (n : ℕ) (table : List Entry) (cs : List Call) → RunInAll n table cs → Run n table cs
run-in-all n table cs r =
    let law = r.lawful in
    record {
      lawful = record {
        ledgers = law.ledgers;
        differ = law.differ;
        number = law.number;
        destinations = law.destinations;
        few = λ k. few-in-all table law.few _;
      };
      calls = r.calls;
    }
