-- A record does the same to the ledgers, whatever follows it.
-- Assumes nothing.
use Prim.Native.Nat.{ℕ, ◌≤◌}
use mathlib.Core.Path.{◌≡◌, refl, ap, sym, ◌∙◌}
use mathlib.Core.List.{List, ◌++◌}
use native.Mathlib.Omega.{arith}
use borrow.Author.Tests.{eqb-false, eqb-true}
use lib.Dec.{eqb}
use lib.ListN.{length}
use Rattle.common.proofs.TestLaws.{split}
use Rattle.frame.specs.Frames.{kind_in}
use Rattle.records.specs.Records.{frame_in, record_total, stops}
use Rattle.group.specs.Groups.{started, stepped, turn}
use Rattle.records.specs.declared.Did.TheVariants.{SetUp}
use Rattle.group.specs.declared.Group.{Group}
use Rattle.records.proofs.RecordLaws.{goes_some}
use Rattle.records.proofs.FollowLaws.{frame-follows, kind-follows, second-follows, stops-follows}
use Rattle.group.proofs.GroupLaws.{turn-starts, turn-steps, turn-stops}

module _ (g : Group) (bytes more list : List ℕ) (some : 1 ≤ length bytes) (whole : record_total (kind_in bytes) ≤ length bytes) where
  kind : kind_in (bytes ++ more) ≡ kind_in bytes
  kind = kind-follows bytes more some

  ends : stops g.count (bytes ++ more) ≡ stops g.count bytes
  ends = stops-follows g.count bytes more some whole

  -- whatever follows a whole record, it does the same
  pub turn-follows : turn g (bytes ++ more) list ≡ turn g bytes list
  turn-follows =
      split (stops g.count bytes)
      (λ t. turn-stops g (bytes ++ more) list (ends ∙ t) ∙ sym (turn-stops g bytes list t))
      (λ t. let two = goes_some g.count bytes t in
      let second = second-follows bytes more (omega arith) in
      split (eqb (kind_in bytes) 16)
      (λ u. let e = eqb-true (kind_in bytes) 16 u in
      turn-starts g (bytes ++ more) list (ends ∙ t) (kind ∙ e)
      ∙ ap (λ n. record { group = started n; did = SetUp n; list = list }) second
      ∙ sym (turn-starts g bytes list t e))
      (λ u. let n = eqb-false (kind_in bytes) 16 u in
      turn-steps g (bytes ++ more) list (frame_in bytes) (ends ∙ t) (λ q. n (sym kind ∙ q)) (frame-follows g.count bytes more some whole t n)
      ∙ ap (λ k. stepped g k (frame_in bytes) list) second
      ∙ sym (turn-steps g bytes list (frame_in bytes) t n refl)))
