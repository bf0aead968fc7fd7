use native.Mathlib.Omega.{arith}
use Prim.Native.Nat.{ℕ, ◌<◌}
use mathlib.Core.Path.{◌≡◌, ap, ◌∙◌, subst, sym}
use mathlib.Core.List.{List}
use Rattle.std.proofs.lemmas.List.{map-id}
use denote.Array.{each}
use denote.Shadow.{shadow}
use mir.Val.{Val}
use lib.ListN.{length}
use Rattle.held.specs.Held.{at, limit, no_payment}
use Rattle.ledger.specs.Sound.{sound}
use Rattle.soundness.specs.Shaped.{Shaped}
use Rattle.soundness.proofs.Steps.{step-sound}
use Rattle.payment.specs.declared.Payment.{Payment}
use Rattle.payment.specs.contracts.Payment.{the_row}
use Rattle.tied.proofs.Values.{each_at}
use Rattle.tied.proofs.keeps_sound.Goals as goal

-- what the type of a payment says of each one in an array of them
at_each : (P : Payment → Type 0) → ((p : Payment) (v : List Val) → shadow (the_row.own_val p v) → P p) → (ps : List Payment) (us : List Val)
    → shadow (each the_row.Denot the_row.own_val ps us) → (i : ℕ) → i < length ps → P (at ps i)
at_each P g ps us s i h =
    each_at the_row.own_val (λ p. p) P g ps us
    (subst (λ l. shadow (each the_row.Denot the_row.own_val l us)) (sym (map-id ps)) s) i no_payment h

pub returns : goal.returns
returns c =
    let a = c.args in
    let places = c.well_formed.0.1.1.1.1.1.1.0.1 in
    let many : length a.ledger.payments ≡ limit = places.0.1 in
    let shaped : Shaped a.ledger = record {
      places = many;
      times = λ i h. at_each (λ p. length p.times ≡ 8) (λ p v k. k.1.1.1.1.1.0.1.0.1) _ _ places.1 i (omega arith);
      heard = λ i h. at_each (λ p. p.heard < 256) (λ p v k. k.1.1.1.1.0.1) _ _ places.1 i (omega arith);
    } in
    λ s. ap (λ o. sound o.state) c.step.ensures
    ∙ step-sound a.ledger a.frame.now a.outgoing.now a.postings.now shaped s
