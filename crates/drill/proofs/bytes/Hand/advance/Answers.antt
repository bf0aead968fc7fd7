-- What is at hand from the place further on is what was at hand, without the bytes read.
-- Assumes nothing.
use Rattle.std.proofs.Common.{ℕ, ◌+◌, ◌-◌, ◌≤◌, ◌≡◌, List, ap, arith, drop, length, refl, subst, sym, take, ◌∙◌}
use Rattle.std.proofs.lemmas.List.{drop-take}
use lib.ListN.{length-take}
use lib.Seq.{drop-drop, take-length}
use Rattle.drill.specs.AtHand.{Keeps}
use Rattle.drill.proofs.bytes.Hand.advance.Goals as goal

further : (buffer : List ℕ) (at filled read : ℕ) → read ≤ length (take (filled - at) (drop at buffer))
    → take (filled - (at + read)) (drop (at + read) buffer) ≡ drop read (take (filled - at) (drop at buffer))
further buffer at filled read h =
    let rest = filled - (at + read) in
    let n : filled - at ≡ read + rest = omega (arith, length-take (filled - at) (drop at buffer)) in
    sym
    (ap (λ k. drop read (take k (drop at buffer))) n
    ∙ drop-take read rest (drop at buffer)
    ∙ ap (take rest) (drop-drop read at buffer))

pub returns-then-waits : goal.returns-then-waits
returns-then-waits g c =
    let hand = c.args.self.now in
    let on = further hand.buffer.now hand.at hand.filled c.args.read c.requires in
    subst (λ bytes. Keeps bytes hand c.refill.new.self) on
    (record { first = c.refill.ensures.first; lent = c.refill.ensures.lent })

pub returns : goal.returns
returns g c =
    let hand = c.args.self.now in
    let on = further hand.buffer.now hand.at hand.filled c.args.read c.requires in
    record { first = ap (take _) on ∙ take-length _; lent = refl }
