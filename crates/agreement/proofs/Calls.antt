-- One call in a run: the ledger that is called changes as its step says, the others stay.
-- Assumes nothing.
use Rattle.common.proofs.PlaceLaws.{by_place}
use Prim.Native.Nat.{ℕ, ◌≤◌}
use mathlib.Core.Path.{◌≡◌, refl, ap, sym, ◌∙◌, subst}
use mathlib.Core.Bool.{true, cond}
use lib.Dec.{eqb}
use borrow.Author.Tests.{eq-eqb, eqb-false, eqb-true, ne_eqb}
use Rattle.ledgers.specs.Ledgers.{most_ledgers}
use Rattle.common.proofs.TestLaws.{split}
use Rattle.frame.specs.Frames.{frame_values}
use Rattle.ledger.specs.Sound.{sound}
use Rattle.ledger.specs.Table.{answer_to}
use Rattle.refusals.specs.Refusals.{incoming}
use Rattle.ledger.specs.Step.{step}
use Rattle.refusals.specs.declared.Incoming.{Incoming}
use Rattle.ledger.specs.declared.Ledger.{Ledger}
use Rattle.ledger.proofs.JudgeLaws.{place-range}
use Rattle.soundness.specs.Shaped.{Shaped}
use Rattle.soundness.proofs.Steps.{Taken, is-refused, is-taken, step-shaped, step-sound}
use Rattle.agreement.specs.Run.{Call, World, called, replaced}
use Rattle.agreement.proofs.View.{View, taken-view}
use Rattle.agreement.proofs.Hearing.{Heard, heard-kept}

-- ledger k of n, in good order
pub record Well (n k : ℕ) (l : Ledger) : Type 0 where
  pub is-sound : sound l ≡ true
  pub shape : Shaped l
  pub group : l.group ≡ n
  pub own : l.own.0 ≡ k

abbrev pub frame_of : Call → Incoming
frame_of c = incoming (frame_values c.frame)

pub replaced-self : {A : Type 0} (f : ℕ → A) (k : ℕ) (x : A) → replaced f k x k ≡ x
replaced-self f k x = ap (λ b. cond b x (f k)) (eq-eqb k k refl)

pub replaced-other : {A : Type 0} (f : ℕ → A) (k : ℕ) (x : A) (j : ℕ) → (j ≡ k → ⊥) → replaced f k x j ≡ f j
replaced-other f k x j n = ap (λ b. cond b x (f j)) (ne_eqb j k n)

module _ (w : World) (c : Call) where
  abbrev before : Ledger
  before = w.ledgers c.to

  abbrev pub answer : ℕ
  answer = answer_to before c.frame c.outgoing c.list

  -- the ledger that is called
  pub at_self : (called w c).ledgers c.to ≡ (step before c.frame c.outgoing c.list).state
  unfolding called
  at_self = replaced-self w.ledgers c.to _

  -- the others stay
  pub at_other : (j : ℕ) → (j ≡ c.to → ⊥) → (called w c).ledgers j ≡ w.ledgers j
  unfolding called
  at_other j n = replaced-other w.ledgers c.to _ j n

  -- a taken call, seen by places
  pub view : Taken before c.frame c.outgoing c.list → Shaped before → View before (frame_of c) ((called w c).ledgers c.to)
  view t shape =
      subst (View before (frame_of c)) (sym (at_self ∙ ap (λ o. o.state) t.so))
      (taken-view before (frame_of c) shape (place-range before (frame_of c) t.is-sound t.unrefused) c.outgoing c.list)

  -- a ledger after a call: as it was, or changed by a frame that is taken
  pub by_call : (A : Ledger → Type 0) → Shaped before → (j : ℕ) → A (w.ledgers j)
      → (j ≡ c.to → (t : Taken before c.frame c.outgoing c.list) → View before (frame_of c) ((called w c).ledgers c.to)
      → A ((called w c).ledgers c.to))
      → A ((called w c).ledgers j)
  by_call A shape j old new =
      by_place j c.to
      (λ e. split (eqb answer 0)
      (λ t. let k = is-taken before c.frame c.outgoing c.list (eqb-true _ _ t) in
      subst (λ i. A ((called w c).ledgers i)) (sym e) (new e k (view k shape)))
      (λ t. subst A (sym (ap (called w c).ledgers e ∙ at_self
      ∙ ap (λ o. o.state) (is-refused before c.frame c.outgoing c.list (eqb-false _ _ t))))
      (subst (λ i. A (w.ledgers i)) e old)))
      (λ n. subst A (sym (at_other j n)) old)

  -- what a ledger has heard stays
  pub heard-stays : Shaped before → (j m d q t : ℕ) → 1 ≤ q → q ≤ most_ledgers → Heard (w.ledgers j) m d q t
      → Heard ((called w c).ledgers j) m d q t
  heard-stays shape j m d q t h₁ h₈ h =
      by_call (λ l. Heard l m d q t) shape j h
      (λ e k v. heard-kept before (frame_of c) k.is-sound shape k.unrefused ((called w c).ledgers c.to) v m d q t h₁ h₈
      (subst (λ i. Heard (w.ledgers i) m d q t) e h))

  pub well-stays : (n k : ℕ) → Well n c.to before → Well n k (w.ledgers k) → Well n k ((called w c).ledgers k)
  well-stays n k b h =
      by_call (λ l. Well n k l) b.shape k h
      (λ e t v. record {
        is-sound = ap sound at_self ∙ step-sound before c.frame c.outgoing c.list b.shape b.is-sound;
        shape = subst Shaped (sym at_self) (step-shaped before c.frame c.outgoing c.list b.shape);
        group = v.group ∙ b.group;
        own = ap (λ x. x.0) v.own ∙ b.own ∙ sym e;
      })
