-- There is room: a ledger holds no more payments than the table has for it.
-- Assumes nothing.
use Prim.Native.Nat.{ℕ, ◌+◌, ◌<◌, ◌≤◌}
use mathlib.Core.Path.{◌≡◌, ap, sym, ◌∙◌, subst}
use mathlib.Core.List.{List}
use mathlib.Core.Bool.{Bool, true, false, cond, ◌&&◌}
use native.Mathlib.Omega.{arith}
use lib.ListN.{get_or, length}
use Rattle.common.specs.Places.{count}
use Rattle.common.proofs.TestLaws.{and_both, and-false, and_left, and_right, split}
use Rattle.ledgers.specs.Ledgers.{has}
use Rattle.payment.specs.declared.Payment.{Payment}
use Rattle.held.specs.Held.{holds, limit}
use Rattle.refusals.specs.Refusals.{is_held}
use Rattle.ledger.specs.declared.Ledger.{Ledger}
use Rattle.agreement.specs.Run.{Call, Entry, Lawful, May, World, called, no_entry}
use Rattle.agreement.specs.Claims.{Holds}
use Rattle.agreement.proofs.Agreed.{Agrees, agrees-next, entry_of, of-table}
use Rattle.agreement.proofs.Calls.{Well, by_call, frame_of}
use Rattle.agreement.proofs.Copies.{to-destination}
use Rattle.common.proofs.CountLaws.{count-le, count-lt}
use Rattle.agreement.proofs.Entries.{entry_in, entry_place}
use Rattle.agreement.proofs.Found.{at-holds, holds_at}
use Rattle.agreement.proofs.Hearing.{has_kept, has-now}

-- the payments of the table that go to ledger k, and those of them that it holds
abbrev goes_to : List Entry → ℕ → ℕ → Bool
goes_to table k i = has (get_or table i no_entry).destinations k

abbrev held_of : List Entry → ℕ → Ledger → ℕ → Bool
held_of table k l i = goes_to table k i && holds l.payments (get_or table i no_entry).number

-- no more are held than the table has
abbrev pub Room : List Entry → ℕ → Ledger → Type 0
Room table k l = l.count ≤ count (length table) (held_of table k l)

module _ (n : ℕ) (table : List Entry) (law : Lawful n table) (w : World) (c : Call) (may : May n table w c) (a : Agrees n table w) where
  well : Well n c.to (w.ledgers c.to)
  well = a.well c.to may.ledger.0 may.ledger.1

  next : Well n c.to ((called w c).ledgers c.to)
  next = (agrees-next n table law w c may a).well c.to may.ledger.0 may.ledger.1

  -- the frame's payment in the table
  entry : (i : ℕ) × (i < length table) × (get_or table i no_entry ≡ entry_of (frame_of c).payment.0 (frame_of c).destinations)
  entry = entry_place table _ (of-table n table law w c may a)

  mine : goes_to table c.to entry.0 ≡ true
  mine = ap (λ e. has e.destinations c.to) entry.2 ∙ to-destination n table law w c a.copied may

  unheld : (l : Ledger) → holds l.payments (frame_of c).payment.0 ≡ false → held_of table c.to l entry.0 ≡ false
  unheld l h = ap (λ e. goes_to table c.to entry.0 && holds l.payments e.number) entry.2
      ∙ ap (λ b. goes_to table c.to entry.0 && b) h ∙ and-false (goes_to table c.to entry.0)

  -- where the frame's payment is not held, there is a place for it
  pub room-here : Room table c.to (w.ledgers c.to) → is_held (w.ledgers c.to).payments (frame_of c) ≡ false
      → (w.ledgers c.to).count < limit
  room-here r h =
      let most = law.few c.to in
      let less = count-lt (length table) (held_of table c.to (w.ledgers c.to)) (goes_to table c.to)
      (λ k i t. and_left (goes_to table c.to k) _ t) entry.0 entry.1 (unheld (w.ledgers c.to) h) mine in
      omega (arith, most, less, r)

  pub room_next : (k : ℕ) → Room table k (w.ledgers k) → Room table k ((called w c).ledgers k)
  room_next k r =
      by_call w c (Room table k) well.shape k r
      (λ e t v. subst (λ j. Room table j ((called w c).ledgers c.to)) (sym e)
      (let old = subst (λ j. Room table j (w.ledgers j)) e r in
      let still : (i : ℕ) → i < length table → held_of table c.to (w.ledgers c.to) i ≡ true
      → held_of table c.to ((called w c).ledgers c.to) i ≡ true
      = λ i h b. and_both (and_left (goes_to table c.to i) _ b)
      (let m = (get_or table i no_entry).number in
      at-holds ((called w c).ledgers c.to) next.is-sound m (λ p. Unit {0})
      (has_kept (w.ledgers c.to) (frame_of c) t.is-sound well.shape t.unrefused ((called w c).ledgers c.to) v
      (λ p. Unit {0}) (λ p q s x. x) (λ x. x) m
      (whatever (holds_at (w.ledgers c.to) t.is-sound m (law.number _ (entry_in table i h)).0
      (and_right (goes_to table c.to i) _ b))))) in
      split (is_held (w.ledgers c.to).payments (frame_of c))
      (λ h. let up = count-le (length table) _ _ still in
      let same : ((called w c).ledgers c.to).count ≡ (w.ledgers c.to).count = v.count
      ∙ ap (λ b. cond b (w.ledgers c.to).count ((w.ledgers c.to).count + 1)) h in
      omega (arith, up, same, old))
      (λ h. let now : held_of table c.to ((called w c).ledgers c.to) entry.0 ≡ true
      = and_both mine (ap (λ x. holds ((called w c).ledgers c.to).payments x.number) entry.2
      ∙ at-holds ((called w c).ledgers c.to) next.is-sound (frame_of c).payment.0 (λ p. Unit {0})
      (has-now (w.ledgers c.to) (frame_of c) t.is-sound well.shape t.unrefused ((called w c).ledgers c.to) v
      (λ p. Unit {0}) (λ p q s x. x) tt)) in
      let up = count-lt (length table) _ _ still entry.0 entry.1 (unheld (w.ledgers c.to) h) now in
      let more : ((called w c).ledgers c.to).count ≡ (w.ledgers c.to).count + 1 = v.count
      ∙ ap (λ b. cond b (w.ledgers c.to).count ((w.ledgers c.to).count + 1)) h in
      omega (arith, up, more, old))))
    where
      whatever : {m : ℕ} {P : Payment → Type 0} → Holds (w.ledgers c.to) m P → Holds (w.ledgers c.to) m (λ p. Unit {0})
      whatever x = record { at_place = x.at_place; within = x.within; used = x.used; number = x.number; so = tt }
