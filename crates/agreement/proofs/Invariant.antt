-- What holds after every call of a run, one field for each idea.
-- Assumes nothing.
use Prim.Native.Nat.{ℕ, ◌*◌, ◌≤◌}
use mathlib.Core.Path.{◌≡◌, refl, ap, ap₂, sym, ◌∙◌, subst}
use mathlib.Core.List.{List, [], ◌∷◌, ◌++◌, append_assoc, append-nil}
use mathlib.Core.Logic.{◌⊎◌, inl, inr, ⊎_elim}
use native.Mathlib.Nat.{le_trans}
use native.Mathlib.Omega.{arith}
use Rattle.common.specs.Places.{In}
use Rattle.held.specs.Held.{limit}
use Rattle.soundness.proofs.Steps.{answer-is}
use Rattle.agreement.specs.Run.{Call, Calls, Entry, Lawful, World, after, called, multicast_copy, start}
use Rattle.agreement.specs.Claims.{HandedIn, OfGroup, Stays}
use Rattle.agreement.proofs.Agreed.{Agrees, agrees-next, agrees_start, entry_of, nothing-held, set-up-is}
use Rattle.agreement.proofs.Answers.{zero-or-nine}
use Rattle.agreement.proofs.Calls.{answer, by_call, frame_of, heard-stays}
use Rattle.agreement.proofs.Copies.{from-ledger, in-byte, read-multicast}
use Rattle.agreement.proofs.Hearing.{Heard, HeardTime, heard-from}
use Rattle.soundness.proofs.Kept.{speaker}
use Rattle.agreement.proofs.Clocks.{bound-next, given, given-few}
use Rattle.agreement.proofs.Handed.{Got, got-now}
use Rattle.agreement.proofs.Logging.{log-stays, stays-once}
use Rattle.agreement.proofs.Logs.{Log, Posted}
use Rattle.agreement.proofs.Room.{Room, room_next}
use Rattle.ledgers.proofs.OtherLaws.{other-destination}

pub record Kept (n : ℕ) (table : List Entry) (w : World) : Type 0 where
  -- ledgers are sound, hold payments of the table, and have of each other only own times
  pub agrees : Agrees n table w
  -- no clock is above the number of own times given so far
  pub clocks : (k : ℕ) → OfGroup n k → (w.ledgers k).clock.0 ≤ given n w
  -- no more payments are held than the table has for the ledger
  pub room : (k : ℕ) → OfGroup n k → Room table k (w.ledgers k)
  -- the log holds exactly the posted payments, strictly rising by stamp
  pub logs : (k : ℕ) → OfGroup n k → Log (w.ledgers k) (w.logs k)

none : {m : ℕ} → 0 ≤ m
none = omega arith

module _ (n : ℕ) (table : List Entry) (law : Lawful n table) where
  kept-start : Kept n table (start n)
  kept-start =
      record {
        agrees = agrees_start n table law;
        clocks = λ k h. subst (λ l. l.clock.0 ≤ given n (start n)) (sym (set-up-is n table law k h.0 h.1)) none;
        room = λ k h. subst (Room table k) (sym (set-up-is n table law k h.0 h.1)) none;
        logs = λ k h. record {
          posted = λ m i. absurd i;
          complete = λ m x. absurd (nothing-held n table law k m Posted h.0 h.1 x);
          rising = λ x y i. absurd i;
        };
      }

  pub kept : (cs : List Call) → Calls n table cs → Kept n table (after n cs)
  unfolding after
  kept [] r = kept-start
  kept (c ∷ cs) r =
      let k = kept cs r.1 in
      let a = k.agrees in
      record {
        agrees = agrees-next n table law (after n cs) c r.0 a;
        clocks = bound-next n table law (after n cs) c r.0 a k.clocks;
        room = λ j h. room_next n table law (after n cs) c r.0 a j (k.room j h);
        logs = λ j h. log-stays (after n cs) c (a.well c.to r.0.ledger.0 r.0.ledger.1).shape j (k.logs j h);
      }

  -- the clock bound: a ledger gives at most one own time for each place
  pub clock-bound : (cs : List Call) → Calls n table cs → (k : ℕ) → OfGroup n k → ((after n cs).ledgers k).clock.0 ≤ n * limit
  clock-bound cs r k h = le_trans ((kept cs r).clocks k h) (given-few n (after n cs))

  answered : (cs : List Call) → Calls n table cs → (c : Call) → (m : Calls n table (c ∷ cs))
      → (answer (after n cs) c ≡ 0) ⊎ (answer (after n cs) c ≡ 9)
  answered cs r c m =
      let k = kept cs r in
      let h = m.0.ledger in
      zero-or-nine n table law (after n cs) c m.0 k.agrees (k.room c.to h) (k.clocks c.to h)

  -- only 0 and 9 are answered
  pub answers-only : (cs : List Call) → Calls n table cs → (x : ℕ) → In x (after n cs).answers → (x ≡ 0) ⊎ (x ≡ 9)
  unfolding after called
  answers-only [] r x i = absurd i
  answers-only (c ∷ cs) r x i =
      ⊎_elim
      (λ e. let is = e ∙ answer-is ((after n cs).ledgers c.to) c.frame c.outgoing c.list in
      ⊎_elim (λ z. inl (is ∙ z)) (λ z. inr (is ∙ z)) (answered cs r.1 c r))
      (λ t. answers-only cs r.1 x t)
      i

  -- what has been handed in is heard
  pub got : (cs : List Call) → Calls n table cs → (c : Call) → In c cs → Got n c.to ((after n cs).ledgers c.to) (frame_of c)
  unfolding after
  got [] r c i = absurd i
  got (b ∷ cs) r c i =
      let a = (kept cs r.1).agrees in
      ⊎_elim
      (λ e. subst (λ x. Got n x.to ((called (after n cs) b).ledgers x.to) (frame_of x)) (sym e)
      (got-now n table law (after n cs) b r.0 a (answered cs r.1 b r)))
      (λ t. let g = got cs r.1 c t in
      record {
        from = g.from;
        time = g.time;
        heard = heard-stays (after n cs) b (a.well b.to r.0.ledger.0 r.0.ledger.1).shape c.to _ _ _ _ g.from.0
            (le_trans g.from.1 law.ledgers.1) g.heard;
        told = g.told;
      })
      i

  -- an own time was asked for: a MULTICAST copy of the payment was handed in
  pub asked : (cs : List Call) → Calls n table cs → (k m d t : ℕ) → OfGroup n k → Heard ((after n cs).ledgers k) m d k t
      → HandedIn (multicast_copy (entry_of m d)) k cs
  unfolding after
  asked [] r k m d t h = λ x. absurd (nothing-held n table law k m (HeardTime d k t) h.0 h.1 x)
  asked (c ∷ cs) r k m d t h =
      let a = (kept cs r.1).agrees in
      let well = a.well c.to r.0.ledger.0 r.0.ledger.1 in
      by_call (after n cs) c (λ l. Heard l m d k t → HandedIn (multicast_copy (entry_of m d)) k (c ∷ cs)) well.shape k
      (λ x. before (asked cs r.1 k m d t h x))
      (λ e u v x. heard-from ((after n cs).ledgers c.to) (frame_of c) u.is-sound well.shape u.unrefused
      ((called (after n cs) c).ledgers c.to) v
      (HandedIn (multicast_copy (entry_of m d)) k (c ∷ cs)) m d k t h.0 (le_trans h.1 law.ledgers.1) x
      (λ old. before (asked cs r.1 k m d t h (subst (λ j. Heard ((after n cs).ledgers j) m d k t) (sym e) old)))
      (λ em ed es et. ⊎_elim
      (λ o. let f = (read-multicast n table law o.entry o.in_table c o.frame).1 in
      record {
        call = c;
        among = inl refl;
        to = sym e;
        bytes = o.frame ∙ ap multicast_copy (ap₂ entry_of (sym (em ∙ ap (λ z. z.payment.0) f)) (sym (ed ∙ ap (λ z. z.destinations) f)));
      })
      (λ o. let f = from-ledger n table law (after n cs) c a.copied o in
      absurd ((other-destination f.sent.entry.destinations f.sent.writer c.to
      (in-byte n table law f.sent.entry f.sent.in_table) f.sent.from.0 (le_trans f.sent.from.1 law.ledgers.1)
      (le_trans r.0.ledger.1 law.ledgers.1) f.recipient).0
      (sym e ∙ es ∙ ap (speaker ((after n cs).ledgers c.to)) f.frame)))
      r.0.copy))
    where
      before : {x : List ℕ} → HandedIn x k cs → HandedIn x k (c ∷ cs)
      before x = record { call = x.call; among = inr x.among; to = x.to; bytes = x.bytes }

  -- what has been stamped or posted stays so
  pub stays-always : (cs ds : List Call) → Calls n table (ds ++ cs) → (k : ℕ) → Stays k (after n cs) (after n (ds ++ cs))
  unfolding after
  stays-always cs [] r k = record { stamps = λ m s x. x; added = []; log = sym (append-nil ((after n cs).logs k)) }
  stays-always cs (d ∷ ds) r k =
      let so_far = stays-always cs ds r.1 k in
      let once = stays-once (after n (ds ++ cs)) d ((kept (ds ++ cs) r.1).agrees.well d.to r.0.ledger.0
      r.0.ledger.1).shape k in
      record {
        stamps = λ m s x. once.stamps m s (so_far.stamps m s x);
        added = so_far.added ++ once.added;
        log = once.log ∙ ap (λ xs. xs ++ once.added) so_far.log ∙ append_assoc ((after n cs).logs k) so_far.added once.added;
      }
