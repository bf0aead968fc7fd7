-- What holds after every call of a run: ledgers are sound, hold payments of the table, and have of each other only own times.
-- Assumes nothing.
use Prim.Native.Nat.{ℕ, ◌+◌, ◌<◌, ◌≤◌}
use mathlib.Core.Path.{◌≡◌, refl, ap, sym, ◌∙◌, subst}
use mathlib.Core.List.{List}
use mathlib.Core.Bool.{true, cond}
use mathlib.Core.Logic.{◌⊎◌, inl, inr, ⊎_elim}
use native.Mathlib.Omega.{arith}
use borrow.Author.Tests.{le-leb}
use Rattle.common.proofs.TestLaws.{and_both}
use Rattle.ledgers.specs.Ledgers.{is_ledger_of, most_ledgers, without}
use Rattle.payment.specs.Payments.{last_time}
use Rattle.payment.specs.declared.Payment.{Payment}
use Rattle.ledger.specs.State.{Told, fresh, set_up}
use Rattle.ledger.specs.Step.{recipients_of}
use Rattle.refusals.specs.declared.Incoming.{Incoming}
use Rattle.ledger.specs.declared.Ledger.{Ledger}
use Rattle.soundness.proofs.Fresh.{fresh-shaped, fresh-sound}
use Rattle.soundness.proofs.Kept.{brings, heard_clock, speaker, spoken_time}
use Rattle.common.specs.Places.{In}
use Rattle.agreement.specs.Run.{Call, Written, Entry, Lawful, May, World, called, start}
use Rattle.agreement.specs.Claims.{Holds}
use Rattle.agreement.proofs.Hearing.{Heard, HeardTime, has-from, heard-from, heard-goes, heard-now}
use Rattle.agreement.proofs.Calls.{Well, by_call, frame_of, heard-stays, view, well-stays}
use Rattle.agreement.proofs.Written.{copies-from, copies_kept, copies-new, copy_is, new_copy, taken-call}
use Rattle.agreement.proofs.Copies.{FromDesk, FromLedger, Sent, copy_of, from-desk, from-ledger, in-byte}
use Rattle.ledgers.proofs.OtherLaws.{other-destination}

-- its destinations are d
abbrev pub Goes : ℕ → Payment → Type 0
Goes d p = p.destinations ≡ d

abbrev pub entry_of : ℕ → ℕ → Entry
entry_of m d = record { number = m; destinations = d }

pub record Agrees (n : ℕ) (table : List Entry) (w : World) : Type 0 where
  pub well : (k : ℕ) → 1 ≤ k → k ≤ n → Well n k (w.ledgers k)
  -- what is held is of the table
  pub listed : (k m d : ℕ) → 1 ≤ k → k ≤ n → Holds (w.ledgers k) m (Goes d) → In (entry_of m d) table
  -- a time of q that is heard is q's own
  pub agreed : (k q m d t : ℕ) → 1 ≤ k → k ≤ n → 1 ≤ q → q ≤ n → Heard (w.ledgers k) m d q t → Heard (w.ledgers q) m d q t
  -- a copy holds its writer's own time
  pub copied : (x : Written) → In x w.written → Sent n table w x
  -- an own time is on record for the other destinations
  pub sent : (q m d t : ℕ) → 1 ≤ q → q ≤ n → Heard (w.ledgers q) m d q t → (without d q ≡ 0 → ⊥)
      → In (copy_of (entry_of m d) q t) w.written

module _ (n : ℕ) (table : List Entry) (law : Lawful n table) (w : World) (c : Call) (may : May n table w c) (a : Agrees n table w) where
  here : Well n c.to (w.ledgers c.to)
  here = a.well c.to may.ledger.0 may.ledger.1

  abbrev next : ℕ → Ledger
  next = (called w c).ledgers

  few : {q : ℕ} → q ≤ n → q ≤ most_ledgers
  few h = let most = law.ledgers.1 in omega arith

  stays : (j m d q t : ℕ) → 1 ≤ q → q ≤ n → Heard (w.ledgers j) m d q t → Heard (next j) m d q t
  stays j m d q t h₁ hₙ = heard-stays w c here.shape j m d q t h₁ (few hₙ)

  pub came : FromDesk table c ⊎ FromLedger n table w c
  came = ⊎_elim (λ o. inl (from-desk n table law c o)) (λ o. inr (from-ledger n table law w c a.copied o)) may.copy

  -- what the frame says, by what it is: the own time of the ledger that is called, or the writer's own time
  abbrev Says : Incoming → Type 0
  Says f = (k : ℕ) → k ≡ c.to → (q : ℕ) → q ≡ speaker (w.ledgers c.to) f → (t : ℕ) → t ≡ spoken_time (w.ledgers c.to) f
      → (m : ℕ) → m ≡ f.payment.0 → (d : ℕ) → d ≡ f.destinations → Heard (next k) m d q t → Heard (next q) m d q t

  says : Says (frame_of c)
  says =
      ⊎_elim
      (λ o. subst Says (sym o.frame) (λ k ek q eq t et m em d ed h.
      subst (λ j. Heard (next j) m d q t) (ek ∙ sym here.own ∙ sym eq) h))
      (λ o. subst Says (sym o.frame) (λ k ek q eq t et m em d ed h.
      let s = o.sent in
      let there = stays s.writer s.entry.number s.entry.destinations s.writer s.time s.from.0 s.from.1
      s.heard in
      subst (λ j. Heard (next j) m d j t) (sym eq)
      (subst (λ x. Heard (next s.writer) m d s.writer x) (sym et)
      (subst (λ x. Heard (next s.writer) m x s.writer s.time) (sym ed)
      (subst (λ x. Heard (next s.writer) x s.entry.destinations s.writer s.time) (sym em) there)))))
      came

  agreed-next : (k q m d t : ℕ) → 1 ≤ k → k ≤ n → 1 ≤ q → q ≤ n → Heard (next k) m d q t → Heard (next q) m d q t
  agreed-next k q m d t h₁ hₙ g₁ gₙ =
      by_call w c (λ l. Heard l m d q t → Heard (next q) m d q t) here.shape k
      (λ h. stays q m d q t g₁ gₙ (a.agreed k q m d t h₁ hₙ g₁ gₙ h))
      (λ e taken v h. heard-from (w.ledgers c.to) (frame_of c) taken.is-sound here.shape taken.unrefused (next c.to) v
      (Heard (next q) m d q t) m d q t g₁ (few gₙ) h
      (λ o. stays q m d q t g₁ gₙ (a.agreed c.to q m d t may.ledger.0 may.ledger.1 g₁ gₙ o))
      (λ em ed eq et. says c.to refl q eq t et m em d ed h))

  -- the frame's payment is of the table
  pub of-table : In (entry_of (frame_of c).payment.0 (frame_of c).destinations) table
  of-table =
      ⊎_elim
      (λ o. subst (λ f. In (entry_of f.payment.0 f.destinations) table) (sym o.frame) o.in_table)
      (λ o. subst (λ f. In (entry_of f.payment.0 f.destinations) table) (sym o.frame) o.sent.in_table)
      came

  listed_next : (k m d : ℕ) → 1 ≤ k → k ≤ n → Holds (next k) m (Goes d) → In (entry_of m d) table
  listed_next k m d h₁ hₙ =
      by_call w c (λ l. Holds l m (Goes d) → In (entry_of m d) table) here.shape k
      (a.listed k m d h₁ hₙ)
      (λ e t v h. has-from (w.ledgers c.to) (frame_of c) t.is-sound here.shape t.unrefused (next c.to) v
      (Goes d) (λ p q s g. s.destinations ∙ g) (In (entry_of m d) table) m h
      (a.listed c.to m d may.ledger.0 may.ledger.1)
      (λ em g. subst (λ x. In (entry_of m x) table) (sym (heard-goes (w.ledgers c.to) (frame_of c) t.is-sound here.shape
      t.unrefused) ∙ g)
      (subst (λ x. In (entry_of x (frame_of c).destinations) table) (sym em) of-table)))

  -- a PROPOSE that is handed in makes no copy
  pub no_copy : FromLedger n table w c → taken-call w c → (new_copy w c).recipients ≡ 0
  no_copy o t = ap (λ x. x.recipients) t.so ∙ ap (recipients_of (w.ledgers c.to)) o.frame

  sent-again : (x : Written) → Sent n table w x → Sent n table (called w c) x
  sent-again x s =
      record {
        entry = s.entry;
        in_table = s.in_table;
        writer = s.writer;
        time = s.time;
        is = s.is;
        from = s.from;
        among = s.among;
        in-time = s.in-time;
        heard = stays s.writer s.entry.number s.entry.destinations s.writer s.time s.from.0 s.from.1 s.heard;
      }

  -- the own time that a taken MULTICAST gives
  own-heard : (o : FromDesk table c) → taken-call w c → Heard (next c.to) o.entry.number o.entry.destinations c.to
      ((w.ledgers c.to).clock.0 + 1)
  own-heard o t =
      subst (λ k. Heard (next c.to) o.entry.number o.entry.destinations k ((w.ledgers c.to).clock.0 + 1)) here.own
      (subst (λ f. Heard (next c.to) f.payment.0 f.destinations (speaker (w.ledgers c.to) f)
      (spoken_time (w.ledgers c.to) f)) o.frame
      (heard-now (w.ledgers c.to) (frame_of c) t.is-sound here.shape t.unrefused (next c.to) (view w c t here.shape)))

  new-sent : (o : FromDesk table c) → taken-call w c → ((new_copy w c).recipients ≡ 0 → ⊥) → Sent n table (called w c) (new_copy w c)
  new-sent o t z =
      record {
        entry = o.entry;
        in_table = o.in_table;
        writer = c.to;
        time = (w.ledgers c.to).clock.0 + 1;
        is = copy_is w c o.entry t o.frame z here.own;
        from = may.ledger;
        among = o.destination;
        in-time = (
          omega arith,
          subst (λ f. heard_clock (w.ledgers c.to) f ≤ last_time) o.frame
              (brings (w.ledgers c.to) (frame_of c) t.is-sound here.shape t.unrefused).in-time,
        );
        heard = own-heard o t;
      }

  copied_next : (x : Written) → In x (called w c).written → Sent n table (called w c) x
  copied_next x =
      copies-from w c (Sent n table (called w c) x) x
      (λ i. sent-again x (a.copied x i))
      (λ t z e. ⊎_elim
      (λ o. subst (Sent n table (called w c)) (sym e) (new-sent o t z))
      (λ o. absurd (z (no_copy o t)))
      came)

  -- the copy that a frame makes this ledger write
  abbrev Wrote : Incoming → Type 0
  Wrote f = (m : ℕ) → m ≡ f.payment.0 → (d : ℕ) → d ≡ f.destinations → (q : ℕ) → q ≡ speaker (w.ledgers c.to) f → (t : ℕ)
      → t ≡ spoken_time (w.ledgers c.to) f
      → q ≡ c.to → (without d q ≡ 0 → ⊥) → In (copy_of (entry_of m d) q t) (called w c).written

  wrote : taken-call w c → Wrote (frame_of c)
  wrote k =
      ⊎_elim
      (λ o. subst Wrote (sym o.frame) (λ m em d ed q eq t et e z.
      let some : (new_copy w c).recipients ≡ 0 → ⊥
      = λ y. z (ap (λ x. without x q) ed ∙ ap (without o.entry.destinations) eq
      ∙ sym (ap (λ x. x.recipients) k.so ∙ ap (recipients_of (w.ledgers c.to)) o.frame) ∙ y) in
      let same : new_copy w c ≡ copy_of (entry_of m d) q t
      = copy_is w c o.entry k o.frame some here.own
      ∙ ap (λ j. copy_of o.entry j ((w.ledgers c.to).clock.0 + 1)) (sym e)
      ∙ ap (copy_of o.entry q) (sym et)
      ∙ ap (λ x. copy_of (entry_of x o.entry.destinations) q t) (sym em)
      ∙ ap (λ x. copy_of (entry_of m x) q t) (sym ed) in
      subst (λ x. In x (called w c).written) same (copies-new w c k some)))
      (λ o. subst Wrote (sym o.frame) (λ m em d ed q eq t et e z.
      absurd ((other-destination o.sent.entry.destinations o.sent.writer c.to
      (in-byte n table law o.sent.entry o.sent.in_table) o.sent.from.0 (few o.sent.from.1)
      (few may.ledger.1) o.recipient).0 (sym e ∙ eq))))
      came

  sent-next : (q m d t : ℕ) → 1 ≤ q → q ≤ n → Heard (next q) m d q t → (without d q ≡ 0 → ⊥)
      → In (copy_of (entry_of m d) q t) (called w c).written
  sent-next q m d t h₁ hₙ =
      by_call w c (λ l. Heard l m d q t → (without d q ≡ 0 → ⊥) → In (copy_of (entry_of m d) q t) (called w c).written) here.shape q
      (λ h z. copies_kept w c _ (a.sent q m d t h₁ hₙ h z))
      (λ e k v h z. heard-from (w.ledgers c.to) (frame_of c) k.is-sound here.shape k.unrefused (next c.to) v
      (In (copy_of (entry_of m d) q t) (called w c).written) m d q t h₁ (few hₙ) h
      (λ o. copies_kept w c _ (a.sent q m d t h₁ hₙ (subst (λ j. Heard (w.ledgers j) m d q t) (sym e) o) z))
      (λ em ed eq et. wrote k m em d ed q eq t et e z))

  pub agrees-next : Agrees n table (called w c)
  agrees-next =
      record {
        well = λ k h₁ hₙ. well-stays w c n k here (a.well k h₁ hₙ);
        listed = listed_next;
        agreed = agreed-next;
        copied = copied_next;
        sent = sent-next;
      }

-- before any call
module _ (n : ℕ) (table : List Entry) (law : Lawful n table) where
  lawful : (k : ℕ) → 1 ≤ k → k ≤ n → is_ledger_of n k ≡ true
  lawful k h₁ hₙ = and_both (and_both (le-leb _ _ law.ledgers.0) (le-leb _ _ law.ledgers.1))
      (and_both (le-leb _ _ h₁) (le-leb _ _ hₙ))

  pub set-up-is : (k : ℕ) → 1 ≤ k → k ≤ n → (set_up n k).state ≡ fresh n k
  unfolding set_up
  set-up-is k h₁ hₙ = ap (λ b. (cond {A = Told} b (record { state = fresh n k; answer = 0 })
      (record { state = fresh 0 0; answer = 1 })).state) (lawful k h₁ hₙ)

  pub nothing-held : (k m : ℕ) (P : Payment → Type 0) → 1 ≤ k → k ≤ n → Holds (set_up n k).state m P → ⊥
  nothing-held k m P h₁ hₙ h = let u = subst (λ l. h.at_place < l.count) (set-up-is k h₁ hₙ) h.used in omega arith

  pub agrees_start : Agrees n table (start n)
  agrees_start =
      record {
        well = λ k h₁ hₙ. subst (Well n k) (sym (set-up-is k h₁ hₙ)) (record {
          is-sound = fresh-sound n k (lawful k h₁ hₙ);
          shape = fresh-shaped n k;
          group = refl;
          own = refl;
        });
        listed = λ k m d h₁ hₙ h. absurd (nothing-held k m (Goes d) h₁ hₙ h);
        agreed = λ k q m d t h₁ hₙ g₁ gₙ h. absurd (nothing-held k m (HeardTime d q t) h₁ hₙ h);
        copied = λ x i. absurd i;
        sent = λ q m d t h₁ hₙ h. absurd (nothing-held q m (HeardTime d q t) h₁ hₙ h);
      }
