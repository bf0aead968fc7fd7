-- What may be handed in: each such frame is read as a MULTICAST of the table, or as a PROPOSE with its writer's own time.
-- Assumes nothing.
use Prim.Native.Nat.{ℕ, ◌<◌, ◌≤◌, ◌^◌}
use mathlib.Core.Path.{◌≡◌, refl, ap, sym, ◌∙◌}
use mathlib.Core.List.{List, [], ◌∷◌}
use mathlib.Core.Bool.{true, false}
use mathlib.Core.Logic.{⊎_elim}
use native.Mathlib.Nat.{le_trans}
use native.Mathlib.Omega.{arith}
use lib.Pow.{pow_mono}
use borrow.Author.Tests.{lt-ltb}
use Rattle.frame.specs.Digits.{fitting}
use Rattle.frame.specs.Frames.{body, frame_bytes, frame_values, known, not_a_frame, table, values_of}
use Rattle.frame.specs.declared.Frame.TheVariants.{Multicast, Propose}
use Rattle.frame.proofs.RoundTrip.{bytes_read}
use Rattle.ledgers.specs.Ledgers.{has, most_ledgers, without}
use Rattle.payment.specs.Payments.{last_time}
use Rattle.refusals.specs.Refusals.{incoming}
use Rattle.refusals.specs.declared.Incoming.{Incoming}
use Rattle.common.specs.Places.{In}
use Rattle.agreement.specs.Run.{Call, Written, Entry, Lawful, May, OfDesk, OfLedger, World, multicast_copy}
use Rattle.agreement.proofs.Hearing.{Heard}
use Rattle.agreement.proofs.Calls.{frame_of}
use Rattle.ledgers.proofs.OtherLaws.{other-destination}

-- a MULTICAST of a payment, and ledger q's PROPOSE of time t for it, as they are read
abbrev pub desk_frame : Entry → Incoming
desk_frame e = record {
  kind = 1;
  payment = record { 0 = e.number };
  destinations = e.destinations;
  source = record { 0 = 0 };
  time = record { 0 = 0 };
}

abbrev pub ledger_frame : Entry → ℕ → ℕ → Incoming
ledger_frame e q t = record {
  kind = 2;
  payment = record { 0 = e.number };
  destinations = e.destinations;
  source = record { 0 = q };
  time = record { 0 = t };
}

-- ledger q's PROPOSE with its recipients
abbrev pub copy_of : Entry → ℕ → ℕ → Written
copy_of e q t =
    record {
      frame = frame_bytes (values_of (Propose (record { 0 = e.number }) e.destinations (record { 0 = q }) (record { 0 = t })));
      recipients = without e.destinations q;
    }

fits-desk : (m d : ℕ) → m < 2 ^ 32 → d < 2 ^ most_ledgers → fitting (body table 1) (m ∷ d ∷ []) ≡ true
unfolding body fitting
fits-desk m d h₁ h₂ = simp (lt-ltb _ _ h₁, lt-ltb _ _ h₂)

fits-ledger : (m d q t : ℕ) → m < 2 ^ 32 → d < 2 ^ most_ledgers → q < 2 ^ most_ledgers → t < 2 ^ 16
    → fitting (body table 2) (m ∷ d ∷ q ∷ t ∷ []) ≡ true
unfolding body fitting
fits-ledger m d q t h₁ h₂ h₃ h₄ = simp (lt-ltb _ _ h₁, lt-ltb _ _ h₂, lt-ltb _ _ h₃, lt-ltb _ _ h₄)

both-known : (known table 1 ≡ true) × (known table 2 ≡ true)
unfolding known
both-known = (refl, refl)

-- a copy on record: who wrote it, and that it holds the writer's own time
pub record Sent (n : ℕ) (table : List Entry) (w : World) (c : Written) : Type 0 where
  pub entry : Entry
  pub in_table : In entry table
  pub writer : ℕ
  pub time : ℕ
  pub is : c ≡ copy_of entry writer time
  pub from : (1 ≤ writer) × (writer ≤ n)
  pub among : has entry.destinations writer ≡ true
  pub in-time : (1 ≤ time) × (time ≤ last_time)
  pub heard : Heard (w.ledgers writer) entry.number entry.destinations writer time

-- what a call hands in
pub record FromDesk (table : List Entry) (c : Call) : Type 0 where
  pub entry : Entry
  pub in_table : In entry table
  pub is-frame : not_a_frame c.frame ≡ false
  pub frame : frame_of c ≡ desk_frame entry
  pub destination : has entry.destinations c.to ≡ true

pub record FromLedger (n : ℕ) (table : List Entry) (w : World) (c : Call) : Type 0 where
  pub propose : Written
  pub sent : Sent n table w propose
  pub is-frame : not_a_frame c.frame ≡ false
  pub frame : frame_of c ≡ ledger_frame sent.entry sent.writer sent.time
  pub recipient : has (without sent.entry.destinations sent.writer) c.to ≡ true

module _ (n : ℕ) (table : List Entry) (law : Lawful n table) where
  -- destinations are within a byte
  pub in-byte : (e : Entry) → In e table → e.destinations < 2 ^ most_ledgers
  in-byte e i =
      let below = (law.destinations e i).1 in
      let most : 2 ^ n ≤ 2 ^ most_ledgers = pow_mono {i = n} {j = most_ledgers} law.ledgers.1 in
      omega arith

  -- a desk's MULTICAST as it is read
  pub read-multicast : (e : Entry) → In e table → (c : Call) → c.frame ≡ multicast_copy e → (not_a_frame c.frame ≡ false)
      × (frame_of c ≡ desk_frame e)
  read-multicast e i c bytes =
      let read = bytes_read (values_of (Multicast (record { 0 = e.number }) e.destinations)) both-known.0
      (fits-desk e.number e.destinations (law.number e i).1 (in-byte e i)) in
      (ap not_a_frame bytes ∙ read.0, ap (λ b. incoming (frame_values b)) bytes ∙ ap incoming read.1)

  pub from-desk : (c : Call) → OfDesk table c → FromDesk table c
  from-desk c o =
      let read = read-multicast o.entry o.in_table c o.frame in
      record {
        entry = o.entry;
        in_table = o.in_table;
        is-frame = read.0;
        frame = read.1;
        destination = o.destination;
      }

  -- a ledger's PROPOSE as it is read
  pub read-propose : (e : Entry) → In e table → (q t : ℕ) → q ≤ n → t ≤ last_time → (c : Call) → c.frame ≡ (copy_of e q t).frame
      → (not_a_frame c.frame ≡ false) × (frame_of c ≡ ledger_frame e q t)
  read-propose e i q t last early c bytes =
      let few = law.ledgers.1 in
      let read = bytes_read (values_of (Propose (record { 0 = e.number }) e.destinations (record { 0 = q }) (record { 0 = t })))
      both-known.1
      (fits-ledger e.number e.destinations q t (law.number e i).1 (in-byte e i) (omega arith) (omega arith)) in
      (ap not_a_frame bytes ∙ read.0, ap (λ b. incoming (frame_values b)) bytes ∙ ap incoming read.1)

  pub from-ledger : (w : World) (c : Call) → ((x : Written) → In x w.written → Sent n table w x) → OfLedger w c → FromLedger n table w c
  from-ledger w c all o =
      let s = all o.propose o.written in
      let read = read-propose s.entry s.in_table s.writer s.time s.from.1 s.in-time.1 c
      (o.frame ∙ ap (λ x. x.frame) s.is) in
      record {
        propose = o.propose;
        sent = s;
        is-frame = read.0;
        frame = read.1;
        recipient = ap (λ x. has x.recipients c.to) (sym s.is) ∙ o.recipient;
      }

  -- what is handed in goes to one of its destinations
  pub to-destination : (w : World) (c : Call) → ((x : Written) → In x w.written → Sent n table w x) → May n table w c
      → has (frame_of c).destinations c.to ≡ true
  to-destination w c all may =
      ⊎_elim
      (λ o. let f = from-desk c o in ap (λ x. has x.destinations c.to) f.frame ∙ f.destination)
      (λ o. let f = from-ledger w c all o in
      let few = law.ledgers.1 in
      let last = may.ledger.1 in
      ap (λ x. has x.destinations c.to) f.frame
      ∙ (other-destination f.sent.entry.destinations f.sent.writer c.to (in-byte f.sent.entry f.sent.in_table)
      f.sent.from.0 (le_trans f.sent.from.1 few) (le_trans last few) f.recipient).1)
      may.copy
