-- Every run can be gone on with until every copy is handed in: first each MULTICAST copy, which makes every ledger write what it
-- ever will; then each copy of what is written.
-- Assumes nothing.
use Rattle.common.proofs.PlaceLaws.{by_place}
use Prim.Native.Nat.{ℕ, zero, suc, ◌≤◌}
use mathlib.Core.Path.{◌≡◌, refl, ap, sym, ◌∙◌, subst}
use mathlib.Core.List.{List, [], ◌∷◌, ◌++◌, append_assoc, map}
use mathlib.Core.Bool.{true, cond}
use mathlib.Core.Logic.{◌⊎◌, inl, inr, ⊎_elim}
use native.Mathlib.Nat.{le_of_eq, le_trans}
use native.Mathlib.Omega.{arith}
use lib.ListN.{length, length-replicate, replicate}
use lib.Dec.{ltb}
use borrow.Author.Tests.{ltb-false, ltb-true}
use Rattle.common.specs.Places.{In}
use Rattle.ledgers.proofs.LedgerLaws.{has-beyond}
use Rattle.common.proofs.TestLaws.{both, split}
use Rattle.frame.specs.Frames.{propose, total}
use Rattle.ledgers.specs.Ledgers.{has, most_ledgers, without}
use Rattle.held.specs.Held.{limit}
use Rattle.agreement.specs.Run.{Call, Calls, Entry, Lawful, May, OfDesk, OfLedger, World, Written, after, multicast_copy}
use Rattle.agreement.specs.Claims.{AllHandedIn, Completion, HandedIn, OfGroup}
use Rattle.agreement.proofs.Agreed.{no_copy}
use Rattle.agreement.proofs.Copies.{from-ledger, in-byte}
use Rattle.agreement.proofs.Entries.{in_group}
use Rattle.agreement.proofs.Invariant.{kept}
use Rattle.common.proofs.MemberLaws.{in-append, in_left, in_right}
use Rattle.agreement.proofs.Written.{copies-from, copies_kept}
use Rattle.ledgers.proofs.OtherLaws.{other-destination, without-byte}

-- a call with buffers just long enough
abbrev call_of : ℕ → List ℕ → Call
call_of k frame = record { to = k; frame = frame; outgoing = replicate (total propose.kind) 0; list = replicate limit 0 }

-- a frame handed to each of the ledgers 1 to k that it is for
to_each : ℕ → Written → List Call
to_each zero x = []
to_each (suc k) x = cond (has x.recipients (suc k)) (call_of (suc k) x.frame ∷ to_each k x) (to_each k x)

to_all : ℕ → List Written → List Call
to_all n [] = []
to_all n (x ∷ xs) = to_each n x ++ to_all n xs

-- a MULTICAST copy as one of these
abbrev of_desk : Entry → Written
of_desk e = record { frame = multicast_copy e; recipients = e.destinations }

-- what a call of these hands in
record Hands (n : ℕ) (xs : List Written) (c : Call) : Type 0 where
  what : Written
  is-of : In what xs
  to : ℕ
  in_group : OfGroup n to
  is : c ≡ call_of to what.frame
  recipient : has what.recipients to ≡ true

each-hands : (n k : ℕ) (x : Written) (xs : List Written) → k ≤ n → In x xs → (c : Call) → In c (to_each k x) → Hands n xs c
unfolding to_each
each-hands n zero x xs h i c = λ m. absurd m
each-hands n (suc k) x xs h i c =
    split (has x.recipients (suc k))
    (λ t. subst (λ b. In c (cond b (call_of (suc k) x.frame ∷ to_each k x) (to_each k x)) → Hands n xs c) (sym t)
    (⊎_elim
    (λ e. record { what = x; is-of = i; to = suc k; in_group = (omega arith, h); is = e; recipient = t })
    (λ m. each-hands n k x xs (omega arith) i c m)))
    (λ t. subst (λ b. In c (cond b (call_of (suc k) x.frame ∷ to_each k x) (to_each k x)) → Hands n xs c) (sym t)
    (λ m. each-hands n k x xs (omega arith) i c m))

all-hands : (n : ℕ) (ws xs : List Written) → ((x : Written) → In x ws → In x xs) → (c : Call) → In c (to_all n ws) → Hands n xs c
unfolding to_all
all-hands n [] xs sub c m = absurd m
all-hands n (w ∷ ws) xs sub c m =
    ⊎_elim (λ a. each-hands n n w xs (le_of_eq refl) (sub w (inl refl)) c a) (λ b. all-hands n ws xs (λ x i. sub x (inr i)) c b)
    (in-append c (to_each n w) (to_all n ws) m)

in-each : (n k : ℕ) (x : Written) → 1 ≤ k → k ≤ n → has x.recipients k ≡ true → In (call_of k x.frame) (to_each n x)
unfolding to_each
in-each zero k x h₁ hₙ e = absurd (omega arith)
in-each (suc n) k x h₁ hₙ e =
    by_place k (suc n)
    (λ q. subst (λ b. In (call_of k x.frame) (cond b (call_of (suc n) x.frame ∷ to_each n x) (to_each n x)))
    (sym (ap (has x.recipients) (sym q) ∙ e)) (inl (ap (λ j. call_of j x.frame) q)))
    (λ q. split (has x.recipients (suc n))
    (λ t. subst (λ b. In (call_of k x.frame) (cond b (call_of (suc n) x.frame ∷ to_each n x) (to_each n x))) (sym t)
    (inr (in-each n k x h₁ (omega (arith, q)) e)))
    (λ t. subst (λ b. In (call_of k x.frame) (cond b (call_of (suc n) x.frame ∷ to_each n x) (to_each n x))) (sym t)
    (in-each n k x h₁ (omega (arith, q)) e)))

in_all : (n k : ℕ) (x : Written) (xs : List Written) → 1 ≤ k → k ≤ n → has x.recipients k ≡ true → In x xs
    → In (call_of k x.frame) (to_all n xs)
unfolding to_all
in_all n k x [] h₁ hₙ e i = absurd i
in_all n k x (w ∷ ws) h₁ hₙ e i =
    ⊎_elim
    (λ q. in_left _ (to_each n w) (to_all n ws) (subst (λ y. In (call_of k x.frame) (to_each n y)) q (in-each n k x h₁ hₙ e)))
    (λ t. in_right _ (to_each n w) (to_all n ws) (in_all n k x ws h₁ hₙ e t))
    i

-- the MULTICAST copies of the table
in-desks : (table : List Entry) (e : Entry) → In e table → In (of_desk e) (map of_desk table)
in-desks [] e i = absurd i
in-desks (x ∷ xs) e i = ⊎_elim (λ q. inl (ap of_desk q)) (λ t. inr (in-desks xs e t)) i

of-desks : (table : List Entry) (x : Written) → In x (map of_desk table) → (e : Entry) × In e table × (x ≡ of_desk e)
of-desks [] x i = absurd i
of-desks (e ∷ es) x i = ⊎_elim (λ q. (e, inl refl, q)) (λ t. let r = of-desks es x t in (r.0, inr r.1, r.2)) i

module _ (n : ℕ) (table : List Entry) where
  -- calls that may be made whatever went before
  go_on : (ds cs : List Call) → ((c : Call) → In c ds → (es : List Call) → May n table (after n (es ++ cs)) c) → Calls n table cs
      → Calls n table (ds ++ cs)
  go_on [] cs f r = r
  go_on (d ∷ ds) cs f r = (f d (inl refl) ds, go_on ds cs (λ c i. f c (inr i)) r)

  -- what is written stays on record
  written-stays : (ds cs : List Call) (x : Written) → In x (after n cs).written → In x (after n (ds ++ cs)).written
  unfolding after
  written-stays [] cs x i = i
  written-stays (d ∷ ds) cs x i = copies_kept (after n (ds ++ cs)) d x (written-stays ds cs x i)

  buffers : (w : World) (c : Call) (k : ℕ) (frame : List ℕ) → c ≡ call_of k frame → OfGroup n k → OfDesk table c ⊎ OfLedger w c
      → May n table w c
  buffers w c k frame e h copy =
      record {
        ledger = subst (λ z. (1 ≤ z.to) × (z.to ≤ n)) (sym e) h;
        outgoing = subst (λ z. total propose.kind ≤ length z.outgoing) (sym e)
            (le_of_eq (sym (length-replicate {A = ℕ} (total propose.kind) 0)));
        list = subst (λ z. limit ≤ length z.list) (sym e) (le_of_eq (sym (length-replicate {A = ℕ} limit 0)));
        copy = copy;
      }

  -- a MULTICAST copy may be handed in at any time
  may-desk : (c : Call) → In c (to_all n (map of_desk table)) → (w : World) → May n table w c
  may-desk c i w =
      let h = all-hands n (map of_desk table) (map of_desk table) (λ x j. j) c i in
      let e = of-desks table h.what h.is-of in
      buffers w c h.to h.what.frame h.is h.in_group
      (inl (record {
        entry = e.0;
        in_table = e.1;
        frame = ap (λ z. z.frame) h.is ∙ ap (λ z. z.frame) e.2;
        destination = ap (λ z. has e.0.destinations z.to) h.is ∙ ap (λ z. has z.recipients h.to) (sym e.2)
            ∙ h.recipient;
      }))

  module _ (law : Lawful n table) (cs : List Call) (r : Calls n table cs) where
    -- what has been written, as copies: one may be handed in from then on
    of-ledger : (c : Call) → In c (to_all n (after n cs).written) → (es : List Call) → OfLedger (after n (es ++ cs)) c
    of-ledger c i es =
        let h = all-hands n (after n cs).written (after n cs).written (λ x j. j) c i in
        record {
          propose = h.what;
          written = written-stays es cs h.what h.is-of;
          frame = ap (λ z. z.frame) h.is;
          recipient = ap (λ z. has h.what.recipients z.to) h.is ∙ h.recipient;
        }

    may-ledger : (c : Call) → In c (to_all n (after n cs).written) → (es : List Call) → May n table (after n (es ++ cs)) c
    may-ledger c i es =
        let h = all-hands n (after n cs).written (after n cs).written (λ x j. j) c i in
        buffers (after n (es ++ cs)) c h.to h.what.frame h.is h.in_group (inr (of-ledger c i es))

    -- handing in such copies writes nothing more
    nothing-new : (ds : List Call) → ((c : Call) → In c ds → In c (to_all n (after n cs).written)) → Calls n table (ds ++ cs)
        → (x : Written) → In x (after n (ds ++ cs)).written → In x (after n cs).written
    unfolding after
    nothing-new [] sub q x = λ i. i
    nothing-new (d ∷ ds) sub q x =
        let a = (kept n table law (ds ++ cs) q.1).agrees in
        copies-from (after n (ds ++ cs)) d (In x (after n cs).written) x
        (nothing-new ds (λ c i. sub c (inr i)) q.1 x)
        (λ t z e. absurd (z (no_copy n table law (after n (ds ++ cs)) d q.0 a
        (from-ledger n table law (after n (ds ++ cs)) d a.copied (of-ledger d (sub d (inl refl)) ds)) t)))

    -- the recipients of what is written are of the group
    recipient-in : (x : Written) → In x (after n cs).written → (k : ℕ) → has x.recipients k ≡ true → OfGroup n k
    recipient-in x i k e =
        let s = (kept n table law cs r).agrees.copied x i in
        let d = s.entry.destinations in
        let among : has (without d s.writer) k ≡ true = ap (λ z. has z.recipients k) (sym s.is) ∙ e in
        let byte = in-byte n table law s.entry s.in_table in
        let few : k ≤ most_ledgers = split (ltb most_ledgers k)
        (λ t. both among (has-beyond (without d s.writer) k (without-byte d s.writer byte) (ltb-true _ _ t)))
        (λ t. ltb-false _ _ t) in
        in_group n d k (law.destinations s.entry s.in_table).1
        (other-destination d s.writer k byte s.from.0 (le_trans s.from.1 law.ledgers.1) few among).1

    -- every copy of what is written handed in
    second : (k : ℕ) (x : Written) → In x (after n (to_all n (after n cs).written ++ cs)).written → has x.recipients k ≡ true
        → HandedIn x.frame k (to_all n (after n cs).written ++ cs)
    second k x i e =
        let old = nothing-new (to_all n (after n cs).written) (λ c j. j) (go_on (to_all n (after n cs).written) cs may-ledger r) x i in
        let h = recipient-in x old k e in
        record {
          call = call_of k x.frame;
          among = in_left _ (to_all n (after n cs).written) cs (in_all n k x (after n cs).written h.0 h.1 e old);
          to = refl;
          bytes = refl;
        }

    second-calls : Calls n table (to_all n (after n cs).written ++ cs)
    second-calls = go_on (to_all n (after n cs).written) cs may-ledger r

-- first every MULTICAST copy, then every copy of what is written
pub completion : Completion
completion n table cs run =
    let first = to_all n (map of_desk table) in
    let calls : Calls n table (first ++ cs) = go_on n table first cs (λ c i es. may-desk n table c i (after n (es ++ cs))) run.calls in
    let rest = to_all n (after n (first ++ cs)).written in
    let same : rest ++ (first ++ cs) ≡ (rest ++ first) ++ cs = sym (append_assoc rest first cs) in (
      rest ++ first,
      record { lawful = run.lawful; calls = subst (Calls n table) same (second-calls n table run.lawful (first ++ cs) calls) },
      subst (AllHandedIn n table) same (record {
        multicasts = λ e i k h. let g = in_group n e.destinations k (run.lawful.destinations e i).1 h in
            record {
              call = call_of k (multicast_copy e);
              among = in_right _ rest (first ++ cs) (in_left _ first cs
                  (in_all n k (of_desk e) (map of_desk table) g.0 g.1 h (in-desks table e i)));
              to = refl;
              bytes = refl;
            };
        proposes = λ x i k e. second n table run.lawful (first ++ cs) calls k x i e;
      }),
    )
