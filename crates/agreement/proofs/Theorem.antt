-- Demand 3, of every run: the theorem.
-- Assumes nothing.
use Prim.Native.Nat.{ℕ}
use mathlib.Core.Path.{◌≡◌, refl, ◌∙◌}
use mathlib.Core.List.{List}
use Rattle.common.specs.Places.{In}
use Rattle.payment.specs.Payments.{stamp_of}
use Rattle.payment.specs.declared.Stamp.{Stamp}
use Rattle.held.specs.Held.{at}
use Rattle.agreement.specs.Run.{Call, Entry, Lawful, Run, after, multicast_copy}
use Rattle.agreement.specs.Claims.{AgreementInAll, Addressed, Agreement, AllHandedIn, Demand3, HandedIn, HasStamp, OfGroup}
use Rattle.agreement.proofs.Agreed.{entry_of}
use Rattle.agreement.proofs.Few.{run-in-all}
use Rattle.agreement.proofs.Full.{all-posted, own-given}
use Rattle.agreement.proofs.Invariant.{Kept, answers-only, asked, kept, stays-always}
use Rattle.agreement.proofs.Order.{earlier, never-twice, no_gaps, same-order}
use Rattle.agreement.proofs.Logs.{posted-stamp}
use Rattle.agreement.proofs.Stamps.{goes-here, goes-there, no-two-alike, one-stamp, own-here, time-here}

module _ (n : ℕ) (table : List Entry) (cs : List Call) (run : Run n table cs) where
  law : Lawful n table
  law = run.lawful

  k : Kept n table (after n cs)
  k = kept n table run.lawful cs run.calls

  only-its : (j m : ℕ) → OfGroup n j → In m ((after n cs).logs j) → Addressed table j m
  only-its j m h i =
      let x = (k.logs j h).posted m i in
      record {
        entry = entry_of m (at ((after n cs).ledgers j).payments x.at_place).destinations;
        in_table = k.agrees.listed j m _ h.0 h.1 (record {
          at_place = x.at_place;
          within = x.within;
          used = x.used;
          number = x.number;
          so = refl;
        });
        number = refl;
        destination = goes-there n table law (after n cs) k.agrees j h x.at_place x.within x.used;
      }

  everything : AllHandedIn n table cs → (j m : ℕ) → OfGroup n j → Addressed table j m → In m ((after n cs).logs j)
  everything handed j m h e =
      let own = (own-given n table law cs run.calls handed e.entry e.in_table j e.destination).1 in
      (k.logs j h).complete m (record {
        at_place = own.at_place;
        within = own.within;
        used = own.used;
        number = own.number ∙ e.number;
        so = all-posted n table law cs run.calls handed j h own.at_place own.within own.used;
      })

  stamped : (j m : ℕ) → OfGroup n j → In m ((after n cs).logs j) → (s : Stamp) × HasStamp ((after n cs).ledgers j) m s
  stamped j m h i =
      let x = (k.logs j h).posted m i in
      let p = at ((after n cs).ledgers j).payments x.at_place in (
        stamp_of p,
        record {
          at_place = x.at_place;
          within = x.within;
          used = x.used;
          number = x.number;
          so = (posted-stamp p x.so, refl);
        },
      )

  -- a posted payment has its ledger's own time, which a MULTICAST copy gave it
  asked_here : (j m : ℕ) → OfGroup n j → In m ((after n cs).logs j) → (e : Entry) × In e table × (e.number ≡ m)
      × HandedIn (multicast_copy e) j cs
  asked_here j m h i =
      let s = stamped j m h i in
      let x = s.1 in
      let d = (at ((after n cs).ledgers j).payments x.at_place).destinations in
      let own = own-here n table law (after n cs) k.agrees j m s.0 h x in (
        entry_of m d,
        k.agrees.listed j m d h.0 h.1 (goes-here n table law (after n cs) k.agrees j m s.0 h x),
        refl,
        asked n table law cs run.calls j m d _ h (time-here n table law (after n cs) k.agrees j m s.0 h x j own),
      )

  demanded : Demand3 n table cs
  demanded =
      record {
        answers = answers-only n table law cs run.calls;
        one-stamp = one-stamp n table law (after n cs) k.agrees;
        no-two-alike = no-two-alike n table law (after n cs) k.agrees;
        rising = earlier n table law (after n cs) k;
        once = never-twice n table law (after n cs) k;
        same-order = same-order n table law (after n cs) k;
        no_gaps = no_gaps n table law (after n cs) k;
        stamped = stamped;
        only-its = only-its;
        asked = asked_here;
        all-posted = everything;
        stays = λ ds r j h. stays-always n table law cs ds r j;
      }

-- demand 3
pub demand-3 : Agreement
demand-3 = demanded

-- as the demand is worded: no more payments in all than a ledger can hold
pub demand-3-in-all : AgreementInAll
demand-3-in-all n table cs r = demand-3 n table cs (run-in-all n table cs r)
