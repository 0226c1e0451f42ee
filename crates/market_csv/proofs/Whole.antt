-- The three parts of the pass, one after the other.
use Rattle.std.proofs.Common.{◌≡◌, ℕ, false, List, ◌++◌, length, get_or, refl, ap, ◌∙◌, inr, arith}
use Rattle.std.proofs.Common.{Ok, Err}
use Rattle.std.proofs.lemmas.List.{get_or_append_left}
use Rattle.model.specs.Counting.{◌<?◌, ◌=?◌, ◌and◌, ◌or◌, only}
use Rattle.model.specs.declared.refusal.Refusal.{Refusal}
use Rattle.model.specs.csv.Faults.{fields_of, is_bid, is_narrow, most_by, most}
use Rattle.model.proofs.Tests.{and_false}
use Rattle.market_csv.specs.Reached.{Place, place}
use Rattle.market_csv.specs.Rows.{FaultIs, AsksEnd, AsksRead, RowDue, RowEnd, RowIs, RowRead}
use Rattle.market_csv.specs.Parses.{GuestsDue, GuestsEnd, GuestsIs, GuestsRead, Parsed}
use Rattle.market_csv.specs.declared.own.OwnTables.{OwnTables}

abbrev same : ℕ → ℕ
same v = v

pub asks_fault :
    {s : List ℕ} {o : Place} (asks : List ℕ) (p : Place) (r : Refusal) → o ≡ place s 0
    → AsksRead o.text p asks (Err r) → FaultIs s r
unfolding AsksRead
asks_fault asks p r e f = rw e at f

module _
    {s : List ℕ} (asks : List ℕ) {m : ℕ} {o : Place} (p : Place) (e : o ≡ place s 0)
    (f : AsksRead o.text p asks (Ok m)) where
  a : AsksEnd s m p asks
  unfolding AsksRead
  a = rw e at f

  pub bays_due : RowDue p m 1 0 m 65_535 false
  unfolding fields_of only ◌<?◌ most most_by is_narrow ◌=?◌ ◌or◌ ◌and◌ is_bid
  bays_due = record {
    some = a.some;
    after_first = omega arith;
    before = omega arith;
    fields_are = rw a.starts.same (omega (arith, a.stations_are));
    largest_is = λ _. refl;
    empty_is = λ _. refl;
    reached = rw a.starts.same a.starts.reached;
    unended = inr (and_false _);
  }

  module _ (n : ℕ) (z : n ≡ m) (exit : Place) (row : List ℕ) where
    pub bays_fault : (r : Refusal) → RowRead same 65_535 false n p exit row (Err r) → FaultIs s r
    unfolding RowIs
    bays_fault r f = let d : RowDue p n 1 0 m 65_535 false = rw z bays_due in rw a.starts.same at (f _ _ _ d)

    pub bays_end : RowRead same 65_535 false n p exit row (Ok tt) → RowEnd same s m 2 m exit row
    unfolding RowIs
    bays_end f =
        let d : RowDue p n 1 0 m 65_535 false = rw z bays_due in rw (z, a.starts.same) at (f _ _ _ d)

  module _ {exit : Place} {row : List ℕ} (b : RowEnd same s m 2 m exit row) where
    pub guests_due : GuestsDue exit m
    guests_due = record {
      stations_are = rw b.starts.same a.stations_are;
      some = a.some;
      few = a.few;
      starts = rw b.starts.same (record { reached = b.starts.reached; starts = b.starts.starts; same = refl });
    }

    module _ (own own' : OwnTables) where
      pub guests_fault : (r : Refusal) → GuestsRead exit m own own' (Err r) → FaultIs s r
      unfolding GuestsIs
      guests_fault r f = rw b.starts.same at (f guests_due)

      pub parsed :
          (n : ℕ) (rest : List ℕ) → length row ≡ m → own.asks ≡ asks → own.bays ≡ row ++ rest
          → GuestsRead exit m own own' (Ok n) → Parsed s n m own'
      unfolding GuestsIs
      parsed n rest l ea eb f =
          let g : GuestsEnd s n m own own' = rw b.starts.same at (f guests_due) in
          record {
            good = g.good;
            guests_are = g.guests_are;
            stations_are = a.stations_are;
            few_guests = g.few;
            some = a.some;
            few = a.few;
            held = g.held;
            asks_are = λ j h. ap (λ l. get_or l j 0) (g.asks_kept ∙ ea) ∙ a.asks_are j h;
            bays_are = λ j h. ap (λ l. get_or l j 0) (g.bays_kept ∙ eb)
                ∙ get_or_append_left row rest 0 j (omega arith) ∙ b.row_is j h;
          }
