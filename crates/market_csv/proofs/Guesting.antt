-- The lines of all guests, and the end of the text.
use Rattle.std.proofs.Common.{◌≡◌, ℕ, zero, suc, ◌+◌, ◌*◌, ◌<◌, ◌≤◌, List, length, get_or, drop, refl, ◌∙◌, Ok, Err}
use Rattle.std.proofs.Common.{arith, drop_of_length-le, drop-cons, below_more}
use Rattle.model.specs.Limits.{max_guests}
use Rattle.model.specs.declared.refusal.Refusal.{Refusal}
use Rattle.model.specs.declared.refusal.Refusal.TheVariants.{CountsOutOfRange}
use Rattle.model.specs.csv.Places.{line_of}
use Rattle.model.specs.csv.Content.{guests, value, guest_field}
use Rattle.model.proofs.Loops.{in_table}
use Rattle.market_csv.specs.Reached.{Place, past}
use Rattle.market_csv.specs.Rows.{LineStarts, FaultIs, GuestDue, GuestEnd, GuestIs, GuestRead}
use Rattle.market_csv.specs.Parses.{GuestsHeld, GuestsDue, GuestsEnd}
use Rattle.market_csv.specs.declared.own.OwnTables.{OwnTables}
use Rattle.market_csv.proofs.Faulty.{many_guests_lem, end_good}

-- ---- how many lines a text has

lines_split : (s : List ℕ) (p : ℕ) → p ≤ length s → line_of (past s p) + line_of (drop p s) ≡ line_of s
unfolding past line_of
lines_split s zero h = omega arith
lines_split s (suc p) h = let e = drop-cons s p 0 h in omega (arith, rw e at (lines_split s p (omega arith)))

lines_all : (s : List ℕ) (p : ℕ) → p ≤ length s → length s ≤ p → line_of (past s p) ≡ line_of s
unfolding line_of
lines_all s p h g = omega (arith, rw (drop_of_length-le s g) at (lines_split s p h))

-- ---- the loop

pub record Guesting (s : List ℕ) (m : ℕ) (own own' : OwnTables) (p : Place) (i : ℕ) : Type 0 where
  pub starts : LineStarts s (2 + i) (guest_field m i) p
  pub held : GuestsHeld s m i own'
  pub asks_kept : own'.asks ≡ own.asks
  pub bays_kept : own'.bays ≡ own.bays

next_field : (m i : ℕ) → guest_field m (i + 1) ≡ guest_field m i + 2 + m
unfolding guest_field
next_field m i = omega arith

module _ {entry : Place} {m : ℕ} (d : GuestsDue entry m) (own : OwnTables) where
  pub guesting_none : Guesting entry.text m own own entry 0
  unfolding guest_field
  guesting_none = record {
    starts = let z : 2 * m + 0 * (m + 2) ≡ m + m = omega arith in rw z d.starts;
    held = record {
      tickets_are = λ i h. absurd (omega arith);
      amounts_are = λ i h. absurd (omega arith);
      bids_are = λ i j h g. absurd (omega arith);
    };
    asks_kept = refl;
    bays_kept = refl;
  }

  module _ {own' : OwnTables} {p : Place} {i : ℕ} (g : Guesting entry.text m own own' p i) where
    pub guests_end : i ≤ max_guests → length p.text ≤ p.at → GuestsEnd entry.text i m own own'
    unfolding guests
    guests_end low h =
        let k : length entry.text ≤ p.at = rw g.starts.same at h in
        record {
          good = end_good g.starts.reached k g.starts.starts (omega arith);
          guests_are =
              omega (arith, g.starts.reached.line_is, lines_all entry.text p.at g.starts.reached.within k);
          few = low;
          held = g.held;
          asks_kept = g.asks_kept;
          bays_kept = g.bays_kept;
        }

    pub guest_due : i < max_guests → p.at < length p.text → GuestDue p m i
    guest_due low h = record {
      stations_are = rw g.starts.same d.stations_are;
      some = d.some;
      few = d.few;
      low = low;
      starts = rw g.starts.same (record {
        reached = g.starts.reached;
        starts = g.starts.starts;
        same = refl;
      });
      more = h;
    }

    pub guest_fault :
        (exit : Place) (own'' : OwnTables) (r : Refusal) → i < max_guests → p.at < length p.text
        → GuestRead p m i own' exit own'' (Err r) → FaultIs entry.text r
    unfolding GuestIs
    guest_fault exit own'' r low h f = rw g.starts.same at (f (guest_due low h))

    pub guest_turn :
        (exit : Place) (own'' : OwnTables) → i < max_guests → p.at < length p.text
        → GuestRead p m i own' exit own'' (Ok tt) → Guesting entry.text m own own'' exit (i + 1)
    unfolding GuestIs
    guest_turn exit own'' low h f =
        let t : GuestEnd entry.text m i exit own' own'' = rw g.starts.same at (f (guest_due low h)) in
        let q = t.put in
        let z : 2 + (i + 1) ≡ 3 + i = omega arith in
        let o : i + 0 ≡ i = omega arith in
        record {
          starts = rw (z, next_field m i) t.starts;
          held = record {
            tickets_are = below_more (λ k. get_or own''.tickets k 0 ≡ value entry.text (guest_field m k)) i
                (λ k h. q.ticket.kept k h ∙ g.held.tickets_are k h) (rw o at (q.ticket.done 0 (omega arith)));
            amounts_are = below_more (λ k. get_or own''.amounts k 0 ≡ value entry.text (guest_field m k + 1)) i
                (λ k h. q.amount.kept k h ∙ g.held.amounts_are k h) (rw o at (q.amount.done 0 (omega arith)));
            bids_are = λ k j h hj.
                below_more (λ k. get_or own''.bids (k * m + j) 0 ≡ value entry.text (guest_field m k + 2 + j)) i
                (λ k h. q.bids_are.kept (k * m + j) (in_table i m k j h hj) ∙ g.held.bids_are k j h hj)
                (q.bids_are.done j hj) k h;
          };
          asks_kept = q.asks_kept ∙ g.asks_kept;
          bays_kept = q.bays_kept ∙ g.bays_kept;
        }

    pub too_many_guests : i ≡ max_guests → p.at < length p.text → FaultIs entry.text CountsOutOfRange
    too_many_guests e h =
        let z : 2 + i ≡ 202 = omega arith in
        many_guests_lem (rw z at g.starts.reached) (rw g.starts.same at h) g.starts.starts
