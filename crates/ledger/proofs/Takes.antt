-- The faults of a round that is settled, test by test, and what the book has where there is none.
use Prim.Native.Nat.{ℕ, ◌+◌, ◌≤◌, ◌<◌}
use mathlib.Core.Bool.{Bool, true, false, not, ◌||◌}
use mathlib.Core.List.{List, [], ◌∷◌}
use mathlib.Core.Path.{◌≡◌, refl, sym, ap, ◌∙◌}
use native.Mathlib.Omega.{arith}
use lib.ListN.{get_or, length, set}
use Rattle.model.specs.Limits.{max_guests, max_stations, max_account, max_desks}
use Rattle.model.specs.Counting.{◌<?◌, ◌≤?◌, ◌=?◌, ◌or◌}
use Rattle.model.specs.Promises.{Keeps}
use Rattle.model.specs.Verdicts.{Row, ◌gives◌, accepted, refused, first_fault}
use Rattle.model.specs.market.Faults.{outside}
use Rattle.model.specs.book.Book.{Book, book, plain, sold_of, paid_of}
use Rattle.model.specs.book.PlainBook.{raised, book_size, no_desk, out_of_turn}
use Rattle.model.specs.declared.account.StationAccount.{StationAccount}
use Rattle.model.proofs.Tests.{lt_no, le_no, or_no}
use Rattle.model.proofs.Counting.{some_no}
use Rattle.model.proofs.Loops.{either_is}
use Rattle.model.proofs.Promises.{keeps_accepted}
use Rattle.model.proofs.Verdicts.{fault_here, fault_later, fault_none, no_fault}
use Rattle.model.proofs.book.Records.{length_sold}
use Rattle.model.proofs.market.Acceptance.{inside, equal}
use Rattle.ledger.specs.declared.round.Round.{Round}
use Rattle.ledger.specs.Accounts.{plus, Addable}
use Rattle.ledger.specs.Room.{exceeding}
use Rattle.ledger.specs.Settling.{no_room, settling}

-- where no account exceeds, each sum is within the limit, so within 64 bits
addable : (xs adds : List ℕ) → exceeding xs adds ≡ false → Addable xs adds
unfolding exceeding
addable xs adds e = record { fits = λ k l. omega (arith, lt_no _ _ (some_no (length xs) _ e k l)) }

module _ (r : Round) (desk round : ℕ) (L : Book) where
  abbrev faults : List Row
  faults = (settling r desk round (plain L)).faults

  abbrev size : Row
  size = book_size r.guests r.stations (length L.guests) (length L.stations) (length L.last)

  abbrev turn : Row
  turn = out_of_turn round (get_or L.last desk 0)

  abbrev room : Row
  room = no_room r (plain L) gives 12

  faults_are : faults ≡ size ∷ no_desk desk ∷ turn ∷ room ∷ []
  unfolding settling plain
  faults_are = rw length_sold refl

  -- ---- test by test

  module _ {a : Bool} (s : (a gives 13) ≡ size) where
    by_size : first_fault faults ≡ first_fault ((a gives 13) ∷ no_desk desk ∷ turn ∷ room ∷ [])
    by_size = ap first_fault (faults_are ∙ ap (λ x. x ∷ no_desk desk ∷ turn ∷ room ∷ []) (sym s))

    pub size_refused : a ≡ true → refused 13 ≡ first_fault faults
    size_refused e = sym (by_size ∙ fault_here _ e)

    -- the book is no larger than a round
    pub sizes : a ≡ false → (length L.guests ≤ max_guests) × (length L.stations ≤ max_stations)
        × (length L.last ≡ max_desks)
    unfolding book_size
    sizes e =
        let k : (outside r.guests max_guests (length L.guests) or outside r.stations max_stations (length L.stations)
        or not (length L.last =? max_desks)) ≡ false = cc in
        let h = or_no _ _ k in
        let g = or_no _ _ h.0 in
        ((inside _ _ _ g.0).1, (inside _ _ _ g.1).1, equal _ _ h.1)

    module _ (e : a ≡ false) {b : Bool} (d : (b gives 25) ≡ no_desk desk) where
      by_desk : first_fault faults ≡ first_fault ((b gives 25) ∷ turn ∷ room ∷ [])
      by_desk = by_size ∙ fault_later _ _ e ∙ ap (λ x. first_fault (x ∷ turn ∷ room ∷ [])) (sym d)

      pub desk_refused : b ≡ true → refused 25 ≡ first_fault faults
      desk_refused h = sym (by_desk ∙ fault_here _ h)

      pub desk_in : b ≡ false → desk < length L.last
      unfolding no_desk
      desk_in h = let k : max_desks ≤? desk ≡ false = cc in omega (arith, le_no max_desks desk k, (sizes e).2)

      module _ (h : b ≡ false) {t : Bool} (w : (t gives 11) ≡ turn) where
        by_turn : first_fault faults ≡ first_fault ((t gives 11) ∷ room ∷ [])
        by_turn = by_desk ∙ fault_later _ _ h ∙ ap (λ x. first_fault (x ∷ room ∷ [])) (sym w)

        pub turn_refused : t ≡ true → refused 11 ≡ first_fault faults
        turn_refused q = sym (by_turn ∙ fault_here _ q)

        module _ (q : t ≡ false) {x y z : Bool} (guests : x ≡ exceeding L.guests r.charges)
            (stations : y ≡ (exceeding (sold_of L.stations) r.sold or exceeding (paid_of L.stations) r.paid))
            (house : z ≡ (max_account <? L.house + r.margin.0)) where
          full_is : (x || y || z) ≡ no_room r (plain L)
          unfolding no_room plain
          full_is = either_is (either_is guests stations) house

          by_room : first_fault faults ≡ first_fault (((x || y || z) gives 12) ∷ [])
          by_room = by_turn ∙ fault_later _ _ q ∙ ap (λ o. first_fault ((o gives 12) ∷ [])) (sym full_is)

          pub room_refused : (x || y || z) ≡ true → refused 12 ≡ first_fault faults
          room_refused k = sym (by_room ∙ fault_here _ k)

          pub room_left : (x || y || z) ≡ false → accepted tt ≡ first_fault faults
          room_left k = sym (by_room ∙ fault_later _ _ k ∙ fault_none)

  -- ---- where none holds

  pub record Takes : Type 0 where
    pub guests_most : length L.guests ≤ max_guests
    pub stations_least : r.stations ≤ length L.stations
    pub stations_most : length L.stations ≤ max_stations
    pub desk_below : desk < length L.last
    pub guests_room : Addable L.guests r.charges
    pub sold_room : Addable (sold_of L.stations) r.sold
    pub paid_room : Addable (paid_of L.stations) r.paid
    pub house_room : L.house + r.margin.0 ≤ max_account

  pub takes : accepted tt ≡ first_fault faults → Takes
  unfolding book_size no_desk out_of_turn no_room plain
  takes e =
      let (size, e1) = no_fault _ _ _ (sym (ap first_fault faults_are) ∙ sym e) in
      let (far, e2) = no_fault _ _ _ e1 in
      let (_, e3) = no_fault _ _ _ e2 in
      let (full, _) = no_fault _ _ _ e3 in
      let (lists, lasts) = or_no _ _ size in
      let (guests, stations) = or_no _ _ lists in
      let (accounts, house) = or_no _ _ full in
      let (guests_full, stations_full) = or_no _ _ accounts in
      let (sold, paid) = or_no _ _ stations_full in
      record {
        guests_most = (inside _ _ _ guests).1;
        stations_least = (inside _ _ _ stations).0;
        stations_most = (inside _ _ _ stations).1;
        desk_below = omega (arith, le_no max_desks desk far, equal (length L.last) max_desks lasts);
        guests_room = addable _ _ guests_full;
        sold_room = addable _ _ sold;
        paid_room = addable _ _ paid;
        house_room = lt_no _ _ house;
      }

  pub settled :
      {guests : List ℕ} (stations : List StationAccount) {house : ℕ} → accepted tt ≡ first_fault faults
      → guests ≡ plus L.guests r.charges
      → (sold_of stations ≡ raised r.stations (λ j. get_or r.sold j 0) (sold_of L.stations))
      × (paid_of stations ≡ raised r.stations (λ j. get_or r.paid j 0) (paid_of L.stations))
      → house ≡ L.house + r.margin.0
      → Keeps (settling r desk round) (plain L) (accepted tt)
      (plain (book guests stations house (set L.last desk round)))
  unfolding settling plain
  settled stations e g s h = keeps_accepted (sym e) refl (λ x. record {
    guests = g x;
    sold = s.0 x;
    paid = s.1 x;
    house = h x;
    last = set L.last desk round;
  })
