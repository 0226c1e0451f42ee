-- One posting: the planned round, settled, is the plain book's step.
use Prim.Native.Nat.{ℕ, ◌+◌, ◌≤◌, ◌<◌}
use mathlib.Core.Bool.{Bool, true, false, not}
use mathlib.Core.List.{List, [], ◌∷◌, ◌++◌}
use mathlib.Core.Logic.{⊎_elim}
use mathlib.Core.Path.{◌≡◌, refl, sym, ap, subst, ◌∙◌}
use native.Mathlib.Omega.{arith}
use lib.ListN.{get_or, length}
use Rattle.std.specs.Prelude.{Ok, Err}
use Rattle.model.specs.Limits.{max_guests, max_stations, max_account, max_desks}
use Rattle.model.specs.Counting.{◌<?◌, ◌=?◌, ◌or◌, only, any, list}
use Rattle.model.specs.Numbers.{number}
use Rattle.model.specs.Promises.{Keeps}
use Rattle.model.specs.Verdicts.{Row, ◌gives◌, Verdict, accepted, refused, first_fault, giving, updated}
use Rattle.model.specs.book.Book.{Book, plain}
use Rattle.model.specs.book.PlainBook.{PlainBook, raised, entered, over_limit, book_size, no_desk, out_of_turn}
use Rattle.model.specs.book.PlainBook.{posting_faults, entered_of}
use Rattle.model.specs.book.Posting.{Posting, posting, screened_of, decision_of, to_guest, to_sold, to_paid, to_house}
use Rattle.model.specs.clauses.EntryPoints.{entering, Posts}
use Rattle.model.specs.declared.refusal.Refusal.{Refusal}
use Rattle.model.specs.market.Faults.{outside, unknown_rule, market_faults}
use Rattle.model.specs.market.Market.{Tables}
use Rattle.model.specs.market.Mechanism.{charged, sold, paid}
use Rattle.model.proofs.Tests.{same_test, or_cases, or_left, or_right, or_no, lt_yes, is_lt}
use Rattle.model.proofs.Counting.{some_cong, some_mono, get_d_list, list_cong}
use Rattle.model.proofs.Promises.{keeps_refused}
use Rattle.model.proofs.Verdicts.{fault_here, fault_first, fault_second, no_fault, gave_accepted, gave_refused}
use Rattle.model.proofs.book.Accounts.{length_raised, get_d_raised}
use Rattle.model.proofs.book.Records.{length_sold, length_paid}
use Rattle.model.proofs.market.Acceptance.{inside}
use Rattle.ledger.specs.declared.round.Round.{Round}
use Rattle.ledger.specs.Accounts.{plus}
use Rattle.ledger.specs.Plans.{adding, answer_of_plan, Planned}
use Rattle.ledger.specs.Room.{exceeding}
use Rattle.ledger.specs.Settling.{no_room, settling}

-- ---- accounts with what a round adds

-- a list of accounts no longer than what is added
module _ (n : ℕ) (f : ℕ → ℕ) (xs : List ℕ) (size : ℕ) (small : length xs ≤ size) where
  added_at :
      (k : ℕ) → k < length xs
      → get_or xs k 0 + get_or (list size (λ k. only (k <? n) (f k))) k 0 ≡ get_or xs k 0 + only (k <? n) (f k)
  added_at k l = ap (λ x. get_or xs k 0 + x) (get_d_list size _ k (omega arith))

  plus_raised : plus xs (list size (λ k. only (k <? n) (f k))) ≡ raised n f xs
  unfolding plus raised
  plus_raised = list_cong (length xs) _ _ added_at

  exceeding_raised : exceeding xs (list size (λ k. only (k <? n) (f k))) ≡ any (raised n f xs) (λ x. max_account <? x)
  unfolding exceeding any
  exceeding_raised =
      rw length_raised
      (some_cong (length xs) _ _ (λ k l. ap (λ x. max_account <? x) (added_at k l ∙ sym (get_d_raised n f xs k l))))

-- what is above the limit before is above it after
over_raised :
    (n : ℕ) (f : ℕ → ℕ) (xs : List ℕ) → any xs (λ x. max_account <? x) ≡ true
    → any (raised n f xs) (λ x. max_account <? x) ≡ true
unfolding any
over_raised n f xs e =
    rw length_raised (some_mono (length xs) _ _
    (λ k l p. is_lt _ _ (omega (arith, get_d_raised n f xs k l, lt_yes max_account (get_or xs k 0) p))) e)

-- ---- the verdict

-- only what is above the limit after counts
over_after :
    (p : Posting) (B : PlainBook)
    → (over_limit B or over_limit (entered_of p B)) ≡ over_limit (entered_of p B)
unfolding over_limit entered
over_after p B = same_test _ _
    (λ e. ⊎_elim
    (λ q. ⊎_elim
    (λ q. ⊎_elim
    (λ q. ⊎_elim
    (λ q. or_left _ _ (or_left _ _ (or_left _ _ (over_raised _ _ B.guests q))))
    (λ q. or_left _ _ (or_left _ _ (or_right _ _ (over_raised _ _ B.sold q))))
    (or_cases _ _ q))
    (λ q. or_left _ _ (or_right _ _ (over_raised _ _ B.paid q)))
    (or_cases _ _ q))
    (λ q. or_right _ _ (is_lt _ _ (omega (arith, lt_yes max_account B.house q))))
    (or_cases _ _ q))
    (λ q. q)
    (or_cases _ _ e))
    (λ e. or_right _ _ e)

or_regroup : (a b c d : Bool) → (a or (b or c) or d) ≡ (a or b or c or d)
unfolding ◌or◌
or_regroup true b c d = refl
or_regroup false b c d = refl

-- ---- the round

-- it does not depend on its desk and its number
same_adding : (rule : ℕ) (t : Tables) (d n : ℕ) → adding (posting rule t 0 0) ≡ adding (posting rule t d n)
unfolding adding to_guest to_sold to_paid to_house
same_adding rule t d n = refl

twice : (b : Bool) (x : ℕ) → only b (only b x) ≡ only b x
unfolding only
twice true x = refl
twice false x = refl

-- its first m stations are those of the market
same_raised :
    (m size : ℕ) (f : ℕ → ℕ) (xs : List ℕ) → length xs ≤ size
    → raised m (λ j. get_or (list size (λ j. only (j <? m) (f j))) j 0) xs ≡ raised m f xs
unfolding raised
same_raised m size f xs small = list_cong (length xs) _ _ (λ k l.
    ap (λ x. get_or xs k 0 + x) (ap (only (k <? m)) (get_d_list size _ k (omega arith)) ∙ twice (k <? m) (f k)))

-- a posting p to the lent book L
module _ (p : Posting) (L : Book) where
  abbrev B : PlainBook
  B = plain L

  abbrev early : List Row
  early = unknown_rule p.rule ∷ market_faults p.tables

  abbrev n : ℕ
  n = length p.tables.amounts

  abbrev m : ℕ
  m = length p.tables.asks

  abbrev wrong_size : Bool
  wrong_size =
      outside n max_guests (length B.guests) or outside m max_stations (length B.sold)
      or not (length B.last =? max_desks)

  late : Bool → List Row
  late over =
      (wrong_size gives 13) ∷ no_desk p.desk ∷ out_of_turn p.round (get_or B.last p.desk 0) ∷ (over gives 12) ∷ []

  after_limit : Bool
  after_limit = over_limit B or over_limit (entered_of p B)

  in_turn : posting_faults p.rule p.tables p.desk p.round B ≡ early ++ late after_limit
  unfolding posting_faults book_size late after_limit
  in_turn = refl

  -- the book is no larger than a round
  abbrev Sized : Type 0
  Sized = (length B.guests ≤ max_guests) × (length B.sold ≤ max_stations) × (length B.paid ≤ max_stations)

  sizes : wrong_size ≡ false → Sized
  unfolding plain
  sizes e =
      let (lists, _) = or_no _ _ e in
      let (guests, stations) = or_no _ _ lists in
      let few = (inside _ _ _ stations).1 in
      ((inside _ _ _ guests).1, few, omega (arith, few, length_sold L.stations, length_paid L.stations))

  module _ (z : Sized) where
    room_is : no_room (adding p) B ≡ after_limit
    unfolding no_room adding to_guest to_sold to_paid to_house over_limit entered after_limit
    room_is = rw (
      exceeding_raised n (charged (screened_of p) (decision_of p)) B.guests max_guests z.0,
      exceeding_raised m (sold (screened_of p) (decision_of p)) B.sold max_stations z.1,
      exceeding_raised m (paid (screened_of p) (decision_of p)) B.paid max_stations z.2,
    )
        (or_regroup _ _ _ _ ∙ sym (over_after p B))

    leaves_are : (settling (adding p) p.desk p.round B).leaves ≡ entered_of p B
    unfolding settling adding to_guest to_sold to_paid to_house entered
    leaves_are = λ x. record {
      guests = plus_raised n (charged (screened_of p) (decision_of p)) B.guests max_guests z.0 x;
      sold = same_raised m max_stations (sold (screened_of p) (decision_of p)) B.sold z.1 x;
      paid = same_raised m max_stations (paid (screened_of p) (decision_of p)) B.paid z.2 x;
      house = (entered_of p B).house;
      last = (entered_of p B).last;
    }

  -- the room counts only where the size is right
  same_late : (b : Bool) → wrong_size ≡ b → first_fault (late (no_room (adding p) B)) ≡ first_fault (late after_limit)
  unfolding late
  same_late true e = fault_here _ e ∙ sym (fault_here _ e)
  same_late false e = ap (λ o. first_fault (late o)) (room_is (sizes e))

  abbrev settled : Verdict
  settled = first_fault (settling (adding p) p.desk p.round B).faults

  same_faults :
      first_fault early ≡ accepted tt → settled ≡ first_fault (posting_faults p.rule p.tables p.desk p.round B)
  unfolding settling adding book_size late
  same_faults e = same_late wrong_size refl ∙ sym (ap first_fault in_turn ∙ fault_second early _ e)

  same_left :
      (v : Verdict) → settled ≡ v
      → updated v (settling (adding p) p.desk p.round B).leaves B ≡ updated v (entered_of p B) B
  unfolding settling adding book_size updated
  same_left (accepted _) e = leaves_are (sizes (no_fault _ _ _ e).0)
  same_left (refused k) e = refl

  -- ---- the posting

  pub refused_posts : (x : Refusal) → Planned p.rule p.tables (Err x) → Posts L p (refused (number x)) L
  unfolding answer_of_plan entering
  refused_posts x h =
      keeps_refused (ap first_fault in_turn ∙ fault_first early _ (gave_refused _ _ _ (sym h.planned)))

  pub settled_posts :
      (r : Round) (answer : Verdict) (exit : Book) → Planned p.rule p.tables (Ok r)
      → Keeps (settling r p.desk p.round) B answer (plain exit) → Posts L p answer exit
  unfolding answer_of_plan entering
  settled_posts r answer exit h c =
      let (e, q) = gave_accepted _ _ _ (sym h.planned) in
      let k : r ≡ adding p = sym q ∙ same_adding p.rule p.tables p.desk p.round in
      let d = subst (λ r. Keeps (settling r p.desk p.round) B answer (plain exit)) k c in
      let v = same_faults e in
      record {
        answered = d.answered ∙ ap (λ v. giving v tt) v;
        left = d.left ∙ same_left settled refl ∙ ap (λ v. updated v (entered_of p B) B) v;
      }
