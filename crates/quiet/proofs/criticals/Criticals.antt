-- Laws of the critical totals: what rows of bids make of them, and what is left where stations are closed.
use Rattle.std.proofs.Common.{◌≡◌, ℕ, zero, suc, ◌+◌, ◌<◌, ◌≤◌, max, Bool, true, false, List, length, set, sym, refl}
use Rattle.std.proofs.Common.{ap, ◌∙◌, add-one, arith}
use Rattle.model.specs.Limits.{max_stations}
use Rattle.model.specs.Counting.{◌<?◌, only, greatest, list}
use Rattle.model.specs.clauses.Rows.{row_of}
use Rattle.model.specs.market.Market.{Tables, bid_at}
use Rattle.allocation.specs.Screens.{screened_at}
use Rattle.model.specs.market.Stable.{turned_away_at}
use Rattle.model.proofs.Counting.{greatest_le, greatest_cong}
use Rattle.model.proofs.Loops.{element, in_table}
use Rattle.allocation.specs.Totals.{max_total}
use Rattle.quiet.specs.Efficient.{Priced, of, Seats, critical_of}
use Rattle.quiet.specs.Seating.{Seating, HeldIn}
use Rattle.quiet.specs.Criticals.{least_rank, total_from, raised_by, passed_at, passed_over}
use Rattle.quiet.specs.Criticals.{Renewed, Rows, Room}
use Rattle.quiet.proofs.criticals.Renewed.{renewed_turn, renewed_next, renewed_again, renewed_as}
use Rattle.quiet.proofs.criticals.Renewed.{renewed_zeros}
use Rattle.quiet.proofs.criticals.Ranks.{total_from_low}
use Rattle.quiet.proofs.criticals.TurnedAway.{turned_is}
use Rattle.quiet.proofs.seats.Listing.{row_shows}

-- one row
pub raised_turn :
    (row : List ℕ) (amount least : ℕ) {l₀ l : List ℕ} {j top v : ℕ} → Renewed j (raised_by row amount least l₀) l₀ l
    → j + 1 < length l₀ → top ≡ of l (j + 1) → v ≡ max top (total_from least (of row j) j amount)
    → Renewed (j + 1) (raised_by row amount least l₀) l₀ (set l (j + 1) v)
unfolding raised_by
raised_turn row amount least {j = j} h b q e =
    renewed_turn h b (e ∙ ap (λ x. max x (total_from least (of row j) j amount)) (q ∙ renewed_next h))

-- a row as the view shows it
pub raised_as_shown :
    (amount c seat : ℕ) {row row' : List ℕ} {m least : ℕ} {l₀ l : List ℕ} → row ≡ row' → length row' ≡ m
    → least ≡ least_rank row c seat → Renewed (length row) (raised_by row amount least l₀) l₀ l
    → Renewed m (raised_by row' amount (least_rank row' c seat) l₀) l₀ l
raised_as_shown amount c seat shown row_long e h = rw (← row_long, ← shown, ← e) h

-- all rows
module _ (amounts bids chosen : List ℕ) {m c : ℕ} (rows : Rows amounts bids chosen m c) where
  abbrev passed : ℕ → ℕ → ℕ
  passed = passed_over amounts bids chosen m c

  passed_low : (n j : ℕ) → n ≤ length amounts → j < m → passed n j ≤ max_total
  unfolding passed_over passed_at
  passed_low n j ln lj = greatest_le n _ max_total (λ i li.
      let lg : i < length amounts = omega arith in
      total_from_low _ _ _ _ ((rows.row i lg).bid_most j (omega (arith, rows.row_long i lg))) (rows.amount_most i lg))

  pub passed_none : {l : List ℕ} → l ≡ list (max_stations + 1) (λ _. 0) → m ≤ max_stations → Renewed m (passed 0) l l
  unfolding passed_over greatest
  passed_none e few = record {
    same = refl;
    first = refl;
    stations = λ j lj. element _ _ e (suc j) (omega arith);
    others = λ j _. refl;
  }

  module _ (n : ℕ) {l₀ l : List ℕ} (h : Renewed m (passed n) l₀ l) where
    pub passed_room : n ≤ length amounts → m < length l₀ → Room m l
    passed_room ln room = record {
      long = omega (arith, h.same);
      low = λ j lj. rw (h.stations j lj) (passed_low n j ln lj);
    }

    pub passed_turn :
        {l' : List ℕ}
        → let row = row_of bids m (n + 1) in
        Renewed m (raised_by row (of amounts n) (least_rank row c (of chosen n)) l) l l'
        → Renewed m (passed (n + 1)) l₀ l'
    unfolding raised_by passed_over passed_at greatest
    passed_turn k = renewed_as (passed (n + 1))
        (λ j lj. ap (λ x. max x (passed_at amounts bids chosen m c n j)) (h.stations j lj)
        ∙ sym (ap (λ k. passed k j) (add-one n))) (renewed_again h k)

only_greatest : (b : Bool) (n : ℕ) (f : ℕ → ℕ) → only b (greatest n f) ≡ greatest n (λ k. only b (f k))
unfolding only greatest
only_greatest true n f = refl
only_greatest false zero f = refl
only_greatest false (suc n) f = omega (arith, only_greatest false n f)

module _ (t : Tables) {c : ℕ} (p : Priced t c) {chosen : List ℕ} (seats : Seats t c chosen) where
  abbrev n : ℕ
  n = length t.amounts

  abbrev m : ℕ
  m = length t.asks

  seat_most : (i : ℕ) → i < n → (s : ℕ) → of chosen i ≡ s → s ≤ m
  seat_most i li zero e = omega arith
  seat_most i li (suc j) e = (seats.candidates i j li e).0

  pub rows_known : Rows t.amounts t.bids chosen m c
  unfolding bid_at
  rows_known = record {
    row = λ i li. let (row_long, shows) = row_shows t p.within i li in
        record {
          few = omega (arith, row_long, p.within.shape.stations_most);
          bid_most = λ j lj. let lm : j < m = omega (arith, row_long) in
              rw (shows j lm)
              (p.within.bid_most _ (omega (arith, p.within.shape.bids_length, in_table n m i j li lm)));
        };
    row_long = λ i li. (row_shows t p.within i li).0;
    amount_most = p.within.amount_most;
    cut_most = p.cut_low;
    chosen_long = seats.long;
    seat_most = λ i li. seat_most i li _ refl;
  }

  -- at an open station they are the totals turned away, at a closed one there is none
  passed_open :
      (j : ℕ) → j < m
      → only (of t.asks j <? c) (passed_over t.amounts t.bids chosen m c n j)
      ≡ turned_away_at (screened_at t c) (of chosen) j
  unfolding passed_over turned_away_at screened_at
  passed_open j lj = only_greatest _ _ _ ∙ greatest_cong _ _ _ (λ i li. turned_is t p seats li lj)

  pub criticals_are :
      {l₀ l₁ l₂ : List ℕ} → l₀ ≡ list (max_stations + 1) (λ _. 0)
      → Renewed m (passed_over t.amounts t.bids chosen m c n) l₀ l₁
      → Renewed m (λ j. only (of t.asks j <? c) (of l₁ (suc j))) l₁ l₂
      → l₂ ≡ list (max_stations + 1) (critical_of (screened_at t c) (of chosen) m)
  criticals_are e h k = renewed_zeros (max_stations + 1) e
      (renewed_as (turned_away_at (screened_at t c) (of chosen))
      (λ j lj. ap (only (of t.asks j <? c)) (h.stations j lj) ∙ passed_open j lj) (renewed_again h k))

-- seats of holders are candidacies
pub seats_known : (t : Tables) {c : ℕ} {R : Seating} → HeldIn t c R → Seats t c R.chosen
unfolding screened_at
seats_known t h = record { long = h.sized.chosen_long; candidates = h.holding.candidates }
