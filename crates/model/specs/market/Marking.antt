-- A clearing with its places and floors, and the mark of one that is handed in. Document 02, request 13. Guests and
-- stations count from 0 here.
use Rattle.std.specs.Prelude.{ℕ, ◌*◌, Bool, not, List, ◌∷◌, get_or, length}
use Rattle.model.specs.Counting.{◌=?◌, ◌and◌, ◌or◌, only, some, list, joined}
use Rattle.model.specs.Verdicts.{Row, ◌gives◌}
use Rattle.model.specs.market.Market.{Tables, Screened, queue, provisional, critical}
use Rattle.model.specs.market.Outcome.{Results, screened, outcome}
use Rattle.model.specs.market.Faults.{unknown_rule, counts, lengths, values}
use Rattle.model.specs.declared.rule.Rule.{Rule}

-- the lists of a clearing: the results; a place for each guest and station, row after row as the bids, 1 held, 0 not;
-- each station's critical total (document 02: its floor)
pub record FullResults : Type 0 where
  pub results : Results
  pub places : List ℕ
  pub floors : List ℕ

abbrev pub full_results : Results → (places floors : List ℕ) → FullResults
full_results results places floors = record { results = results; places = places; floors = floors }

-- what is handed in: these lists, the cut and the margin
pub record Submission : Type 0 where
  pub lists : FullResults
  pub cut : ℕ
  pub margin : ℕ

abbrev pub submission : FullResults → (cut margin : ℕ) → Submission
submission lists cut margin = record { lists = lists; cut = cut; margin = margin }

-- ---- the truthful round

unfoldable pub place_table : Screened → List ℕ
place_table S = joined S.guest_count (λ i. list S.station_count (λ j. only (provisional (queue S j) i) 1))

-- 0 at a station that is not open, since it has no candidate
unfoldable pub floors_of : Screened → List ℕ
floors_of S = list S.station_count (λ j. critical (queue S j))

unfoldable pub full_results_of : Rule → Tables → FullResults
full_results_of rule t =
    full_results (outcome rule t).results (place_table (screened rule t)) (floors_of (screened rule t))

unfoldable pub round_of : Rule → Tables → Submission
round_of rule t = submission (full_results_of rule t) (outcome rule t).cut (outcome rule t).margin

-- ---- the mark

-- two lists are of one length, and equal at each place
unfoldable pub same : List ℕ → List ℕ → Bool
same xs ys = length xs =? length ys and not (some (length xs) (λ k. not (get_or xs k 0 =? get_or ys k 0)))

-- seats, charges, kWh and payments
unfoldable pub same_results : Results → Results → Bool
same_results r s =
    same r.stations s.stations and same r.charges s.charges and same r.sold s.sold
    and same r.paid s.paid

-- all eight: these, places, floors, cut and margin
unfoldable pub same_submission : Submission → Submission → Bool
same_submission a b =
    same_results a.lists.results b.lists.results and same a.lists.places b.lists.places
    and same a.lists.floors b.lists.floors and a.cut =? b.cut and a.margin =? b.margin

-- yes: all that is handed in is as in the truthful round
unfoldable pub correct : Rule → Tables → Submission → Bool
correct rule t s = same_submission s (round_of rule t)

-- ---- faults of a call that gives such a clearing or marks one

-- the six lists, lent or handed in
unfoldable pub full_lengths : (n m stations charges sold paid places floors : ℕ) → Row
full_lengths n m stations charges sold paid places floors =
    (not (stations =? n) or not (charges =? n) or not (sold =? m) or not (paid =? m) or not (places =? n * m)
    or not (floors =? m)) gives 10

unfoldable pub full_table_faults : Tables → FullResults → List Row
full_table_faults t f =
    counts (length t.amounts) (length t.asks)
    ∷ lengths (length t.amounts) (length t.asks) (length t.bays) (length t.tickets) (length t.bids)
    t.width
    ∷ full_lengths (length t.amounts) (length t.asks) (length f.results.stations)
    (length f.results.charges) (length f.results.sold) (length f.results.paid) (length f.places)
    (length f.floors)
    ∷ values t

-- by the number of its rule
unfoldable pub marking_faults : (rule : ℕ) → Tables → FullResults → List Row
marking_faults rule t f = unknown_rule rule ∷ full_table_faults t f
