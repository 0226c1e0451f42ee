-- What the view of a bid table shows: a guest's row, and all bids.
use Rattle.std.specs.Prelude.{ℕ, ◌+◌, ◌*◌, ◌-◌, ◌<◌, Bool, true, false, List, [], ◌≡◌, get_or, length, take, drop}
use Rattle.model.specs.Counting.{◌≤?◌, ◌=?◌, ◌and◌}
use Rattle.model.specs.market.Market.{Tables, bid_at}
use Rattle.model.specs.market.Faults.{Accepted}

-- a list where a test passes, the empty list where not
unfoldable pub shown : Bool → List ℕ → List ℕ
shown true l = l
shown false l = []

-- the m bids of a guest counted from 1; none for guest 0 or a row that ends past the table
unfoldable pub row_of : (bids : List ℕ) (m guest : ℕ) → List ℕ
row_of bids m guest = shown (1 ≤? guest and guest * m ≤? length bids) (take m (drop ((guest - 1) * m) bids))

-- all bids, where a row is as wide as there are stations
unfoldable pub bids_of : (bids : List ℕ) (width stations : ℕ) → List ℕ
bids_of bids width stations = shown (width =? stations) bids

-- in an accepted market the row of each guest is as long as there are stations, and shows its bid at each
abbrev pub RowsShowBids : Type 0
RowsShowBids =
    (t : Tables) → Accepted t → (i : ℕ) → i < length t.amounts → let row = row_of t.bids t.width (i + 1) in
    (length row ≡ length t.asks) × ((j : ℕ) → j < length t.asks → get_or row j 0 ≡ bid_at t i j)

-- and the bids are all that were lent
abbrev pub ViewShowsBids : Type 0
ViewShowsBids = (t : Tables) → Accepted t → bids_of t.bids t.width (length t.asks) ≡ t.bids
