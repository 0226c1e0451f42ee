-- An accepted market's rows, and the tickets that differ.
use Rattle.std.proofs.Common.{◌≡◌, ℕ, ◌+◌, ◌<◌, length, arith}
use Rattle.model.specs.clauses.Rows.{row_of}
use Rattle.model.specs.market.Market.{Tables, bid_at}
use Rattle.allocation.specs.Screens.{screened_at}
use Rattle.model.specs.claims.Meaning.{WithinLimits}
use Rattle.model.proofs.clauses.Rows.{rows_show_bids}
use Rattle.model.proofs.market.Acceptance.{same_place, accepted_iff_within_limits}
use Rattle.model.proofs.market.Truthful.{Keys}
use Rattle.quiet.specs.Efficient.{of}

-- a guest's row is as long as there are stations, and shows its bid at each
pub row_shows :
    (t : Tables) → WithinLimits t → (i : ℕ) → i < length t.amounts
    → let row = row_of t.bids (length t.asks) (i + 1) in
    (length row ≡ length t.asks) × ((j : ℕ) → j < length t.asks → of row j ≡ bid_at t i j)
unfolding bid_at
row_shows t w i li =
    rw w.shape.width_is at (rows_show_bids t ((accepted_iff_within_limits t).1 w) i li)

pub keys : (t : Tables) (c : ℕ) → WithinLimits t → Keys (screened_at t c).key (screened_at t c).guest_count
unfolding screened_at
keys t c w k i lk li e = same_place t.tickets w.tickets_differ k i
    (omega (arith, w.shape.tickets_length)) (omega (arith, w.shape.tickets_length)) e
