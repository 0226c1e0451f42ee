-- An accepted market is the regular one of its lists, with its bids through their view.
use Prim.Native.Nat.{ℕ}
use mathlib.Core.List.{List}
use mathlib.Core.Path.{◌≡◌, sym, ap, ◌∙◌}
use lib.ListN.{length}
use Rattle.model.specs.market.Market.{Tables, tables, regular}
use Rattle.model.specs.market.Faults.{Accepted}
use Rattle.model.specs.clauses.Rows.{bids_of}
use Rattle.model.proofs.clauses.Rows.{view_shows_bids}
use Rattle.model.proofs.market.Acceptance.{accepted_iff_within_limits}

pub regular_is :
    (t : Tables) → Accepted t
    → regular t.asks t.bays t.amounts t.tickets (bids_of t.bids t.width (length t.asks)) ≡ t
regular_is t a =
    let w = ((accepted_iff_within_limits t).0 a).shape in
    ap (λ b. regular t.asks t.bays t.amounts t.tickets b) (view_shows_bids t a)
    ∙ ap (λ m. tables t.asks t.bays t.amounts t.tickets t.bids m) (sym w.width_is)

-- so of a market that is lent with a row width, and the bids that its view shows
pub regular_shown :
    {asks bays amounts tickets bids shown : List ℕ} {width : ℕ} {t : Tables}
    → tables asks bays amounts tickets bids width ≡ t → Accepted t → shown ≡ bids_of bids width (length asks)
    → regular asks bays amounts tickets shown ≡ t
regular_shown {asks} {bays} {amounts} {tickets} {bids} {shown} {width} {t} e a q =
    rw q (regular_is (tables asks bays amounts tickets bids width) (rw e a)) ∙ e
