-- Two gates, one market. Document 02, request 9. Guests count from 0: the first gate's stand in front.
use Rattle.std.specs.Prelude.{ℕ, ◌+◌, ◌*◌, ◌≤◌, ◌<◌, Bool, not, List, [], ◌∷◌, ◌++◌, ◌≡◌, get_or, length}
use Rattle.model.specs.Limits.{max_guests}
use Rattle.model.specs.Counting.{◌<?◌, ◌=?◌, ◌or◌, some, any}
use Rattle.model.specs.Verdicts.{Row, ◌gives◌}
use Rattle.model.specs.market.Faults.{market_faults}
use Rattle.model.specs.market.Market.{Tables, regular}
use Rattle.model.specs.sheet.Lent.{LentTables, lent_tables}

-- the guests of t, then those of u, at the stations of t
abbrev pub together : Tables → Tables → Tables
together t u = regular t.asks t.bays (t.amounts ++ u.amounts) (t.tickets ++ u.tickets) (t.bids ++ u.bids)

-- t and u may be joined: one list of asks and one of bays, guests within the limit, no ticket in both
pub record Joinable (t u : Tables) : Type 0 where
  pub same_asks : u.asks ≡ t.asks
  pub same_bays : u.bays ≡ t.bays
  pub guests_most : length t.amounts + length u.amounts ≤ max_guests
  pub tickets_apart :
      (i k : ℕ) → i < length t.tickets → k < length u.tickets → get_or t.tickets i 0 ≡ get_or u.tickets k 0 → ⊥

-- two lists have another length, or another number in some place
unfoldable pub differs : List ℕ → List ℕ → Bool
differs xs ys = not (length xs =? length ys) or some (length xs) (λ k. not (get_or xs k 0 =? get_or ys k 0))

-- a number stands in both
unfoldable pub meet : List ℕ → List ℕ → Bool
meet xs ys = any xs (λ x. any ys (λ y. x =? y))

-- the lent tables, by their lengths, beside the joined counts
unfoldable pub joined_lengths : (n m amounts tickets asks bays bids : ℕ) → Row
joined_lengths n m amounts tickets asks bays bids =
    (not (amounts =? n) or not (tickets =? n) or not (asks =? m) or not (bays =? m) or not (bids =? n * m)) gives 10

-- after each market's own checks
unfoldable pub pair_faults : (t u : Tables) (amounts tickets asks bays bids : ℕ) → List Row
pair_faults t u amounts tickets asks bays bids =
    ((differs t.asks u.asks or differs t.bays u.bays) gives 20)
    ∷ ((max_guests <? length t.amounts + length u.amounts) gives 2)
    ∷ (meet t.tickets u.tickets gives 21)
    ∷ joined_lengths (length t.amounts + length u.amounts) (length t.asks) amounts tickets asks bays bids
    ∷ []

-- a call that joins two markets into lent tables
unfoldable pub joining_faults : (t u : Tables) → LentTables → List Row
joining_faults t u l =
    market_faults t ++ market_faults u
    ++ pair_faults t u (length l.amounts) (length l.tickets) (length l.asks) (length l.bays)
    (length l.bids)

-- the joined market in the lent tables
unfoldable pub joined_tables : (t u : Tables) → LentTables
joined_tables t u =
    let b = together t u in
    lent_tables b.amounts b.tickets b.asks b.bays b.bids
