-- The faults of a market and of a clearing call, each a table in the order of document 01, 'Refusals by place'.
use Rattle.std.specs.Prelude.{ℕ, ◌*◌, Bool, not, List, [], ◌∷◌, ◌≡◌, get_or, length}
use Rattle.model.specs.Limits.{max_guests, max_stations, max_price, max_amount, max_bays}
use Rattle.model.specs.Counting.{◌<?◌, ◌=?◌, ◌or◌, some, any}
use Rattle.model.specs.Verdicts.{Row, ◌gives◌, Verdict, accepted, first_fault}
use Rattle.model.specs.market.Market.{Tables}
use Rattle.model.specs.market.Outcome.{Results}
use Rattle.model.specs.market.Rules.{named, is_unknown}

unfoldable pub outside : (low high : ℕ) → ℕ → Bool
outside low high x = x <? low or high <? x

-- two places hold the same number
unfoldable pub repeats : List ℕ → Bool
repeats xs = some (length xs) (λ k. some k (λ i. get_or xs i 0 =? get_or xs k 0))

-- a rule number that names none (document 02, request 6)
unfoldable pub unknown_rule : ℕ → Row
unknown_rule rule = is_unknown (named rule) gives 18

-- counts, and lengths of the market's tables
unfoldable pub counts : (n m : ℕ) → Row
counts n m = (max_guests <? n or m =? 0 or max_stations <? m) gives 2

unfoldable pub lengths : (n m bays tickets bids width : ℕ) → Row
lengths n m bays tickets bids width =
    (not (bays =? m) or not (tickets =? n) or not (bids =? n * m) or not (width =? m)) gives 5

-- result lists
unfoldable pub list_lengths : (n m stations charges sold paid : ℕ) → Row
list_lengths n m stations charges sold paid =
    (not (stations =? n) or not (charges =? n) or not (sold =? m) or not (paid =? m)) gives 10

-- all asks, then all bays, then all amounts, then all bids, then two equal tickets
unfoldable pub values : Tables → List Row
values t =
    (any t.asks (outside 0 max_price) gives 6)
    ∷ (any t.bays (outside 1 max_bays) gives 7)
    ∷ (any t.amounts (outside 1 max_amount) gives 8)
    ∷ (any t.bids (outside 0 max_price) gives 9)
    ∷ (repeats t.tickets gives 15)
    ∷ []

-- the clearing's rows, those on the rule and on result lists aside
unfoldable pub market_faults : Tables → List Row
market_faults t =
    counts (length t.amounts) (length t.asks)
    ∷ lengths (length t.amounts) (length t.asks) (length t.bays) (length t.tickets) (length t.bids)
    t.width
    ∷ values t

-- an accepted market
unfoldable pub verdict : Tables → Verdict
verdict t = first_fault (market_faults t)

abbrev pub Accepted : Tables → Type 0
Accepted t = verdict t ≡ accepted tt

-- and with the result lists that a call is lent
unfoldable pub table_faults : Tables → Results → List Row
table_faults t r =
    counts (length t.amounts) (length t.asks)
    ∷ lengths (length t.amounts) (length t.asks) (length t.bays) (length t.tickets) (length t.bids)
    t.width
    ∷ list_lengths (length t.amounts) (length t.asks) (length r.stations) (length r.charges)
    (length r.sold) (length r.paid)
    ∷ values t

-- a clearing call, by the number of its rule
unfoldable pub clearing_faults : (rule : ℕ) → Tables → Results → List Row
clearing_faults rule t r = unknown_rule rule ∷ table_faults t r

-- the code table and the tables of outcomes, by their lengths (document 02, request 7)
unfoldable pub explained_lengths : (n m codes : ℕ) (outcomes : List ℕ) → Row
explained_lengths n m codes outcomes = (not (codes =? n * m) or any outcomes (λ k. not (k =? n))) gives 10

unfoldable pub explained_faults : Tables → (codes : ℕ) (outcomes : List ℕ) → List Row
explained_faults t codes outcomes =
    counts (length t.amounts) (length t.asks)
    ∷ lengths (length t.amounts) (length t.asks) (length t.bays) (length t.tickets) (length t.bids)
    t.width
    ∷ explained_lengths (length t.amounts) (length t.asks) codes outcomes
    ∷ values t

-- a call that explains a clearing, by the number of its rule
unfoldable pub explaining_faults : (rule : ℕ) → Tables → (codes : ℕ) (outcomes : List ℕ) → List Row
explaining_faults rule t codes outcomes = unknown_rule rule ∷ explained_faults t codes outcomes
