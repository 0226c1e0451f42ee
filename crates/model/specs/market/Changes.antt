-- A market with another row of a guest, or with one other bid, and what it changes. Document 02, requests 11 and 14.
-- Guests and stations count from 0 here; a call names its guest from 1 on.
use Rattle.std.specs.Prelude.{ℕ, zero, suc, ◌-◌, Bool, true, false, cond, not, List, [], ◌∷◌, ◌++◌, ℤ, get_or, length}
use Rattle.model.specs.Limits.{max_price}
use Rattle.model.specs.Counting.{◌<?◌, ◌=?◌, ◌or◌, any, count, list, joined}
use Rattle.model.specs.Verdicts.{Row, ◌gives◌}
use Rattle.model.specs.market.Market.{Tables, tables, bid_at}
use Rattle.model.specs.market.Outcome.{screened, decision}
use Rattle.model.specs.market.Faults.{outside, unknown_rule, market_faults}
use Rattle.model.specs.market.Gains.{guest_gain}
use Rattle.model.specs.declared.rule.Rule.{Rule}

-- a bid table, row after row
unfoldable pub bid_table : (n m : ℕ) (bid : ℕ → ℕ → ℕ) → List ℕ
bid_table n m bid = joined n (λ i. list m (bid i))

-- the market with these bids, and all else as it was
abbrev pub with_bids : Tables → (bid : ℕ → ℕ → ℕ) → Tables
with_bids t bid =
    tables t.asks t.bays t.amounts t.tickets (bid_table (length t.amounts) (length t.asks) bid)
    t.width

-- with guest i's row replaced
unfoldable pub bids_with_row : Tables → (i : ℕ) (row : List ℕ) → ℕ → ℕ → ℕ
bids_with_row t i row k j = cond (k =? i) (get_or row j 0) (bid_at t k j)

abbrev pub with_row : Tables → (i : ℕ) (row : List ℕ) → Tables
with_row t i row = with_bids t (bids_with_row t i row)

-- with guest i's bid at station j replaced: its own row, but for that bid
unfoldable pub row_with_bid : Tables → (i j bid : ℕ) → List ℕ
row_with_bid t i j bid = list (length t.asks) (λ l. cond (l =? j) bid (bid_at t i l))

abbrev pub with_bid : Tables → (i j bid : ℕ) → Tables
with_bid t i j bid = with_row t i (row_with_bid t i j bid)

-- guest i's gain in the truthful round, by its worths
unfoldable pub gain : Rule → Tables → (i : ℕ) (worths : List ℕ) → ℤ
gain rule t i worths = guest_gain (screened rule t) (decision rule t) (λ j. get_or worths j 0) i

-- from one assignment to another: 1 becomes seated, 2 becomes unseated, 0 neither
unfoldable pub seat_change : (before after : ℕ) → ℕ
seat_change zero zero = 0
seat_change zero (suc j) = 1
seat_change (suc j) zero = 2
seat_change (suc j) (suc k) = 0

-- of guest k by each guest's assignment before and after, where guest i's row is changed: 0 for i itself
unfoldable pub change : (before after : ℕ → ℕ) (i k : ℕ) → ℕ
change before after i k = cond (k =? i) 0 (seat_change (before k) (after k))

-- the list of changes, one for each of n guests, and how many are not 0
unfoldable pub changes : (n : ℕ) (before after : ℕ → ℕ) (i : ℕ) → List ℕ
changes n before after i = list n (change before after i)

unfoldable pub changed : List ℕ → ℕ
changed l = count (length l) (λ k. not (get_or l k 0 =? 0))

-- of the truthful rounds of a market before and after guest i's row is another
unfoldable pub changes_with : Rule → Tables → (i : ℕ) (row : List ℕ) → List ℕ
changes_with rule t i row =
    changes (length t.amounts) (decision rule t).assigned (decision rule (with_row t i row)).assigned i

-- two tests come out otherwise
unfoldable pub differ : Bool → Bool → Bool
differ true b = not b
differ false b = b

-- at how many of m stations a place changed: held before and not after, or after and not before
unfoldable pub places_changed : (m : ℕ) (before after : ℕ → Bool) → ℕ
places_changed m before after = count m (λ j. differ (before j) (after j))

-- no guest of this number from 1 on
abbrev pub no_such_guest : (n guest : ℕ) → Row
no_such_guest n guest = (guest =? 0 or n <? guest) gives 24

-- after the market's own checks: the guest's number, the lengths of its lists, that of the lent one, the prices
unfoldable pub try_faults : (n m guest : ℕ) (worths row : List ℕ) (changes : ℕ) → List Row
try_faults n m guest worths row changes =
    ((guest =? 0 or n <? guest) gives 24)
    ∷ ((not (length worths =? m) or not (length row =? m)) gives 5)
    ∷ (not (changes =? n) gives 10)
    ∷ ((any worths (outside 0 max_price) or any row (outside 0 max_price)) gives 9)
    ∷ []

-- a call that tries another row of a guest, by the number of its rule and the length of the list that it is lent
unfoldable pub trying_faults : (rule : ℕ) → Tables → (guest : ℕ) (worths row : List ℕ) (changes : ℕ) → List Row
trying_faults rule t guest worths row changes =
    unknown_rule rule
    ∷ market_faults t ++ try_faults (length t.amounts) (length t.asks) guest worths row changes

-- the gains that it answers, the first by the market as it is, the second with the row
unfoldable pub both_gains : Rule → Tables → (guest : ℕ) (worths row : List ℕ) → ℤ × ℤ
both_gains rule t guest worths row =
    (gain rule t (guest - 1) worths, gain rule (with_row t (guest - 1) row) (guest - 1) worths)
