-- A market, and what a mechanism sees of it once the cut is known. Document 01, 'A market' and 'Clearing' 1 to 5.
-- Guests and stations count from 0 here. Nothing is sorted: a rank is a count of those before.
use Rattle.std.specs.Prelude.{ℕ, ◌+◌, ◌*◌, Bool, not, List, get_or, length}
use Rattle.model.specs.Counting.{◌<?◌, ◌≤?◌, ◌=?◌, ◌and◌, ◌or◌, only, greatest, count}
use Rattle.model.specs.market.Rules.{position}
use Rattle.model.specs.declared.rule.Rule.{Rule}

-- a market as it is lent: five tables of any lengths and values, and the row width of the bid table
pub record Tables : Type 0 where
  pub asks : List ℕ
  pub bays : List ℕ
  pub amounts : List ℕ
  pub tickets : List ℕ
  pub bids : List ℕ
  pub width : ℕ

abbrev pub tables : (asks bays amounts tickets bids : List ℕ) (width : ℕ) → Tables
tables asks bays amounts tickets bids width =
    record { asks = asks; bays = bays; amounts = amounts; tickets = tickets; bids = bids; width = width }

-- rows as wide as there are stations
abbrev pub regular : (asks bays amounts tickets bids : List ℕ) → Tables
regular asks bays amounts tickets bids = tables asks bays amounts tickets bids (length asks)

-- guest i's bid at station j: bids stand row after row
unfoldable pub bid_at : Tables → ℕ → ℕ → ℕ
bid_at t i j = get_or t.bids (i * length t.asks + j) 0

-- a market as numbers. `position` is that of the cut, from 1; of equal totals the lower `key` stands first
pub record Market : Type 0 where
  pub guest_count : ℕ
  pub station_count : ℕ
  pub position : ℕ
  pub ask : ℕ → ℕ
  pub bays : ℕ → ℕ
  pub amount : ℕ → ℕ
  pub bid : ℕ → ℕ → ℕ
  pub key : ℕ → ℕ

-- the market that tables state, by a rule for the position of the cut, which sees the number of stations
-- alone. A guest's key is its ticket (document 02, request 2)
unfoldable pub market_by : (rule : ℕ → ℕ) → Tables → Market
market_by rule t = record {
  guest_count = length t.amounts;
  station_count = length t.asks;
  position = rule (length t.asks);
  ask = λ j. get_or t.asks j 0;
  bays = λ j. get_or t.bays j 0;
  amount = λ i. get_or t.amounts i 0;
  bid = bid_at t;
  key = λ i. get_or t.tickets i 0;
}

-- the market under a rule (document 02, request 6; document 01's is rule 1)
unfoldable pub market : Rule → Tables → Market
market rule t = market_by (position rule) t

-- 1. the cut: the greatest ask that fewer than `position` asks lie below (`CutIsAskAtPosition`: the ask at that
-- position in rising order)
unfoldable pub cut : Market → ℕ
cut M =
    greatest M.station_count
    (λ j. only (count M.station_count (λ k. M.ask k <? M.ask j) <? M.position) (M.ask j))

-- 2. an open station
unfoldable pub opens : Market → ℕ → Bool
opens M j = M.ask j <? cut M

-- what a mechanism sees of a market: candidates and totals, and no ask
pub record Screened : Type 0 where
  pub guest_count : ℕ
  pub station_count : ℕ
  pub cut : ℕ
  pub bays : ℕ → ℕ
  pub amount : ℕ → ℕ
  pub key : ℕ → ℕ
  pub candidate : ℕ → ℕ → Bool
  pub total : ℕ → ℕ → ℕ

-- 3. guest i is a candidate at station j; 4. its total there
unfoldable pub screen : Market → Screened
screen M = record {
  guest_count = M.guest_count;
  station_count = M.station_count;
  cut = cut M;
  bays = M.bays;
  amount = M.amount;
  key = M.key;
  candidate = λ i j. opens M j and cut M ≤? M.bid i j;
  total = λ i j. M.bid i j * M.amount i;
}

-- the candidates of one station
pub record Queue : Type 0 where
  pub guest_count : ℕ
  pub bays : ℕ
  pub candidate : ℕ → Bool
  pub total : ℕ → ℕ
  pub key : ℕ → ℕ

unfoldable pub queue : Screened → ℕ → Queue
queue S j = record {
  guest_count = S.guest_count;
  bays = S.bays j;
  candidate = λ i. S.candidate i j;
  total = λ i. S.total i j;
  key = S.key;
}

-- 4. k stands before i: by a greater total, or by the lower key at an equal total
unfoldable pub before : Queue → ℕ → ℕ → Bool
before Q k i = Q.total i <? Q.total k or (Q.total i =? Q.total k and Q.key k <? Q.key i)

-- how many candidates stand before i
unfoldable pub rank : Queue → ℕ → ℕ
rank Q i = count Q.guest_count (λ k. Q.candidate k and before Q k i)

-- 4. i is a provisional winner (document 01: holds a place)
unfoldable pub provisional : Queue → ℕ → Bool
provisional Q i = Q.candidate i and rank Q i <? Q.bays

-- 5. k is the first candidate without a place: as many stand before it as there are bays
unfoldable pub first_out : Queue → ℕ → Bool
first_out Q k = Q.candidate k and rank Q k =? Q.bays

-- 5. the critical total (document 01: the floor): the greatest total of a candidate without a place, 0 for none
unfoldable pub critical : Queue → ℕ
critical Q = greatest Q.guest_count (λ k. only (Q.candidate k and not (rank Q k <? Q.bays)) (Q.total k))
