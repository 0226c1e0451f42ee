-- How the definitions read on document 01's page. Each statement is a type; its proof is a term of proofs/.
use Rattle.std.specs.Prelude.{ℕ, suc, ◌+◌, ◌*◌, ◌-◌, ◌≤◌, ◌<◌, true, false, List, ◌↔◌, ◌⊎◌, ◌≡◌, pos, get_or, length}
use Rattle.model.specs.Limits.{max_guests, max_stations, max_price, max_amount, max_bays, max_account, max_round}
use Rattle.model.specs.Limits.{max_desks}
use Rattle.model.specs.Counting.{◌<?◌, ◌=?◌, count}
use Rattle.model.specs.market.Market.{Tables, bid_at, market_by, cut, Screened, Queue, queue, before, rank}
use Rattle.model.specs.market.Market.{market, opens, provisional, first_out, critical}
use Rattle.model.specs.market.Rules.{median, two_thirds, position, rule_of}
use Rattle.model.specs.market.Mechanism.{Decision, charge, sold, surplus}
use Rattle.model.specs.market.Outcome.{Results, screened, decision}
use Rattle.model.specs.market.Shape.{Shaped}
use Rattle.model.specs.Verdicts.{accepted, first_fault}
use Rattle.model.specs.declared.rule.Rule.{Rule}
use Rattle.model.specs.declared.rule.Rule.TheVariants.{Median, TwoThirds}
use Rattle.model.specs.market.Faults.{Accepted, clearing_faults}
use Rattle.model.specs.book.PlainBook.{PlainBook, last_of, entered, posting_faults}
use Rattle.model.specs.market.Gains.{guest_gain, station_gain}

-- no two places hold the same number
abbrev pub Differ : List ℕ → Type 0
Differ xs = (i k : ℕ) → i < k → k < length xs → get_or xs i 0 ≡ get_or xs k 0 → ⊥

-- 'A market'
pub record WithinLimits (t : Tables) : Type 0 where
  pub shape : Shaped t
  pub ask_most : (j : ℕ) → j < length t.asks → get_or t.asks j 0 ≤ max_price
  pub bays_least : (j : ℕ) → j < length t.asks → 1 ≤ get_or t.bays j 0
  pub bays_most : (j : ℕ) → j < length t.asks → get_or t.bays j 0 ≤ max_bays
  pub amount_least : (i : ℕ) → i < length t.amounts → 1 ≤ get_or t.amounts i 0
  pub amount_most : (i : ℕ) → i < length t.amounts → get_or t.amounts i 0 ≤ max_amount
  pub tickets_differ : Differ t.tickets
  pub bid_most : (q : ℕ) → q < length t.bids → get_or t.bids q 0 ≤ max_price

-- a market is accepted exactly within these limits
abbrev pub AcceptedIffWithinLimits : Type 0
AcceptedIffWithinLimits = (t : Tables) → Accepted t ↔ WithinLimits t

-- the numbers that name a rule, and the rules that they name
abbrev pub NamesRule : (rule : ℕ) → Type 0
NamesRule rule = (rule ≡ 1) ⊎ (rule ≡ 2)

pub record RuleNumbers : Type 0 where
  pub rule_1 : rule_of 1 ≡ Median
  pub rule_2 : rule_of 2 ≡ TwoThirds

-- a clearing call is accepted exactly where its number names a rule, its market is accepted and each result list is n
-- or m long
pub record RightLengths (t : Tables) (r : Results) : Type 0 where
  pub stations_long : length r.stations ≡ length t.amounts
  pub charges_long : length r.charges ≡ length t.amounts
  pub sold_long : length r.sold ≡ length t.asks
  pub paid_long : length r.paid ≡ length t.asks

pub record CallWithinLimits (rule : ℕ) (t : Tables) (r : Results) : Type 0 where
  pub rule_known : NamesRule rule
  pub market_accepted : Accepted t
  pub lists_fit : RightLengths t r

abbrev pub CallAcceptedIffWithinLimits : Type 0
CallAcceptedIffWithinLimits =
    (rule : ℕ) (t : Tables) (r : Results)
    → (first_fault (clearing_faults rule t r) ≡ accepted tt) ↔ CallWithinLimits rule t r

-- every account and kWh sum of a book is within its limit
pub record AccountsWithin (B : PlainBook) : Type 0 where
  pub guest_most : (i : ℕ) → i < length B.guests → get_or B.guests i 0 ≤ max_account
  pub sold_most : (j : ℕ) → j < length B.sold → get_or B.sold j 0 ≤ max_account
  pub paid_most : (j : ℕ) → j < length B.paid → get_or B.paid j 0 ≤ max_account
  pub house_most : B.house ≤ max_account

-- a posting is accepted exactly where its number names a rule, its market is accepted, the book has room for it and a
-- last round for each of the eight desks, its desk is one of them, the round is that desk's next and every account is
-- within its limit before and after
pub record PostingWithinLimits (rule : ℕ) (t : Tables) (desk round : ℕ) (B : PlainBook) : Type 0 where
  pub rule_known : NamesRule rule
  pub market_accepted : Accepted t
  pub guests_least : length t.amounts ≤ length B.guests
  pub guests_most : length B.guests ≤ max_guests
  pub stations_least : length t.asks ≤ length B.sold
  pub stations_most : length B.sold ≤ max_stations
  pub desks_counted : length B.last ≡ max_desks
  pub desk_known : desk < max_desks
  pub rounds_left : last_of B desk < max_round
  pub next_round : round ≡ last_of B desk + 1
  pub within_before : AccountsWithin B
  pub within_after : AccountsWithin (entered (rule_of rule) t desk round B)

abbrev pub PostingAcceptedIffWithinLimits : Type 0
PostingAcceptedIffWithinLimits =
    (rule : ℕ) (t : Tables) (desk round : ℕ) (B : PlainBook)
    → (first_fault (posting_faults rule t desk round B) ≡ accepted tt) ↔ PostingWithinLimits rule t desk round B

-- 1. s is in rising order; it has the numbers of l, each as often
pub record Rising (s : List ℕ) : Type 0 where
  pub rises : (j k : ℕ) → j ≤ k → k < length s → get_or s j 0 ≤ get_or s k 0

pub record Rearranged (s l : List ℕ) : Type 0 where
  pub as_long : length s ≡ length l
  pub as_often : (v : ℕ) → count (length s) (λ k. get_or s k 0 =? v) ≡ count (length l) (λ k. get_or l k 0 =? v)

-- every list has a rising order, and the cut is the ask at its position there, whichever rule names the position
abbrev pub RisingOrderExists : Type 0
RisingOrderExists = (l : List ℕ) → (s : List ℕ) × Rising s × Rearranged s l

abbrev pub CutIsAskAtPosition : Type 0
CutIsAskAtPosition = (rule : ℕ → ℕ) (t : Tables) (s : List ℕ) → Rising s → Rearranged s t.asks
    → 1 ≤ rule (length t.asks) → rule (length t.asks) ≤ length t.asks
    → cut (market_by rule t) ≡ get_or s (rule (length t.asks) - 1) 0

-- rule 1's position is the least p with 2 p at least m + 1; rule 2's is the least p with 3 p above 2 m
pub record MedianPosition (m : ℕ) : Type 0 where
  pub reaches : m + 1 ≤ 2 * median m
  pub least : (p : ℕ) → m + 1 ≤ 2 * p → median m ≤ p

pub record TwoThirdsPosition (m : ℕ) : Type 0 where
  pub passes : 2 * m < 3 * two_thirds m
  pub least : (p : ℕ) → 2 * m < 3 * p → two_thirds m ≤ p

abbrev pub PositionsAreLeast : Type 0
PositionsAreLeast = (m : ℕ) → MedianPosition m × TwoThirdsPosition m

-- each lies from 1 to m
abbrev pub PositionsLieWithin : Type 0
PositionsLieWithin = (rule : Rule) (m : ℕ) → 1 ≤ m → (1 ≤ position rule m) × (position rule m ≤ m)

-- 'so more stations may open': whoever is open under rule 1 is open under rule 2
abbrev pub RuleTwoOpensNoFewer : Type 0
RuleTwoOpensNoFewer = (t : Tables) (j : ℕ) → opens (market Median t) j ≡ true → opens (market TwoThirds t) j ≡ true

-- 3. a bid of 0 is no bid: an open station's ask lies below the cut, so the cut is above 0
abbrev pub ZeroBidIsNoCandidate : Type 0
ZeroBidIsNoCandidate = (rule : Rule) (t : Tables) (i j : ℕ) → bid_at t i j ≡ 0 → (screened rule t).candidate i j ≡ false

-- 4. the ranks of a queue's candidates are 0, 1, 2 .. without gaps or repeats, in the order of `before`
pub record RanksInOrder (Q : Queue) : Type 0 where
  pub ordered : (k i : ℕ) → k < Q.guest_count → Q.candidate k ≡ true → before Q k i ≡ true → rank Q k < rank Q i
  pub no_repeat :
      (k i : ℕ) → k < Q.guest_count → i < Q.guest_count → Q.candidate k ≡ true → Q.candidate i ≡ true
      → rank Q k ≡ rank Q i → k ≡ i
  pub below_all : (k : ℕ) → k < Q.guest_count → Q.candidate k ≡ true → rank Q k < count Q.guest_count Q.candidate
  pub no_gap :
      (r : ℕ) → r < count Q.guest_count Q.candidate
      → (k : ℕ) × (k < Q.guest_count) × (Q.candidate k ≡ true) × (rank Q k ≡ r)

abbrev pub RanksCountUp : Type 0
RanksCountUp = (rule : Rule) (t : Tables) → Accepted t → (j : ℕ) → RanksInOrder (queue (screened rule t) j)

-- 4. of equal totals the lower ticket stands first (document 02, request 2)
abbrev pub EqualTotalsGoByTicket : Type 0
EqualTotalsGoByTicket =
    (rule : Rule) (t : Tables) (j k i : ℕ) → (screened rule t).total k j ≡ (screened rule t).total i j
    → before (queue (screened rule t) j) k i ≡ (get_or t.tickets k 0 <? get_or t.tickets i 0)

-- 5. the critical total is that of the first candidate without a place, and 0 exactly where there is none
pub record CriticalIsFirstOut (Q : Queue) : Type 0 where
  pub first_out_lem : (k : ℕ) → k < Q.guest_count → first_out Q k ≡ true → critical Q ≡ Q.total k
  pub zero_if_none : count Q.guest_count Q.candidate ≤ Q.bays → critical Q ≡ 0
  pub none_if_zero : critical Q ≡ 0 → count Q.guest_count Q.candidate ≤ Q.bays

abbrev pub CriticalIsTotalOfFirstOut : Type 0
CriticalIsTotalOfFirstOut =
    (rule : Rule) (t : Tables) → Accepted t → (j : ℕ) → CriticalIsFirstOut (queue (screened rule t) j)

-- 4, 5. its ticket bounds the ties: of the candidates at the critical total those with a lower one hold a place
abbrev pub TicketOfFirstOutBoundsTies : Type 0
TicketOfFirstOutBoundsTies =
    (rule : Rule) (t : Tables) → Accepted t → (j k i : ℕ) → k < length t.amounts → i < length t.amounts
    → let Q = queue (screened rule t) j in
    first_out Q k ≡ true → Q.candidate i ≡ true → Q.total i ≡ critical Q
    → provisional Q i ≡ (get_or t.tickets i 0 <? get_or t.tickets k 0)

-- 7. guest i is assigned exactly where it holds a place, at the lowest-numbered station of greatest surplus
pub record AssignedToBest (S : Screened) (D : Decision) (i : ℕ) : Type 0 where
  pub nowhere : D.assigned i ≡ 0 → (j : ℕ) → j < S.station_count → provisional (queue S j) i ≡ false
  pub somewhere : (j : ℕ) → D.assigned i ≡ suc j → (j < S.station_count) × (provisional (queue S j) i ≡ true)
  pub greatest :
      (j k : ℕ) → D.assigned i ≡ suc j → k < S.station_count → provisional (queue S k) i ≡ true
      → surplus S i k ≤ surplus S i j
  pub lowest :
      (j k : ℕ) → D.assigned i ≡ suc j → k < j → provisional (queue S k) i ≡ true → surplus S i k < surplus S i j

abbrev pub AssignedAtBestPlace : Type 0
AssignedAtBestPlace = (rule : Rule) (t : Tables) (i : ℕ) → AssignedToBest (screened rule t) (decision rule t) i

-- 7. less than no gain cannot occur: where a place is held the charge is at most the total, so that the
-- surplus is their difference
abbrev pub NoLoss : Type 0
NoLoss = (rule : Rule) (t : Tables) → Accepted t → (i j : ℕ) → i < length t.amounts
    → provisional (queue (screened rule t) j) i ≡ true
    → surplus (screened rule t) i j + charge (screened rule t) (decision rule t) i j ≡ (screened rule t).total i j

-- 'Gain': 0 for whoever isn't assigned or sells nothing
pub record Gainless (S : Screened) (D : Decision) : Type 0 where
  pub guest_gainless : (w : ℕ → ℕ) (i : ℕ) → D.assigned i ≡ 0 → guest_gain S D w i ≡ pos 0
  pub station_gainless : (cost j : ℕ) → sold S D j ≡ 0 → station_gain S D cost j ≡ pos 0

abbrev pub GainlessWithoutTrade : Type 0
GainlessWithoutTrade = (S : Screened) (D : Decision) → Gainless S D
