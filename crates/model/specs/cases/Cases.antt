-- Document 01's cases A to J and limits, calls and postings: one table, and one fact over it, `CasesHold`, which is
-- proved by computation.
use Rattle.std.specs.Prelude.{ℕ, suc, List, [], ◌∷◌, map, ◌≡◌, length, replicate}
use Rattle.model.specs.Counting.{list}
use Rattle.model.specs.Verdicts.{Answer, Verdict, accepted, refused, first_fault, giving}
use Rattle.model.specs.market.Market.{Tables, tables, regular}
use Rattle.model.specs.market.Mechanism.{charge}
use Rattle.model.specs.market.Efficient.{Candidacy, candidacy, candidacies}
use Rattle.model.specs.market.Outcome.{results, Outcome, outcome_of, screened, decision, outcome}
use Rattle.model.specs.market.Outcome.{efficient_outcome}
use Rattle.model.specs.market.Rules.{rule_of}
use Rattle.model.specs.declared.rule.Rule.TheVariants.{Median}
use Rattle.model.specs.market.Faults.{unknown_rule, market_faults, verdict, clearing_faults}
use Rattle.model.specs.book.PlainBook.{posting_faults}

-- with tickets 1, 2, 3 .. in guest order, as document 01's cases have them
abbrev pub numbered : (asks bays amounts bids : List ℕ) → Tables
numbered asks bays amounts bids = regular asks bays amounts (list (length amounts) suc) bids

-- Table I of document 000
unfoldable pub table_i : Tables
table_i = numbered (4 ∷ 1 ∷ 3 ∷ 2 ∷ 5 ∷ []) (1 ∷ 2 ∷ 4 ∷ 2 ∷ 3 ∷ []) (5 ∷ 2 ∷ 6 ∷ 4 ∷ 3 ∷ [])
    (0 ∷ 4 ∷ 0 ∷ 5 ∷ 2
    ∷ 2 ∷ 0 ∷ 5 ∷ 1 ∷ 0
    ∷ 7 ∷ 5 ∷ 0 ∷ 4 ∷ 0
    ∷ 6 ∷ 4 ∷ 0 ∷ 3 ∷ 0
    ∷ 0 ∷ 0 ∷ 2 ∷ 3 ∷ 5 ∷ [])

-- asks 2 and 6, one bay each, bids at station 1 only
unfoldable pub pair : (amounts bids : List ℕ) → Tables
pair amounts bids = numbered (2 ∷ 6 ∷ []) (1 ∷ 1 ∷ []) amounts bids

unfoldable pub case_e : Tables
case_e = pair (3 ∷ 3 ∷ []) (8 ∷ 0 ∷ 8 ∷ 0 ∷ [])

-- E with tickets 9 and 4
unfoldable pub case_eTickets : Tables
case_eTickets = regular (2 ∷ 6 ∷ []) (1 ∷ 1 ∷ []) (3 ∷ 3 ∷ []) (9 ∷ 4 ∷ []) (8 ∷ 0 ∷ 8 ∷ 0 ∷ [])

-- four guests of one total for two bays, with these tickets
unfoldable pub tied : (tickets : List ℕ) → Tables
tied tickets = regular (2 ∷ 6 ∷ []) (2 ∷ 1 ∷ []) (3 ∷ 3 ∷ 3 ∷ 3 ∷ []) tickets (8 ∷ 0 ∷ 8 ∷ 0 ∷ 8 ∷ 0 ∷ 8 ∷ 0 ∷ [])

unfoldable pub case_g : Tables
case_g = pair (3 ∷ 2 ∷ []) (9 ∷ 0 ∷ 10 ∷ 0 ∷ [])

-- one station, one guest: ask, bays, amount, bid
unfoldable pub single : (ask bays amount bid : ℕ) → Tables
single ask bays amount bid = numbered (ask ∷ []) (bays ∷ []) (amount ∷ []) (bid ∷ [])

-- one guest, two stations
unfoldable pub lone : Tables
lone = pair (1 ∷ []) (6 ∷ 0 ∷ [])

-- two guests, two open stations of one bay each: asks 0, 0, 1, 1, amounts 1
unfoldable pub two : (bids : List ℕ) → Tables
two bids = numbered (0 ∷ 0 ∷ 1 ∷ 1 ∷ []) (1 ∷ 1 ∷ 1 ∷ 1 ∷ []) (1 ∷ 1 ∷ []) bids

-- both bid 4 at both stations, and the second has the lower ticket
unfoldable pub all_tied : Tables
all_tied = regular (0 ∷ 0 ∷ 1 ∷ 1 ∷ []) (1 ∷ 1 ∷ 1 ∷ 1 ∷ []) (1 ∷ 1 ∷ []) (8 ∷ 3 ∷ [])
    (4 ∷ 4 ∷ 0 ∷ 0 ∷ 4 ∷ 4 ∷ 0 ∷ 0 ∷ [])

-- asks 1 to 6, one bay each, one guest of 1 kWh
unfoldable pub six : (bids : List ℕ) → Tables
six bids = numbered (1 ∷ 2 ∷ 3 ∷ 4 ∷ 5 ∷ 6 ∷ []) (1 ∷ 1 ∷ 1 ∷ 1 ∷ 1 ∷ 1 ∷ []) (1 ∷ []) bids

-- its bid at the first station, and at the fourth
unfoldable pub six_first : Tables
six_first = six (9 ∷ 0 ∷ 0 ∷ 0 ∷ 0 ∷ 0 ∷ [])

unfoldable pub six_fourth : Tables
six_fourth = six (0 ∷ 0 ∷ 0 ∷ 9 ∷ 0 ∷ 0 ∷ [])

-- the last rounds of the desks where desk 0 alone has posted, and where none has
abbrev pub first_desk : ℕ → List ℕ
first_desk k = k ∷ replicate 7 0

abbrev pub no_rounds : List ℕ
no_rounds = first_desk 0

-- a case, with what is expected of it
pub data Case : Type 0 where
  -- a market clears so, under the rule of this number
  clears : (rule : ℕ) → Tables → Outcome → Case
  -- and so by the efficient mechanism
  clears_efficient : (rule : ℕ) → Tables → Outcome → Case
  -- its candidacies under rule 1 stand so, guests and stations from 0
  stands : Tables → List Candidacy → Case
  -- a guest's place at a station, both from 0, costs so much under rule 1
  costs : Tables → (guest station charge : ℕ) → Case
  -- a market is accepted or refused
  ◌is◌ : Tables → Verdict → Case
  -- a call of `clear` with this rule number and result lists of these lengths
  called : (rule : ℕ) → Tables → (stations charges sold paid : ℕ) → Verdict → Case
  -- a posting, with this rule number, the desk, the round and the book's numbers
  posts :
      (rule : ℕ) → Tables → (desk round : ℕ) (guests sold paid : List ℕ) (house : ℕ) (last : List ℕ) → Verdict → Case

infix 20 ◌is◌
-- what is found: an outcome, an order, a number or a verdict
pub data Found : Type 0 where
  outcomes : Answer Outcome → Found
  orders : List Candidacy → Found
  numbers : ℕ → Found
  verdicts : Verdict → Found

-- the verdict on a market that is to be cleared under the rule of this number
unfoldable pub ruled_verdict : (rule : ℕ) → Tables → Verdict
ruled_verdict rule t = first_fault (unknown_rule rule ∷ market_faults t)

unfoldable pub found : Case → Found
found (clears rule t o) = outcomes (giving (ruled_verdict rule t) (outcome (rule_of rule) t))
found (clears_efficient rule t o) = outcomes (giving (ruled_verdict rule t) (efficient_outcome (rule_of rule) t))
found (stands t l) = orders (candidacies (screened Median t))
found (costs t i j c) = numbers (charge (screened Median t) (decision Median t) i j)
found (t is v) = verdicts (verdict t)
found (called rule t stations charges sold paid v) = verdicts (first_fault (clearing_faults rule t
    (results (replicate stations 0) (replicate charges 0) (replicate sold 0) (replicate paid 0))))
found (posts rule t desk round guests sold paid house last v) = verdicts (first_fault (posting_faults rule t desk round
    (record { guests = guests; sold = sold; paid = paid; house = house; last = last })))

unfoldable pub expected : Case → Found
expected (clears rule t o) = outcomes (accepted o)
expected (clears_efficient rule t o) = outcomes (accepted o)
expected (stands t l) = orders l
expected (costs t i j c) = numbers c
expected (t is v) = verdicts v
expected (called rule t stations charges sold paid v) = verdicts v
expected (posts rule t desk round guests sold paid house last v) = verdicts v

-- A to J, and in A guest 1's other place; E with other tickets, and ties split by tickets that fall, rise and do
-- neither, 0 and the greatest among them; by the efficient mechanism Table I, a critical total of 9 for guest 1 from
-- guest 2, whose bay is at station 2, a tie of all, E, and three guests at one bay; the limits, and the order of two
-- faults; tickets that repeat, or are too few or many; each result list too short and too long, with the lengths of the
-- market before and its values after; the postings of document 01's example, then the book's size, the round after the
-- last, and the limit of each kind of account; all these by rule 1. Then the cut of asks 1 to 6 under rules 1 and 2,
-- where station 4 opens under rule 2 alone, and numbers of no rule, refused first of all. Then desks: another's first
-- round, the last desk, another's round where desk 0 has none left, a desk too many, a list of last rounds that is too
-- short or too long, and the order of 15, 13, 25 and 11
unfoldable pub cases : List Case
cases =
    clears 1 table_i (outcome_of 3 0 (4 ∷ 0 ∷ 2 ∷ 0 ∷ 0 ∷ []) (15 ∷ 0 ∷ 18 ∷ 0 ∷ 0 ∷ []) (0 ∷ 6 ∷ 0 ∷ 5 ∷ 0 ∷ [])
    (0 ∷ 18 ∷ 0 ∷ 15 ∷ 0 ∷ []))
    ∷ clears 1 (numbered (5 ∷ []) (1 ∷ []) (1 ∷ []) (9 ∷ [])) (outcome_of 5 0 (0 ∷ []) (0 ∷ []) (0 ∷ []) (0 ∷ []))
    ∷ clears 1 (pair (1 ∷ []) (6 ∷ 0 ∷ [])) (outcome_of 6 0 (1 ∷ []) (6 ∷ []) (1 ∷ 0 ∷ []) (6 ∷ 0 ∷ []))
    ∷ clears 1 (pair (1 ∷ []) (5 ∷ 0 ∷ [])) (outcome_of 6 0 (0 ∷ []) (0 ∷ []) (0 ∷ 0 ∷ []) (0 ∷ 0 ∷ []))
    ∷ clears 1 case_e (outcome_of 6 6 (1 ∷ 0 ∷ []) (24 ∷ 0 ∷ []) (3 ∷ 0 ∷ []) (18 ∷ 0 ∷ []))
    ∷ clears 1 (pair (10 ∷ 2 ∷ []) (7 ∷ 0 ∷ 20 ∷ 0 ∷ []))
    (outcome_of 6 0 (1 ∷ 0 ∷ []) (60 ∷ 0 ∷ []) (10 ∷ 0 ∷ []) (60 ∷ 0 ∷ []))
    ∷ clears 1 case_g (outcome_of 6 2 (1 ∷ 0 ∷ []) (20 ∷ 0 ∷ []) (3 ∷ 0 ∷ []) (18 ∷ 0 ∷ []))
    ∷ clears 1 (numbered (4 ∷ 4 ∷ []) (1 ∷ 1 ∷ []) (1 ∷ []) (9 ∷ 9 ∷ []))
    (outcome_of 4 0 (0 ∷ []) (0 ∷ []) (0 ∷ 0 ∷ []) (0 ∷ 0 ∷ []))
    ∷ clears 1 (pair [] []) (outcome_of 6 0 [] [] (0 ∷ 0 ∷ []) (0 ∷ 0 ∷ []))
    ∷ clears 1 (numbered (1 ∷ 1 ∷ 6 ∷ 6 ∷ []) (1 ∷ 1 ∷ 1 ∷ 1 ∷ []) (1 ∷ []) (8 ∷ 8 ∷ 0 ∷ 0 ∷ []))
    (outcome_of 6 0 (1 ∷ []) (6 ∷ []) (1 ∷ 0 ∷ 0 ∷ 0 ∷ []) (6 ∷ 0 ∷ 0 ∷ 0 ∷ []))
    ∷ costs table_i 0 1 16
    ∷ clears 1 case_eTickets (outcome_of 6 6 (0 ∷ 1 ∷ []) (0 ∷ 24 ∷ []) (3 ∷ 0 ∷ []) (18 ∷ 0 ∷ []))
    ∷ clears 1 (tied (9 ∷ 7 ∷ 5 ∷ 3 ∷ []))
    (outcome_of 6 12 (0 ∷ 0 ∷ 1 ∷ 1 ∷ []) (0 ∷ 0 ∷ 24 ∷ 24 ∷ []) (6 ∷ 0 ∷ []) (36 ∷ 0 ∷ []))
    ∷ clears 1 (tied (3 ∷ 5 ∷ 7 ∷ 9 ∷ []))
    (outcome_of 6 12 (1 ∷ 1 ∷ 0 ∷ 0 ∷ []) (24 ∷ 24 ∷ 0 ∷ 0 ∷ []) (6 ∷ 0 ∷ []) (36 ∷ 0 ∷ []))
    ∷ clears 1 (tied (5 ∷ 9 ∷ 0 ∷ 4_294_967_295 ∷ []))
    (outcome_of 6 12 (1 ∷ 0 ∷ 1 ∷ 0 ∷ []) (24 ∷ 0 ∷ 24 ∷ 0 ∷ []) (6 ∷ 0 ∷ []) (36 ∷ 0 ∷ []))
    ∷ clears_efficient 1 table_i (outcome_of 3 0 (4 ∷ 0 ∷ 2 ∷ 2 ∷ 4 ∷ []) (15 ∷ 0 ∷ 18 ∷ 12 ∷ 9 ∷ [])
    (0 ∷ 10 ∷ 0 ∷ 8 ∷ 0 ∷ []) (0 ∷ 30 ∷ 0 ∷ 24 ∷ 0 ∷ []))
    ∷ stands table_i (candidacy 2 1 ∷ candidacy 0 3 ∷ candidacy 2 3 ∷ candidacy 0 1 ∷ candidacy 3 1 ∷ candidacy 3 3
    ∷ candidacy 4 3 ∷ [])
    ∷ clears_efficient 1 (two (10 ∷ 0 ∷ 0 ∷ 0 ∷ 9 ∷ 5 ∷ 0 ∷ 0 ∷ []))
    (outcome_of 1 8 (1 ∷ 2 ∷ []) (9 ∷ 1 ∷ []) (1 ∷ 1 ∷ 0 ∷ 0 ∷ []) (1 ∷ 1 ∷ 0 ∷ 0 ∷ []))
    ∷ clears_efficient 1 all_tied
    (outcome_of 1 3 (2 ∷ 1 ∷ []) (1 ∷ 4 ∷ []) (1 ∷ 1 ∷ 0 ∷ 0 ∷ []) (1 ∷ 1 ∷ 0 ∷ 0 ∷ []))
    ∷ stands all_tied (candidacy 1 0 ∷ candidacy 1 1 ∷ candidacy 0 0 ∷ candidacy 0 1 ∷ [])
    ∷ clears_efficient 1 case_e (outcome_of 6 6 (1 ∷ 0 ∷ []) (24 ∷ 0 ∷ []) (3 ∷ 0 ∷ []) (18 ∷ 0 ∷ []))
    ∷ clears_efficient 1 (pair (1 ∷ 1 ∷ 1 ∷ []) (7 ∷ 0 ∷ 9 ∷ 0 ∷ 8 ∷ 0 ∷ []))
    (outcome_of 6 2 (0 ∷ 1 ∷ 0 ∷ []) (0 ∷ 8 ∷ 0 ∷ []) (1 ∷ 0 ∷ []) (6 ∷ 0 ∷ []))
    ∷ (single 1_000_000 200 1_000 1_000_000 is accepted tt)
    ∷ (single 0 1 1 0 is accepted tt)
    ∷ (numbered (1 ∷ []) (1 ∷ []) (replicate 200 1) (replicate 200 1) is accepted tt)
    ∷ (numbered (1 ∷ []) (1 ∷ []) (replicate 201 1) (replicate 201 1) is refused 2)
    ∷ (numbered [] [] [] [] is refused 2)
    ∷ (numbered (replicate 41 1) (replicate 41 1) [] [] is refused 2)
    ∷ (pair (1 ∷ []) (8 ∷ []) is refused 5)
    ∷ (numbered (1 ∷ []) [] [] [] is refused 5)
    ∷ (tables (1 ∷ []) (1 ∷ []) [] [] [] 2 is refused 5)
    ∷ (numbered [] (1 ∷ []) [] [] is refused 2)
    ∷ (numbered (1_000_001 ∷ []) [] [] [] is refused 5)
    ∷ (single 1_000_001 1 1 1 is refused 6)
    ∷ (single 1_000_001 0 1 1 is refused 6)
    ∷ (single 1_000_001 1 0 1 is refused 6)
    ∷ (single 1 0 1 1 is refused 7)
    ∷ (single 1 0 0 1 is refused 7)
    ∷ (single 1 201 1 1 is refused 7)
    ∷ (single 1 1 0 1 is refused 8)
    ∷ (single 1 1 0 1_000_001 is refused 8)
    ∷ (single 1 1 1_001 1 is refused 8)
    ∷ (single 1 1 1 1_000_001 is refused 9)
    ∷ (tied (9 ∷ 7 ∷ 5 ∷ 9 ∷ []) is refused 15)
    ∷ (tied (9 ∷ 7 ∷ 7 ∷ 3 ∷ []) is refused 15)
    ∷ (tied (9 ∷ 7 ∷ 5 ∷ []) is refused 5)
    ∷ (tied (9 ∷ 7 ∷ 5 ∷ 3 ∷ 1 ∷ []) is refused 5)
    ∷ (regular (1 ∷ []) (1 ∷ []) (1 ∷ 1 ∷ []) (7 ∷ 7 ∷ []) (1 ∷ 1_000_001 ∷ []) is refused 9)
    ∷ called 1 lone 1 1 2 2 (accepted tt)
    ∷ called 1 lone 0 1 2 2 (refused 10)
    ∷ called 1 lone 2 1 2 2 (refused 10)
    ∷ called 1 lone 1 0 2 2 (refused 10)
    ∷ called 1 lone 1 2 2 2 (refused 10)
    ∷ called 1 lone 1 1 1 2 (refused 10)
    ∷ called 1 lone 1 1 3 2 (refused 10)
    ∷ called 1 lone 1 1 2 1 (refused 10)
    ∷ called 1 lone 1 1 2 3 (refused 10)
    ∷ called 1 (numbered [] (1 ∷ []) [] []) 1 1 1 1 (refused 2)
    ∷ called 1 (pair (1 ∷ []) (8 ∷ [])) 0 0 0 0 (refused 5)
    ∷ called 1 (single 1_000_001 1 1 1) 0 0 0 0 (refused 10)
    ∷ called 1 (tied (9 ∷ 7 ∷ 5 ∷ 9 ∷ [])) 0 0 0 0 (refused 10)
    ∷ posts 1 case_e 0 1 (0 ∷ 0 ∷ []) (0 ∷ 0 ∷ []) (0 ∷ 0 ∷ []) 0 no_rounds (accepted tt)
    ∷ posts 1 case_e 0 1 (24 ∷ 0 ∷ []) (3 ∷ 0 ∷ []) (18 ∷ 0 ∷ []) 6 (first_desk 1) (refused 11)
    ∷ posts 1 case_e 0 7 (0 ∷ []) (0 ∷ 0 ∷ []) (0 ∷ 0 ∷ []) 0 no_rounds (refused 13)
    ∷ posts 1 case_e 0 1 (replicate 201 0) (0 ∷ 0 ∷ []) (0 ∷ 0 ∷ []) 0 no_rounds (refused 13)
    ∷ posts 1 lone 0 1 (0 ∷ []) (0 ∷ 0 ∷ []) (0 ∷ 0 ∷ []) 0 no_rounds (accepted tt)
    ∷ posts 1 lone 0 1 (0 ∷ 0 ∷ []) (0 ∷ []) (0 ∷ []) 0 no_rounds (refused 13)
    ∷ posts 1 lone 0 1 (replicate 200 0) (replicate 40 0) (replicate 40 0) 0 no_rounds (accepted tt)
    ∷ posts 1 lone 0 1 (0 ∷ []) (replicate 41 0) (replicate 41 0) 0 no_rounds (refused 13)
    ∷ posts 1 (single 1 1 1 1_000_001) 0 7 [] [] [] 0 no_rounds (refused 9)
    ∷ posts 1 (tied (9 ∷ 7 ∷ 5 ∷ 9 ∷ [])) 0 7 [] [] [] 0 no_rounds (refused 15)
    ∷ posts 1 case_e 0 7 (1_000_000_000_000_001 ∷ 0 ∷ []) (0 ∷ 0 ∷ []) (0 ∷ 0 ∷ []) 0 no_rounds (refused 11)
    ∷ posts 1 case_e 0 4_294_967_296 (0 ∷ 0 ∷ []) (0 ∷ 0 ∷ []) (0 ∷ 0 ∷ []) 0 (first_desk 4_294_967_295) (refused 11)
    ∷ posts 1 case_e 0 1 (999_999_999_999_976 ∷ 0 ∷ []) (999_999_999_999_997 ∷ 0 ∷ []) (999_999_999_999_982 ∷ 0 ∷ [])
    999_999_999_999_994 no_rounds (accepted tt)
    ∷ posts 1 case_e 0 1 (999_999_999_999_977 ∷ 0 ∷ []) (0 ∷ 0 ∷ []) (0 ∷ 0 ∷ []) 0 no_rounds (refused 12)
    ∷ posts 1 case_e 0 1 (0 ∷ 0 ∷ []) (999_999_999_999_998 ∷ 0 ∷ []) (0 ∷ 0 ∷ []) 0 no_rounds (refused 12)
    ∷ posts 1 case_e 0 1 (0 ∷ 0 ∷ []) (0 ∷ 0 ∷ []) (999_999_999_999_983 ∷ 0 ∷ []) 0 no_rounds (refused 12)
    ∷ posts 1 case_e 0 1 (0 ∷ 0 ∷ []) (0 ∷ 0 ∷ []) (0 ∷ 0 ∷ []) 999_999_999_999_995 no_rounds (refused 12)
    ∷ posts 1 case_e 0 1 (0 ∷ 0 ∷ 1_000_000_000_000_001 ∷ []) (0 ∷ 0 ∷ []) (0 ∷ 0 ∷ []) 0 no_rounds (refused 12)
    ∷ clears 1 six_first
    (outcome_of 4 0 (1 ∷ []) (4 ∷ []) (1 ∷ 0 ∷ 0 ∷ 0 ∷ 0 ∷ 0 ∷ []) (4 ∷ 0 ∷ 0 ∷ 0 ∷ 0 ∷ 0 ∷ []))
    ∷ clears 2 six_first
    (outcome_of 5 0 (1 ∷ []) (5 ∷ []) (1 ∷ 0 ∷ 0 ∷ 0 ∷ 0 ∷ 0 ∷ []) (5 ∷ 0 ∷ 0 ∷ 0 ∷ 0 ∷ 0 ∷ []))
    ∷ clears 1 six_fourth
    (outcome_of 4 0 (0 ∷ []) (0 ∷ []) (0 ∷ 0 ∷ 0 ∷ 0 ∷ 0 ∷ 0 ∷ []) (0 ∷ 0 ∷ 0 ∷ 0 ∷ 0 ∷ 0 ∷ []))
    ∷ clears 2 six_fourth
    (outcome_of 5 0 (4 ∷ []) (5 ∷ []) (0 ∷ 0 ∷ 0 ∷ 1 ∷ 0 ∷ 0 ∷ []) (0 ∷ 0 ∷ 0 ∷ 5 ∷ 0 ∷ 0 ∷ []))
    ∷ clears_efficient 2 six_fourth
    (outcome_of 5 0 (4 ∷ []) (5 ∷ []) (0 ∷ 0 ∷ 0 ∷ 1 ∷ 0 ∷ 0 ∷ []) (0 ∷ 0 ∷ 0 ∷ 5 ∷ 0 ∷ 0 ∷ []))
    ∷ called 2 lone 1 1 2 2 (accepted tt)
    ∷ called 0 lone 1 1 2 2 (refused 18)
    ∷ called 3 lone 1 1 2 2 (refused 18)
    ∷ called 255 lone 1 1 2 2 (refused 18)
    ∷ called 3 (numbered [] (1 ∷ []) [] []) 1 1 1 1 (refused 18)
    ∷ posts 2 case_e 0 1 (0 ∷ 0 ∷ []) (0 ∷ 0 ∷ []) (0 ∷ 0 ∷ []) 0 no_rounds (accepted tt)
    ∷ posts 3 case_e 0 1 (0 ∷ 0 ∷ []) (0 ∷ 0 ∷ []) (0 ∷ 0 ∷ []) 0 no_rounds (refused 18)
    ∷ posts 0 (numbered [] (1 ∷ []) [] []) 0 7 [] [] [] 0 no_rounds (refused 18)
    ∷ posts 1 case_e 1 1 (24 ∷ 0 ∷ []) (3 ∷ 0 ∷ []) (18 ∷ 0 ∷ []) 6 (first_desk 1) (accepted tt)
    ∷ posts 1 case_e 7 4 (0 ∷ 0 ∷ []) (0 ∷ 0 ∷ []) (0 ∷ 0 ∷ []) 0 (0 ∷ 9 ∷ 9 ∷ 9 ∷ 9 ∷ 9 ∷ 9 ∷ 3 ∷ []) (accepted tt)
    ∷ posts 1 case_e 7 10 (0 ∷ 0 ∷ []) (0 ∷ 0 ∷ []) (0 ∷ 0 ∷ []) 0 (0 ∷ 9 ∷ 9 ∷ 9 ∷ 9 ∷ 9 ∷ 9 ∷ 3 ∷ []) (refused 11)
    ∷ posts 1 case_e 1 1 (0 ∷ 0 ∷ []) (0 ∷ 0 ∷ []) (0 ∷ 0 ∷ []) 0 (first_desk 4_294_967_295) (accepted tt)
    ∷ posts 1 case_e 8 1 (0 ∷ 0 ∷ []) (0 ∷ 0 ∷ []) (0 ∷ 0 ∷ []) 0 no_rounds (refused 25)
    ∷ posts 1 case_e 255 7 (1_000_000_000_000_001 ∷ 0 ∷ []) (0 ∷ 0 ∷ []) (0 ∷ 0 ∷ []) 0 no_rounds (refused 25)
    ∷ posts 1 case_e 0 1 (0 ∷ 0 ∷ []) (0 ∷ 0 ∷ []) (0 ∷ 0 ∷ []) 0 (replicate 7 0) (refused 13)
    ∷ posts 1 case_e 8 1 (0 ∷ 0 ∷ []) (0 ∷ 0 ∷ []) (0 ∷ 0 ∷ []) 0 (replicate 9 0) (refused 13)
    ∷ posts 1 case_e 8 7 (0 ∷ []) (0 ∷ 0 ∷ []) (0 ∷ 0 ∷ []) 0 no_rounds (refused 13)
    ∷ posts 1 (tied (9 ∷ 7 ∷ 5 ∷ 9 ∷ [])) 8 7 [] [] [] 0 [] (refused 15)
    ∷ []

abbrev pub CasesHold : Type 0
CasesHold = map found cases ≡ map expected cases
