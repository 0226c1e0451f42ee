-- Document 01's plain book: whole numbers, fed each posting's arguments and nothing of the engine's. Its faults are a
-- table in the order of 'Refusals by place'.
use Rattle.std.specs.Prelude.{ℕ, ◌+◌, Bool, not, List, [], ◌∷◌, ◌++◌, get_or, length, set, replicate}
use Rattle.model.specs.Limits.{max_guests, max_stations, max_account, max_round, max_desks}
use Rattle.model.specs.Counting.{◌<?◌, only, list, ◌≤?◌, ◌=?◌, ◌or◌, any, sum}
use Rattle.model.specs.Verdicts.{Row, ◌gives◌, Verdict, accepted, refused, first_fault, updated}
use Rattle.model.specs.market.Market.{Tables}
use Rattle.model.specs.market.Mechanism.{charged, sold, paid, margin}
use Rattle.model.specs.market.Outcome.{screened, decision}
use Rattle.model.specs.market.Faults.{outside, unknown_rule, market_faults}
use Rattle.model.specs.market.Rules.{rule_of}
use Rattle.model.specs.declared.rule.Rule.{Rule}
use Rattle.model.specs.book.Posting.{Posting}

-- document 01's book: a number for each guest account, kWh sold and money paid for each station account (two lists of
-- one length), the house's, and for each desk its last round (document 02, request 12)
pub record PlainBook : Type 0 where
  pub guests : List ℕ
  pub sold : List ℕ
  pub paid : List ℕ
  pub house : ℕ
  pub last : List ℕ

-- the last round of a desk
abbrev pub last_of : PlainBook → (desk : ℕ) → ℕ
last_of B desk = get_or B.last desk 0

-- xs with f k added at each place k below n; the places beyond stay
unfoldable pub raised : ℕ → (ℕ → ℕ) → List ℕ → List ℕ
raised n f xs = list (length xs) (λ k. get_or xs k 0 + only (k <? n) (f k))

-- the book with a market, cleared by a rule, entered as a round of a desk; the other desks' last rounds stay
unfoldable pub entered : Rule → Tables → (desk round : ℕ) → PlainBook → PlainBook
entered rule t desk round B = record {
  guests = raised (length t.amounts) (charged (screened rule t) (decision rule t)) B.guests;
  sold = raised (length t.asks) (sold (screened rule t) (decision rule t)) B.sold;
  paid = raised (length t.asks) (paid (screened rule t) (decision rule t)) B.paid;
  house = B.house + margin (screened rule t) (decision rule t);
  last = set B.last desk round;
}

-- some account or kWh sum of the book is above the limit
unfoldable pub over_limit : PlainBook → Bool
over_limit B = any B.guests over or any B.sold over or any B.paid over or over B.house
  where
    over : ℕ → Bool
    over x = max_account <? x

unfoldable pub book_size : (n m guests stations lasts : ℕ) → Row
book_size n m guests stations lasts =
    (outside n max_guests guests or outside m max_stations stations or not (lasts =? max_desks)) gives 13

unfoldable pub no_desk : (desk : ℕ) → Row
no_desk desk = (max_desks ≤? desk) gives 25

unfoldable pub out_of_turn : (round last : ℕ) → Row
out_of_turn round last = (max_round ≤? last or not (round =? last + 1)) gives 11

unfoldable pub posting_faults : (rule : ℕ) → Tables → (desk round : ℕ) → PlainBook → List Row
posting_faults rule t desk round B = unknown_rule rule ∷ market_faults t
    ++ (book_size (length t.amounts) (length t.asks) (length B.guests) (length B.sold) (length B.last)
    ∷ no_desk desk
    ∷ out_of_turn round (last_of B desk)
    ∷ ((over_limit B or over_limit (entered (rule_of rule) t desk round B)) gives 12)
    ∷ [])

-- a book of g guest and s station accounts, all 0, in which no desk has posted a round
unfoldable pub empty_plain : (g s : ℕ) → PlainBook
empty_plain g s = record {
  guests = replicate g 0;
  sold = replicate s 0;
  paid = replicate s 0;
  house = 0;
  last = replicate max_desks 0;
}

-- the step: the first fault that holds is answered and changes nothing; otherwise the round is posted
unfoldable pub answer : PlainBook → Posting → Verdict
answer B p = first_fault (posting_faults p.rule p.tables p.desk p.round B)

-- the book with a posting entered under its rule
abbrev pub entered_of : Posting → PlainBook → PlainBook
entered_of p B = entered (rule_of p.rule) p.tables p.desk p.round B

unfoldable pub after : PlainBook → Posting → PlainBook
after B p = updated (answer B p) (entered_of p B) B

-- a list of postings, each made to the book as the last left it
unfoldable pub answers : PlainBook → List Posting → List Verdict
answers B [] = []
answers B (p ∷ ps) = answer B p ∷ answers (after B p) ps

unfoldable pub final : PlainBook → List Posting → PlainBook
final B [] = B
final B (p ∷ ps) = final (after B p) ps

-- ---- the sums, with no book in them

-- the postings that were answered as posted
unfoldable pub only_posted : Verdict → Posting → List Posting → List Posting
only_posted (accepted _) p ps = p ∷ ps
only_posted (refused r) p ps = ps

unfoldable pub posted_rounds : List Posting → List Verdict → List Posting
posted_rounds [] vs = []
posted_rounds (p ∷ ps) [] = []
posted_rounds (p ∷ ps) (v ∷ vs) = only_posted v p (posted_rounds ps vs)

unfoldable pub sum_over : (Posting → ℕ) → List Posting → ℕ
sum_over f [] = 0
sum_over f (p ∷ ps) = f p + sum_over f ps

-- all accounts of a list together
unfoldable pub sum_all : List ℕ → ℕ
sum_all xs = sum (length xs) (λ k. get_or xs k 0)
