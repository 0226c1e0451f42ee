-- Demand 3's claim about every list of postings.
use Rattle.std.specs.Prelude.{ℕ, ◌+◌, ◌<◌, List, [], ◌∷◌, ◌↔◌, ◌≡◌, get_or, length}
use Rattle.model.specs.Limits.{max_desks}
use Rattle.model.specs.Verdicts.{Verdict, accepted, refused}
use Rattle.model.specs.claims.Meaning.{AccountsWithin}
use Rattle.model.specs.cases.Cases.{case_e, six_first, first_desk}
use Rattle.model.specs.book.Book.{account, account_at, paid_of, Book, book, empty_book, plain}
use Rattle.model.specs.book.Posting.{Posting, posting, to_guest, to_sold, to_paid, to_house, to_desk}
use Rattle.model.specs.book.PlainBook.{answer, after, empty_plain, answers, final, posted_rounds, sum_over, sum_all}
use Rattle.model.specs.clauses.EntryPoints.{Posts}

-- a call of `post` is a step of the plain book
abbrev pub PostIsPlainStep : Type 0
PostIsPlainStep =
    (B C : Book) (p : Posting) (v : Verdict)
    → Posts B p v C ↔ ((v ≡ answer (plain B) p) × (plain C ≡ after (plain B) p))

-- document 02, request 12: what a call does to the desks' counts. A posted round carries its desk's next number, which
-- is its last round then; every other desk's stays, whatever is answered
pub record CountsOwnDesk (B : Book) (p : Posting) (v : Verdict) (C : Book) : Type 0 where
  pub next : v ≡ accepted tt → p.round ≡ get_or B.last p.desk 0 + 1
  pub counted : v ≡ accepted tt → get_or C.last p.desk 0 ≡ p.round
  pub others_stay : (d : ℕ) → (d ≡ p.desk → ⊥) → get_or C.last d 0 ≡ get_or B.last d 0

abbrev pub PostCountsOwnDesk : Type 0
PostCountsOwnDesk = (B C : Book) (p : Posting) (v : Verdict) → Posts B p v C → CountsOwnDesk B p v C

-- a list of calls, each made to the book as the last left it
pub data PostedInTurn : Book → List Posting → List Verdict → Book → Type 0 where
  none : {B : Book} → PostedInTurn B [] [] B
  call :
      {B C D : Book} {p : Posting} {v : Verdict} {ps : List Posting} {vs : List Verdict} → Posts B p v C
      → PostedInTurn C ps vs D → PostedInTurn B (p ∷ ps) (v ∷ vs) D

-- after the calls ps, answered vs, on the empty book of g guest and s station accounts
pub record WellKept (g s : ℕ) (ps : List Posting) (vs : List Verdict) (B : Book) : Type 0 where
  -- each is answered as the plain book answers it, and the book equals the plain book in every number
  pub as_answered : vs ≡ answers (empty_plain g s) ps
  pub as_plain : plain B ≡ final (empty_plain g s) ps
  pub guest_count_lem : length B.guests ≡ g
  pub station_count_lem : length B.stations ≡ s
  -- each account is the sum of its posted rounds
  pub guest_sum : (i : ℕ) → i < g → get_or B.guests i 0 ≡ sum_over (to_guest i) (posted_rounds ps vs)
  pub sold_sum : (j : ℕ) → j < s → (account_at B.stations j).sold ≡ sum_over (to_sold j) (posted_rounds ps vs)
  pub paid_sum : (j : ℕ) → j < s → (account_at B.stations j).paid ≡ sum_over (to_paid j) (posted_rounds ps vs)
  pub house_sum : B.house ≡ sum_over to_house (posted_rounds ps vs)
  -- each desk's last round is the number of rounds that it posted
  pub desk_count : length B.last ≡ max_desks
  pub last_sum : (d : ℕ) → d < max_desks → get_or B.last d 0 ≡ sum_over (to_desk d) (posted_rounds ps vs)
  -- the guests' accounts equal the stations' plus the house's
  pub level : sum_all B.guests ≡ sum_all (paid_of B.stations) + B.house
  -- every account is within its limit
  pub within_limit : AccountsWithin (plain B)

abbrev pub BooksAreWellKept : Type 0
BooksAreWellKept =
    (g s : ℕ) (ps : List Posting) (vs : List Verdict) (B : Book)
    → PostedInTurn (empty_book g s) ps vs B → WellKept g s ps vs B

-- whatever is posted, there are such calls: the claim speaks of every list
abbrev pub PostedInTurnExists : Type 0
PostedInTurnExists =
    (g s : ℕ) (ps : List Posting) → (vs : List Verdict) × (B : Book) × PostedInTurn (empty_book g s) ps vs B

-- document 01's example: case E as round 1, and once more, from one desk. There are such calls, and all of them come
-- to the same
abbrev pub ExampleIsPosted : Type 0
ExampleIsPosted =
    PostedInTurn (empty_book 2 2) (posting 1 case_e 0 1 ∷ posting 1 case_e 0 1 ∷ []) (accepted tt ∷ refused 11 ∷ [])
    (book (24 ∷ 0 ∷ []) (account 3 18 ∷ account 0 0 ∷ []) 6 (first_desk 1))

abbrev pub ExampleEndsSo : Type 0
ExampleEndsSo =
    (vs : List Verdict) (B : Book)
    → PostedInTurn (empty_book 2 2) (posting 1 case_e 0 1 ∷ posting 1 case_e 0 1 ∷ []) vs B
    → (vs ≡ accepted tt ∷ refused 11 ∷ []) × (B ≡ book (24 ∷ 0 ∷ []) (account 3 18 ∷ account 0 0 ∷ []) 6 (first_desk 1))

-- from two desks it is posted twice, and the accounts are the sums of both; a ninth desk is refused
abbrev pub from_two_desks : List Posting
from_two_desks = posting 1 case_e 0 1 ∷ posting 1 case_e 3 1 ∷ posting 1 case_e 8 1 ∷ []

abbrev pub posted_twice : Book
posted_twice = book (48 ∷ 0 ∷ []) (account 6 36 ∷ account 0 0 ∷ []) 12 (1 ∷ 0 ∷ 0 ∷ 1 ∷ 0 ∷ 0 ∷ 0 ∷ 0 ∷ [])

abbrev pub TwoDesksArePosted : Type 0
TwoDesksArePosted =
    PostedInTurn (empty_book 2 2) from_two_desks (accepted tt ∷ accepted tt ∷ refused 25 ∷ []) posted_twice

abbrev pub TwoDesksEndSo : Type 0
TwoDesksEndSo =
    (vs : List Verdict) (B : Book) → PostedInTurn (empty_book 2 2) from_two_desks vs B
    → (vs ≡ accepted tt ∷ accepted tt ∷ refused 25 ∷ []) × (B ≡ posted_twice)

-- rounds of both rules from two desks in one list, and a number of no rule: the guest pays 4 in the first and 5 in the
-- second
abbrev pub BothRulesArePosted : Type 0
BothRulesArePosted =
    PostedInTurn (empty_book 1 6) (posting 1 six_first 0 1 ∷ posting 2 six_first 7 1 ∷ posting 3 six_first 7 2 ∷ [])
    (accepted tt ∷ accepted tt ∷ refused 18 ∷ [])
    (book (9 ∷ []) (account 2 9 ∷ account 0 0 ∷ account 0 0 ∷ account 0 0 ∷ account 0 0 ∷ account 0 0 ∷ []) 0
    (1 ∷ 0 ∷ 0 ∷ 0 ∷ 0 ∷ 0 ∷ 0 ∷ 1 ∷ []))
