-- The book as it is lent: the station accounts are a row of records.
use Rattle.std.specs.Prelude.{ℕ, List, map, ◌≡◌, get_or, replicate}
use Rattle.model.specs.Limits.{max_desks}
use Rattle.model.specs.book.PlainBook.{PlainBook}
use Rattle.model.specs.declared.account.StationAccount.{StationAccount}

abbrev pub account : (sold paid : ℕ) → StationAccount
account sold paid = record { sold = sold; paid = paid }

-- station j's account
abbrev pub account_at : List StationAccount → ℕ → StationAccount
account_at l j = get_or l j (account 0 0)

-- each record's kWh sold, and each one's money paid
unfoldable pub sold_of : List StationAccount → List ℕ
sold_of l = map (λ (a : StationAccount). a.sold) l

unfoldable pub paid_of : List StationAccount → List ℕ
paid_of l = map (λ (a : StationAccount). a.paid) l

pub record Book : Type 0 where
  pub guests : List ℕ
  pub stations : List StationAccount
  pub house : ℕ
  pub last : List ℕ

abbrev pub book : (guests : List ℕ) (stations : List StationAccount) (house : ℕ) (last : List ℕ) → Book
book guests stations house last = record { guests = guests; stations = stations; house = house; last = last }

-- a book of g guest and s station accounts, all 0, in which no desk has posted a round
unfoldable pub empty_book : (g s : ℕ) → Book
empty_book g s = book (replicate g 0) (replicate s (account 0 0)) 0 (replicate max_desks 0)

-- the plain book with the same numbers
unfoldable pub plain : Book → PlainBook
plain B =
    record
    { guests = B.guests; sold = sold_of B.stations; paid = paid_of B.stations; house = B.house; last = B.last }

-- it leaves nothing of the lent book out
abbrev pub PlainDetermines : Type 0
PlainDetermines = (B C : Book) → plain B ≡ plain C → B ≡ C
