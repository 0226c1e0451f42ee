-- Laws of the stations' records: what they show the plain book.
use Prim.Native.Nat.{ℕ}
use mathlib.Core.List.{List}
use mathlib.Core.Path.{◌≡◌}
use lib.ListN.{get_or, length, length-map, get_or-map}
use Rattle.model.specs.book.Book.{account, account_at, sold_of, paid_of}
use Rattle.model.specs.declared.account.StationAccount.{StationAccount}

pub length_sold : (l : List StationAccount) → length (sold_of l) ≡ length l
unfolding sold_of
length_sold l = length-map l _

pub length_paid : (l : List StationAccount) → length (paid_of l) ≡ length l
unfolding paid_of
length_paid l = length-map l _

pub get_d_sold : (l : List StationAccount) (j : ℕ) → get_or (sold_of l) j 0 ≡ (account_at l j).sold
unfolding sold_of
get_d_sold l j = get_or-map (λ (a : StationAccount). a.sold) l j (account 0 0)

pub get_d_paid : (l : List StationAccount) (j : ℕ) → get_or (paid_of l) j 0 ≡ (account_at l j).paid
unfolding paid_of
get_d_paid l j = get_or-map (λ (a : StationAccount). a.paid) l j (account 0 0)
