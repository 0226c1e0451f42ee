-- Laws of the lent book: the plain book determines it, and of an empty one it is the empty plain book.
use Prim.Native.Nat.{ℕ, zero, suc}
use mathlib.Core.List.{List, ◌∷◌}
use mathlib.Core.Path.{◌≡◌, refl, sym, ap, ap₂, ◌∙◌}
use lib.ListN.{get_or, length, replicate}
use lib.Seq.{ext_get_or}
use Rattle.model.specs.Limits.{max_desks}
use Rattle.model.specs.book.Book.{account, sold_of, paid_of, empty_book, plain, PlainDetermines}
use Rattle.model.specs.declared.account.StationAccount.{StationAccount}
use Rattle.model.proofs.book.Records.{length_sold, get_d_sold, get_d_paid}
use Rattle.model.specs.book.PlainBook.{empty_plain}

-- the records are theirs
same_records : (l k : List StationAccount) → sold_of l ≡ sold_of k → paid_of l ≡ paid_of k → l ≡ k
same_records l k e q = ext_get_or (account 0 0) l k (sym (length_sold l) ∙ ap (λ xs. length xs) e ∙ length_sold k)
    (λ j _. ap₂ account (sym (get_d_sold l j) ∙ ap (λ xs. get_or xs j 0) e ∙ get_d_sold k j)
    (sym (get_d_paid l j) ∙ ap (λ xs. get_or xs j 0) q ∙ get_d_paid k j))

pub plain_determines : PlainDetermines
unfolding plain
plain_determines B C e =
    let stations = same_records B.stations C.stations (ap (λ b. b.sold) e) (ap (λ b. b.paid) e) in
    λ x. record { guests = (e x).guests; stations = stations x; house = (e x).house; last = (e x).last }

zero_sold : (s : ℕ) → sold_of (replicate s (account 0 0)) ≡ replicate s 0
unfolding sold_of
zero_sold zero = refl
zero_sold (suc s) = ap (λ xs. 0 ∷ xs) (zero_sold s)

zero_paid : (s : ℕ) → paid_of (replicate s (account 0 0)) ≡ replicate s 0
unfolding paid_of
zero_paid zero = refl
zero_paid (suc s) = ap (λ xs. 0 ∷ xs) (zero_paid s)

pub plain_empty : (g s : ℕ) → plain (empty_book g s) ≡ empty_plain g s
unfolding plain empty_book empty_plain
plain_empty g s =
    λ x. record {
      guests = replicate g 0;
      sold = zero_sold s x;
      paid = zero_paid s x;
      house = 0;
      last = replicate max_desks 0;
    }
