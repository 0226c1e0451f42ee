-- There is a lent book for every step of the plain book, and so a list of calls for every list of postings.
use Prim.Native.Nat.{ℕ}
use mathlib.Core.List.{List, [], ◌∷◌}
use mathlib.Core.Path.{◌≡◌, refl, sym, ap, ◌∙◌}
use native.Mathlib.Omega.{arith}
use lib.ListN.{length}
use Rattle.model.specs.Verdicts.{Verdict, accepted, refused, updated}
use Rattle.model.specs.book.PlainBook.{PlainBook, entered, entered_of, answer, after}
use Rattle.model.specs.book.Book.{account, sold_of, paid_of, Book, book, empty_book, plain}
use Rattle.model.specs.declared.account.StationAccount.{StationAccount}
use Rattle.model.proofs.book.Records.{length_sold, length_paid}
use Rattle.model.specs.book.Posting.{Posting}
use Rattle.model.specs.claims.Postings.{PostedInTurn, none, call, PostedInTurnExists}
use Rattle.model.proofs.book.Accounts.{length_raised}
use Rattle.model.proofs.clauses.Posts.{post_is_plain_step}

records : (sold paid : List ℕ) → List StationAccount
records [] ys = []
records (x ∷ xs) [] = []
records (x ∷ xs) (y ∷ ys) = account x y ∷ records xs ys

records_sold : (xs ys : List ℕ) → length xs ≡ length ys → sold_of (records xs ys) ≡ xs
unfolding sold_of records
records_sold [] ys e = refl
records_sold (x ∷ xs) [] e = absurd (omega arith)
records_sold (x ∷ xs) (y ∷ ys) e = ap (λ l. x ∷ l) (records_sold xs ys (omega arith))

records_paid : (xs ys : List ℕ) → length xs ≡ length ys → paid_of (records xs ys) ≡ ys
unfolding paid_of records
records_paid [] [] e = refl
records_paid [] (y ∷ ys) e = absurd (omega arith)
records_paid (x ∷ xs) [] e = absurd (omega arith)
records_paid (x ∷ xs) (y ∷ ys) e = ap (λ l. y ∷ l) (records_paid xs ys (omega arith))

-- a lent book with a plain book's numbers
lent_book : PlainBook → Book
lent_book b = book b.guests (records b.sold b.paid) b.house b.last

plain_lent : (b : PlainBook) → length b.sold ≡ length b.paid → plain (lent_book b) ≡ b
unfolding plain lent_book
plain_lent b e =
    λ x. record {
      guests = b.guests;
      sold = records_sold b.sold b.paid e x;
      paid = records_paid b.sold b.paid e x;
      house = b.house;
      last = b.last;
    }

-- the two lists of stations are of one length, and stay so
even_plain : (B : Book) → length (plain B).sold ≡ length (plain B).paid
unfolding plain
even_plain B = length_sold B.stations ∙ sym (length_paid B.stations)

by_verdict :
    (b : PlainBook) (p : Posting) → length b.sold ≡ length b.paid → (v : Verdict)
    → let c = updated v (entered_of p b) b in length c.sold ≡ length c.paid
unfolding updated entered
by_verdict b p e (accepted _) = length_raised _ _ _ ∙ e ∙ sym (length_raised _ _ _)
by_verdict b p e (refused r) = e

even_after :
    (b : PlainBook) (p : Posting) → length b.sold ≡ length b.paid
    → length (after b p).sold ≡ length (after b p).paid
unfolding after
even_after b p e = by_verdict b p e (answer b p)

calls_from : (B : Book) (ps : List Posting) → (vs : List Verdict) × (C : Book) × PostedInTurn B ps vs C
calls_from B [] = ([], B, none)
calls_from B (p ∷ ps) =
    let (vs, C, c) = calls_from (lent_book (after (plain B) p)) ps in (
      answer (plain B) p ∷ vs,
      C,
      call ((post_is_plain_step _ _ _ _).1
          (refl, plain_lent (after (plain B) p) (even_after (plain B) p (even_plain B)))) c,
    )

pub posted_in_turn_exists : PostedInTurnExists
posted_in_turn_exists g s ps = calls_from (empty_book g s) ps
