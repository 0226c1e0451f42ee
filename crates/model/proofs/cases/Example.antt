-- Document 01's example, from one desk and from two, and rounds of both rules, by computation.
use Prim.Native.Nat.{ℕ}
use mathlib.Core.List.{List, [], ◌∷◌}
use mathlib.Core.Path.{◌≡◌, refl}
use Rattle.model.specs.Verdicts.{accepted, refused}
use Rattle.model.specs.book.PlainBook.{empty_plain, answers, final}
use Rattle.model.specs.cases.Cases.{pair, case_e, six, six_first, first_desk}
use Rattle.model.specs.book.Book.{account, Book, book, empty_book, plain}
use Rattle.model.specs.book.Posting.{Posting, posting}
use Rattle.model.specs.clauses.EntryPoints.{entering, Posts}
use Rattle.model.specs.claims.Postings.{none, call, ExampleIsPosted, from_two_desks, posted_twice}
use Rattle.model.specs.claims.Postings.{TwoDesksArePosted, BothRulesArePosted}
use Rattle.model.proofs.cases.Computing.{posting_computes}

abbrev pub twice : List Posting
twice = posting 1 case_e 0 1 ∷ posting 1 case_e 0 1 ∷ []

-- the book after the first
abbrev pub once : Book
once = book (24 ∷ 0 ∷ []) (account 3 18 ∷ account 0 0 ∷ []) 6 (first_desk 1)

-- the plain book's answers, and its numbers after both
pub plain_twice :
    (answers (empty_plain 2 2) twice ≡ accepted tt ∷ refused 11 ∷ []) × (final (empty_plain 2 2) twice ≡ plain once)
unfolding posting_computes pair case_e
plain_twice = (refl, refl)

posted_once : Posts (empty_book 2 2) (posting 1 case_e 0 1) (accepted tt) once
unfolding posting_computes entering pair case_e
posted_once = record { answered = refl; left = refl }

refused_again : Posts once (posting 1 case_e 0 1) (refused 11) once
unfolding posting_computes entering pair case_e
refused_again = record { answered = refl; left = refl }

pub example_is_posted : ExampleIsPosted
example_is_posted = call posted_once (call refused_again none)

-- from two desks
pub plain_from_two :
    (answers (empty_plain 2 2) from_two_desks ≡ accepted tt ∷ accepted tt ∷ refused 25 ∷ [])
    × (final (empty_plain 2 2) from_two_desks ≡ plain posted_twice)
unfolding posting_computes pair case_e
plain_from_two = (refl, refl)

posted_by_another : Posts once (posting 1 case_e 3 1) (accepted tt) posted_twice
unfolding posting_computes entering pair case_e
posted_by_another = record { answered = refl; left = refl }

refused_a_ninth : Posts posted_twice (posting 1 case_e 8 1) (refused 25) posted_twice
unfolding posting_computes entering pair case_e
refused_a_ninth = record { answered = refl; left = refl }

pub two_desks_are_posted : TwoDesksArePosted
two_desks_are_posted = call posted_once (call posted_by_another (call refused_a_ninth none))

-- asks 1 to 6: the book after a round of each rule, from desks 0 and 7
abbrev six_book : (charged sold paid last : ℕ) → Book
six_book charged sold paid last =
    book (charged ∷ []) (account sold paid ∷ account 0 0 ∷ account 0 0 ∷ account 0 0 ∷ account 0 0 ∷ account 0 0 ∷ []) 0
    (1 ∷ 0 ∷ 0 ∷ 0 ∷ 0 ∷ 0 ∷ 0 ∷ last ∷ [])

by_rule_1 : Posts (empty_book 1 6) (posting 1 six_first 0 1) (accepted tt) (six_book 4 1 4 0)
unfolding posting_computes entering six six_first
by_rule_1 = record { answered = refl; left = refl }

by_rule_2 : Posts (six_book 4 1 4 0) (posting 2 six_first 7 1) (accepted tt) (six_book 9 2 9 1)
unfolding posting_computes entering six six_first
by_rule_2 = record { answered = refl; left = refl }

by_no_rule : Posts (six_book 9 2 9 1) (posting 3 six_first 7 2) (refused 18) (six_book 9 2 9 1)
unfolding posting_computes entering six six_first
by_no_rule = record { answered = refl; left = refl }

pub both_rules_are_posted : BothRulesArePosted
both_rules_are_posted = call by_rule_1 (call by_rule_2 (call by_no_rule none))
