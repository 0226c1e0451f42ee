-- Demand 3, third sentence, proved: by induction over the list, one law for each kind of number that the book keeps.
use Prim.Native.Nat.{ℕ, ◌+◌, ◌<◌, ◌≤◌}
use mathlib.Core.List.{List, [], ◌∷◌}
use mathlib.Core.Logic.{⊎_elim}
use mathlib.Core.Path.{◌≡◌, refl, sym, ap, ap₂, ◌∙◌}
use native.Mathlib.Omega.{arith}
use lib.ListN.{get_or, length, replicate, set, length-set, length-replicate, get_or-replicate}
use lib.Seq.{get_or-set_same, get_or-set_other}
use Rattle.model.specs.market.Mechanism.{charged, paid}
use Rattle.model.specs.market.Rules.{rule_of}
use Rattle.model.specs.Verdicts.{Verdict, accepted, refused, updated}
use Rattle.model.specs.book.PlainBook.{PlainBook, last_of, entered, entered_of, empty_plain, answer, after}
use Rattle.model.specs.book.PlainBook.{answers, final, only_posted, posted_rounds, sum_over, sum_all}
use Rattle.model.specs.Limits.{max_account, max_desks}
use Rattle.model.specs.Counting.{◌=?◌, only}
use Rattle.model.proofs.Tests.{eq_or_ne, is_eq, not_eq, only_yes, only_no}
use Rattle.model.specs.claims.Meaning.{AccountsWithin, PostingWithinLimits}
use Rattle.model.proofs.market.Acceptance.{posting_accepted_iff_within_limits}
use Rattle.model.proofs.claims.Truth.{balanced}
use Rattle.model.proofs.book.Records.{length_sold, get_d_sold, get_d_paid}
use Rattle.model.specs.book.Posting.{Posting, screened_of, decision_of}
use Rattle.model.specs.book.Posting.{to_guest, to_sold, to_paid, to_house, to_desk}
use Rattle.model.specs.book.Book.{Book, empty_book, plain}
use Rattle.model.specs.claims.Postings.{PostedInTurn, none, call, WellKept, BooksAreWellKept, PostCountsOwnDesk}
use Rattle.model.proofs.book.Accounts.{length_raised, get_d_raised, sum_all_raised, sum_all_zeros}
use Rattle.model.proofs.book.Book.{plain_empty}
use Rattle.model.proofs.clauses.Posts.{post_is_plain_step}

-- what a posted round's acceptance says
abbrev Fits : PlainBook → Posting → Type 0
Fits B p = PostingWithinLimits p.rule p.tables p.desk p.round B

fits : (B : PlainBook) (p : Posting) → answer B p ≡ accepted tt → Fits B p
unfolding answer
fits B p e = (posting_accepted_iff_within_limits p.rule p.tables p.desk p.round B).0 e

-- a number of the book that a posted round raises by `more` is, after a list, what it was and the sum over the posted
-- rounds; P is what the number needs of the book, and a posted round keeps it
module _ (P : PlainBook → Type 0) (value : PlainBook → ℕ) (more : Posting → ℕ)
    (keeps : (B : PlainBook) (p : Posting) → Fits B p → P B → P (entered_of p B))
    (raises : (B : PlainBook) (p : Posting) → Fits B p → P B
    → value (entered_of p B) ≡ value B + more p) where
  step : (ps : List Posting) (B : PlainBook) (p : Posting) → P B
      → ((C : PlainBook) → P C
      → P (final C ps) × (value (final C ps) ≡ value C + sum_over more (posted_rounds ps (answers C ps))))
      → (v : Verdict) → answer B p ≡ v
      → P (final (after B p) ps)
      × (value (final (after B p) ps)
      ≡ value B + sum_over more (only_posted (answer B p) p (posted_rounds ps (answers (after B p) ps))))
  unfolding after updated only_posted sum_over
  step ps B p h ih (accepted _) e =
      let f = fits B p e in
      let i = ih (entered_of p B) (keeps B p f h) in rw e (i.0, omega (arith, i.1, raises B p f h))
  step ps B p h ih (refused r) e = rw e (ih B h)

  sums :
      (ps : List Posting) (B : PlainBook) → P B
      → P (final B ps) × (value (final B ps) ≡ value B + sum_over more (posted_rounds ps (answers B ps)))
  unfolding final answers posted_rounds sum_over
  sums [] B h = (h, omega arith)
  sums (p ∷ ps) B h = step ps B p h (λ C k. sums ps C k) (answer B p) refl

-- what a book that starts empty keeps: its sizes, its level and its limit
pub record Sound (g s : ℕ) (B : PlainBook) : Type 0 where
  pub guests : length B.guests ≡ g
  pub sold : length B.sold ≡ s
  pub paid : length B.paid ≡ s
  pub desks : length B.last ≡ max_desks
  pub level : sum_all B.guests ≡ sum_all B.paid + B.house
  pub within : AccountsWithin B

sound_empty : (g s : ℕ) → Sound g s (empty_plain g s)
unfolding empty_plain
sound_empty g s = record {
  guests = length-replicate g 0;
  sold = length-replicate s 0;
  paid = length-replicate s 0;
  desks = length-replicate {A = ℕ} max_desks 0;
  level = omega (arith, sum_all_zeros g, sum_all_zeros s);
  within = record {
    guest_most = λ i l. zero_most g i l;
    sold_most = λ j l. zero_most s j l;
    paid_most = λ j l. zero_most s j l;
    house_most = omega arith;
  };
}
  where
    zero_most : (n k : ℕ) → k < length (replicate {A = ℕ} n 0) → get_or (replicate n 0) k 0 ≤ max_account
    zero_most n k l = omega (arith, get_or-replicate {A = ℕ} n k 0 0 (rw length-replicate at l))

sound_entered :
    (g s : ℕ) (B : PlainBook) (p : Posting) → Fits B p → Sound g s B → Sound g s (entered_of p B)
unfolding entered
sound_entered g s B p f h = record {
  guests = length_raised _ _ _ ∙ h.guests;
  sold = length_raised _ _ _ ∙ h.sold;
  paid = length_raised _ _ _ ∙ h.paid;
  desks = length-set B.last p.desk p.round ∙ h.desks;
  level = omega (
    arith,
    h.level,
    balanced (rule_of p.rule) p.tables,
    sum_all_raised _ (charged (screened_of p) (decision_of p)) B.guests f.guests_least,
    sum_all_raised (length p.tables.asks) (paid (screened_of p) (decision_of p)) B.paid
        (omega (arith, f.stations_least, h.sold, h.paid)),
  );
  within = f.within_after;
}

-- a posted round is one more of its desk, and none of another's
one_more :
    (l : List ℕ) (desk round d : ℕ) → desk < length l → round ≡ get_or l desk 0 + 1
    → get_or (set l desk round) d 0 ≡ get_or l d 0 + only (desk =? d) 1
one_more l desk round d k e = ⊎_elim
    (λ (q : desk ≡ d). omega (
      arith,
      ap (λ x. get_or (set l desk round) x 0) (sym q),
      ap (λ x. get_or l x 0) q,
      get_or-set_same l desk round 0 k,
      only_yes (desk =? d) 1 (is_eq desk d q),
    ))
    (λ (q : desk ≡ d → ⊥). omega (
      arith,
      get_or-set_other l desk d round 0 (λ z. q (sym z)),
      only_no (desk =? d) 1 (not_eq desk d q),
    ))
    (eq_or_ne desk d)

-- the plain book after a list
module _ (g s : ℕ) (ps : List Posting) where
  abbrev E : PlainBook
  E = empty_plain g s

  -- the sum of a number that is 0 in the empty book
  run :
      (value : PlainBook → ℕ) (more : Posting → ℕ) → value E ≡ 0
      → ((B : PlainBook) (p : Posting) → Fits B p → Sound g s B
      → value (entered_of p B) ≡ value B + more p)
      → value (final E ps) ≡ sum_over more (posted_rounds ps (answers E ps))
  run value more z raises =
      omega (arith, z, (sums (Sound g s) value more (sound_entered g s) raises ps E (sound_empty g s)).1)

  sound_final : Sound g s (final E ps)
  sound_final = (sums (Sound g s) (λ B. 0) (λ p. 0) (sound_entered g s) (λ B p f h. refl) ps E (sound_empty g s)).0

  guest_sum : (i : ℕ) → i < g → get_or (final E ps).guests i 0 ≡ sum_over (to_guest i) (posted_rounds ps (answers E ps))
  unfolding empty_plain entered to_guest
  guest_sum i l =
      run (λ B. get_or B.guests i 0) (to_guest i) (get_or-replicate {A = ℕ} g i 0 0 l)
      (λ B p f h. get_d_raised _ _ B.guests i (rw h.guests l))

  sold_sum : (j : ℕ) → j < s → get_or (final E ps).sold j 0 ≡ sum_over (to_sold j) (posted_rounds ps (answers E ps))
  unfolding empty_plain entered to_sold
  sold_sum j l =
      run (λ B. get_or B.sold j 0) (to_sold j) (get_or-replicate {A = ℕ} s j 0 0 l)
      (λ B p f h. get_d_raised _ _ B.sold j (rw h.sold l))

  paid_sum : (j : ℕ) → j < s → get_or (final E ps).paid j 0 ≡ sum_over (to_paid j) (posted_rounds ps (answers E ps))
  unfolding empty_plain entered to_paid
  paid_sum j l =
      run (λ B. get_or B.paid j 0) (to_paid j) (get_or-replicate {A = ℕ} s j 0 0 l)
      (λ B p f h. get_d_raised _ _ B.paid j (rw h.paid l))

  house_sum : (final E ps).house ≡ sum_over to_house (posted_rounds ps (answers E ps))
  unfolding empty_plain entered to_house
  house_sum = run (λ B. B.house) to_house refl (λ B p f h. refl)

  last_sum :
      (d : ℕ) → d < max_desks → get_or (final E ps).last d 0 ≡ sum_over (to_desk d) (posted_rounds ps (answers E ps))
  unfolding empty_plain entered to_desk
  last_sum d l =
      run (λ B. get_or B.last d 0) (to_desk d) (get_or-replicate {A = ℕ} max_desks d 0 0 l)
      (λ B p f h. one_more B.last p.desk p.round d (rw h.desks f.desk_known) f.next_round)

-- the calls are the plain book's steps
as_plain :
    {B C : Book} {ps : List Posting} {vs : List Verdict} → PostedInTurn B ps vs C
    → (vs ≡ answers (plain B) ps) × (plain C ≡ final (plain B) ps)
unfolding answers final
as_plain none = (refl, refl)
as_plain (call {ps = ps} h c) =
    let (e, l) = (post_is_plain_step _ _ _ _).0 h in
    let i = as_plain c in
    (ap₂ ◌∷◌ e (i.0 ∙ ap (λ b. answers b ps) l), i.1 ∙ ap (λ b. final b ps) l)

pub from_empty :
    (g s : ℕ) (ps : List Posting) {vs : List Verdict} {B : Book} → PostedInTurn (empty_book g s) ps vs B
    → (vs ≡ answers (empty_plain g s) ps) × (plain B ≡ final (empty_plain g s) ps)
from_empty g s ps c = rw (← plain_empty g s) (as_plain c)

-- what the plain book says of the lent one
module _ (g s : ℕ) (ps : List Posting) (vs : List Verdict) (B : Book) (e : vs ≡ answers (empty_plain g s) ps)
    (q : plain B ≡ final (empty_plain g s) ps) where
  sound : Sound g s (plain B)
  sound = rw q (sound_final g s ps)

  well_kept : WellKept g s ps vs B
  unfolding plain
  well_kept = record {
    as_answered = e;
    as_plain = q;
    guest_count_lem = sound.guests;
    station_count_lem = sym (length_sold B.stations) ∙ sound.sold;
    guest_sum = λ i l. rw e (ap (λ b. get_or b.guests i 0) q ∙ guest_sum g s ps i l);
    sold_sum = λ j l. sym (get_d_sold B.stations j) ∙ rw e (ap (λ b. get_or b.sold j 0) q ∙ sold_sum g s ps j l);
    paid_sum = λ j l. sym (get_d_paid B.stations j) ∙ rw e (ap (λ b. get_or b.paid j 0) q ∙ paid_sum g s ps j l);
    house_sum = rw e (ap (λ b. b.house) q ∙ house_sum g s ps);
    desk_count = sound.desks;
    last_sum = λ d l. rw e (ap (λ b. get_or b.last d 0) q ∙ last_sum g s ps d l);
    level = sound.level;
    within_limit = sound.within;
  }

pub books_are_well_kept : BooksAreWellKept
books_are_well_kept g s ps vs B c = let (e, q) = from_empty g s ps c in well_kept g s ps vs B e q

-- ---- a call, and the desks' counts

module _ (B : PlainBook) (p : Posting) where
  others_stay : (d : ℕ) → (d ≡ p.desk → ⊥) → (v : Verdict) → last_of (updated v (entered_of p B) B) d ≡ last_of B d
  unfolding updated entered
  others_stay d q (accepted _) = get_or-set_other B.last p.desk d p.round 0 q
  others_stay d q (refused x) = refl

  own_counted : answer B p ≡ accepted tt → last_of (after B p) p.desk ≡ p.round
  unfolding after updated entered
  own_counted e =
      let f = fits B p e in
      rw e (get_or-set_same B.last p.desk p.round 0 (omega (arith, f.desk_known, f.desks_counted)))

pub post_counts_own_desk : PostCountsOwnDesk
unfolding plain after
post_counts_own_desk B C p v c =
    let (e, l) = (post_is_plain_step B C p v).0 c in
    record {
      next = λ q. (fits (plain B) p (sym e ∙ q)).next_round;
      counted = λ q. ap (λ b. last_of b p.desk) l ∙ own_counted (plain B) p (sym e ∙ q);
      others_stay = λ d q. ap (λ b. last_of b d) l ∙ others_stay (plain B) p d q (answer (plain B) p);
    }
