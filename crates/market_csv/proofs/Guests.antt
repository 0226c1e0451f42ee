-- A guest's line: ticket, amount, bids.
use Rattle.std.proofs.Common.{◌≡◌, ℕ, suc, ◌+◌, ◌-◌, ◌*◌, ◌<◌, ◌≤◌, false, true, List, ◌++◌, length, get_or, set}
use Rattle.std.proofs.Common.{sym, refl, ap, ◌∙◌, inl, inr, arith, get_or-set_other, get_or-set_same}
use Rattle.std.proofs.Common.{get_or-take, length-take-le, take, Result, Ok, Err}
use Rattle.std.proofs.lemmas.List.{get_or_append_left, get_or-append_right}
use borrow.Rule.Slice.PartMut.{put_mid, post_of}
use Rattle.model.specs.Counting.{◌=?◌, ◌and◌, ◌or◌, only}
use Rattle.model.specs.declared.refusal.Refusal.{Refusal}
use Rattle.model.specs.csv.Faults.{stations, fields_of, most, most_by, is_narrow, is_bid}
use Rattle.model.specs.csv.Content.{value, guest_field}
use Rattle.model.proofs.Tests.{and_no, is_lt, not_lt, not_eq}
use Rattle.market_csv.specs.Reached.{Place, Reached}
use Rattle.market_csv.specs.Ends.{Open, Due, TookAs, TakeRead, Taken}
use Rattle.market_csv.specs.Rows.{FaultIs, RowDue, RowIs, RowRead, Put, GuestDue, GuestIs}
use Rattle.market_csv.specs.declared.own.OwnTables.{OwnTables}
use Rattle.market_csv.proofs.Going.{after_more}

-- ---- the fields of a guest's line

guest_fields_lem : (m line : ℕ) → 1 < line → fields_of m line ≡ m + 2
unfolding fields_of only
guest_fields_lem m line h = rw (is_lt 0 line (omega arith), is_lt 1 line h) refl

guest_wide : (line field : ℕ) → 1 < line → (field ≡ 1 → ⊥) → most line field ≡ 4_294_967_295
unfolding most most_by is_narrow ◌or◌ ◌and◌
guest_wide line field h n =
    rw (not_eq line 1 (λ (z : line ≡ 1). omega arith), is_lt 1 line h, not_eq field 1 n) refl

guest_narrow : (line : ℕ) → 1 < line → most line 1 ≡ 65_535
unfolding most most_by is_narrow ◌or◌ ◌and◌ ◌=?◌
guest_narrow line h = rw (not_eq line 1 (λ (z : line ≡ 1). omega arith), is_lt 1 line h) refl

guest_bid : (line field : ℕ) → 1 < line → 1 < field → is_bid line field ≡ true
unfolding is_bid ◌and◌
guest_bid line field h g = rw (is_lt 1 line h, is_lt 1 field g) refl

guest_no_bid : (line field : ℕ) → 1 < line → field ≤ 1 → is_bid line field ≡ false
unfolding is_bid ◌and◌
guest_no_bid line field h g = rw (is_lt 1 line h, not_lt 1 field g) refl

-- ---- what is put

put_one : {i v : ℕ} (f : ℕ → ℕ) (l : List ℕ) → i < length l → v ≡ f 0 → Put i 1 f l (set l i v)
put_one {i} {v} f l h e = record {
  done = λ k a. let z : k ≡ 0 = omega arith in let y : i + 0 ≡ i = omega arith in
      rw (z, y) (get_or-set_same l i v 0 h ∙ e);
  kept = λ k a. get_or-set_other l i k v 0 (omega arith);
}

put_row :
    (base m : ℕ) (f : ℕ → ℕ) (l row : List ℕ) → length row ≡ m → base + m ≤ length l
    → ((k : ℕ) → k < m → get_or row k 0 ≡ f k) → Put base m f l (put_mid base (base + m - base) l row)
put_row base m f l row e h g = record {
  done = λ k a.
      let z : base + k - base ≡ k = omega arith in
      get_or-append_right (take base l) (row ++ post) base (base + k) 0 front (omega arith)
      ∙ ap (λ x. get_or (row ++ post) x 0) z ∙ get_or_append_left row post 0 k (omega arith) ∙ g k a;
  kept = λ k a.
      get_or_append_left (take base l) (row ++ post) 0 k (omega (arith, front)) ∙ get_or-take base l k 0 a;
}
  where
    post : List ℕ
    post = post_of base (base + m - base) l

    front : length (take base l) ≡ base
    front = length-take-le base l (omega arith)

-- ---- the line

-- the ticket is taken: the amount comes next
pub record Ticketed (s : List ℕ) (m i : ℕ) (p : Place) (v : ℕ) : Type 0 where
  pub same : p.text ≡ s
  pub is : v ≡ value s (guest_field m i)
  pub due : Due p (2 + i) 1 (guest_field m i + 1) 65_535 false false

-- and the amount: the bids come next
pub record Amounted (s : List ℕ) (m i : ℕ) (p : Place) (v : ℕ) : Type 0 where
  pub same : p.text ≡ s
  pub is : v ≡ value s (guest_field m i + 1)
  pub due : RowDue p m (2 + i) 2 (guest_field m i + 2) 4_294_967_295 true

abbrev same : ℕ → ℕ
same v = v

module _ {entry : Place} {m i : ℕ} (d : GuestDue entry m i) where
  -- a field before the bids
  before_bids :
      (p : Place) (k : ℕ) {ended largest : ℕ} → k ≤ 1 → p.text ≡ entry.text
      → Reached entry.text p.at (2 + i) k ended 0 → largest ≡ most (2 + i) k → Open entry.text p.at (2 + i)
      → Due p (2 + i) k ended largest false false
  before_bids p k h s r e o =
      let f = guest_fields_lem (stations entry.text) (2 + i) (omega arith) in
      record {
        reached = rw s r;
        after_first = omega arith;
        before = omega (arith, d.low);
        largest_is = e;
        empty_is = sym (guest_no_bid (2 + i) k (omega arith) h);
        in_line = rw s (omega arith);
        last_is = rw s
            (sym (not_eq (k + 1) _ (λ (z : k + 1 ≡ fields_of (stations entry.text) (2 + i)).
            omega (arith, d.some, d.stations_are))));
        unended = rw s o;
      }

  ticket_due : Due entry (2 + i) 0 (guest_field m i) 4_294_967_295 false false
  ticket_due =
      before_bids entry 0 (omega arith) refl d.starts.reached
      (sym (guest_wide (2 + i) 0 (omega arith) (λ (z : 0 ≡ 1). omega arith))) (inl d.more)

  pub ticket_fault :
      (p : Place) (r : Refusal) → TakeRead same 4_294_967_295 false false entry p (Err r) → FaultIs entry.text r
  unfolding TookAs
  ticket_fault p r f = f _ _ _ ticket_due

  pub ticketed :
      (p : Place) (v : ℕ) → TakeRead same 4_294_967_295 false false entry p (Ok v) → Ticketed entry.text m i p v
  unfolding TookAs
  ticketed p v f =
      let t : (v ≡ value entry.text (guest_field m i)) × Taken entry.text (2 + i) 0 (guest_field m i) false p =
      f _ _ _ ticket_due in
      let (r, o) = after_more false refl t.1.after in
      let z : suc (guest_field m i) ≡ guest_field m i + 1 = omega arith in
      record {
        same = t.1.same;
        is = t.0;
        due = before_bids p 1 (omega arith) t.1.same (rw z at r) (sym (guest_narrow (2 + i) (omega arith)))
            (inr (and_no _ _ o));
      }

  module _ (p : Place) (v : ℕ) (t : Ticketed entry.text m i p v) where
    pub amount_fault : (q : Place) (r : Refusal) → TakeRead same 65_535 false false p q (Err r) → FaultIs entry.text r
    unfolding TookAs
    amount_fault q r f = rw t.same at (f _ _ _ t.due)

    pub amounted : (q : Place) (w : ℕ) → TakeRead same 65_535 false false p q (Ok w) → Amounted entry.text m i q w
    unfolding TookAs
    amounted q w f =
        let a : (w ≡ value entry.text (guest_field m i + 1))
        × Taken entry.text (2 + i) 1 (guest_field m i + 1) false q = rw t.same at (f _ _ _ t.due) in
        let (r, o) = after_more false refl a.1.after in
        let z : suc (guest_field m i + 1) ≡ guest_field m i + 2 = omega arith in
        record {
          same = a.1.same;
          is = a.0;
          due = record {
            some = d.some;
            after_first = omega arith;
            before = omega (arith, d.low);
            fields_are = rw a.1.same
                (omega (arith, guest_fields_lem (stations entry.text) (2 + i) (omega arith), d.stations_are));
            largest_is = λ j. sym (guest_wide (2 + i) (2 + j) (omega arith) (λ (z : 2 + j ≡ 1). omega arith));
            empty_is = λ j. sym (guest_bid (2 + i) (2 + j) (omega arith) (omega arith));
            reached = rw (a.1.same, ← z) r;
            unended = rw a.1.same (inr (and_no _ _ o));
          };
        }

    pub guest_read :
        (q : Place) (w : ℕ) (exit : Place) (row : List ℕ) (r : Result Unit Refusal) (own : OwnTables)
        → Amounted entry.text m i q w → (n : ℕ) → n ≡ m → RowRead same 4_294_967_295 true n q exit row r
        → i < length own.tickets → i < length own.amounts → i * m + m ≤ length own.bids → length row ≡ m
        → GuestIs entry.text m i exit own
        (record {
          amounts = set own.amounts i w;
          tickets = set own.tickets i v;
          asks = own.asks;
          bays = own.bays;
          bids = put_mid (i * m) (i * m + m - i * m) own.bids row;
        }) r
    unfolding GuestIs RowIs
    guest_read q w exit row (Ok done) own a n z f ht ha hb l =
        let due : RowDue q n (2 + i) 2 (guest_field m i + 2) 4_294_967_295 true = rw z a.due in
        let b = rw (z, a.same) at (f _ _ _ due) in
        let z : suc (2 + i) ≡ 3 + i = omega arith in
        record {
          starts = rw z at b.starts;
          put = record {
            ticket = put_one _ own.tickets ht t.is;
            amount = put_one _ own.amounts ha a.is;
            bids_are = put_row (i * m) m _ own.bids row l hb b.row_is;
            asks_kept = refl;
            bays_kept = refl;
          };
        }
    guest_read q w exit row (Err r) own a n z f ht ha hb l =
        let due : RowDue q n (2 + i) 2 (guest_field m i + 2) 4_294_967_295 true = rw z a.due in
        rw a.same at (f _ _ _ due)
