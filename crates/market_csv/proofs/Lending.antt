-- The lent tables, as `read_csv` leaves them.
use Rattle.std.proofs.Common.{◌≡◌, ℕ, ◌+◌, ◌*◌, ◌/◌, ◌%◌, ◌<◌, ◌≤◌, Bool, true, false, List, [], ◌∷◌, ◌++◌, length}
use Rattle.std.proofs.Common.{sym, refl, ap, ◌∙◌, mod-lt, div-lt_iff_lt-mul, div-add-mod', arith, length-take-le}
use Rattle.std.proofs.Common.{get_or, take, drop, take_all, get_or-take, ext_get_or, Result, Ok, Err}
use lib.Seq.{paste}
use Rattle.model.specs.Counting.{list, joined}
use Rattle.model.specs.Numbers.{number, answer_of_reading, answer_of_verdict}
use Rattle.model.specs.Verdicts.{◌gives◌, accepted, refused, first_fault}
use Rattle.model.specs.declared.answers.Counts.{Counts}
use Rattle.model.specs.declared.refusal.Refusal.{Refusal}
use Rattle.model.specs.sheet.Lent.{LentTables, lent_tables, table_lengths, filled}
use Rattle.model.specs.clauses.EntryPoints.{reading_csv, ReadsCsv}
use Rattle.model.specs.csv.Faults.{csv_faults, reading_csv_faults}
use Rattle.model.specs.csv.Content.{value, guest_field, csv_tables}
use Rattle.model.proofs.Counting.{length_list}
use Rattle.model.proofs.Loops.{is_list}
use Rattle.model.proofs.Promises.{keeps_refused, keeps_accepted}
use Rattle.model.proofs.Verdicts.{fault_first, fault_second}
use Rattle.model.proofs.sheet.Joined.{joined_length, get_d_joined}
use Rattle.model.proofs.sheet.Tables.{first_places, room_for, lent_lengths}
use Rattle.model.specs.Limits.{max_guests, max_stations}
use Rattle.market_csv.specs.Copies.{Fits, copied, lists_of}
use Rattle.market_csv.specs.Parses.{Parsed, ParseRead}
use Rattle.market_csv.specs.declared.own.OwnTables.{OwnTables}
use Rattle.copies.proofs.Tables.{tables_are}

-- ---- what is copied

pub copied_is : (xs own l : List ℕ) (n : ℕ) → take n own ≡ xs → length xs ≡ n → paste l 0 own n ≡ first_places xs l
copied_is xs own l n e h =
    ap (λ x. take 0 l ++ x ++ drop (0 + n) l) (e ∙ sym (take_all n xs (omega arith)))
    ∙ ap (λ k. paste l 0 xs k) (sym h)

pub list_copied :
    (n : ℕ) (f : ℕ → ℕ) (own l : List ℕ) → n ≤ length own → ((k : ℕ) → k < n → get_or own k 0 ≡ f k)
    → paste l 0 own n ≡ first_places (list n f) l
list_copied n f own l h g = copied_is (list n f) own l n
    (is_list n f (take n own) (length-take-le n own h) (λ k a. get_or-take n own k 0 a ∙ g k a)) (length_list n f)

pub rows_copied :
    (n m : ℕ) (f : ℕ → ℕ → ℕ) (own l : List ℕ) → 0 < m → n * m ≤ length own
    → ((i j : ℕ) → i < n → j < m → get_or own (i * m + j) 0 ≡ f i j)
    → paste l 0 own (n * m) ≡ first_places (joined n (λ i. list m (f i))) l
rows_copied n m f own l some h g = copied_is (joined n (λ i. list m (f i))) own l (n * m)
    (ext_get_or 0 (take (n * m) own) (joined n (λ i. list m (f i)))
    (length-take-le (n * m) own h ∙ sym (joined_length n m f)) each)
    (joined_length n m f)
  where
    each :
        (p : ℕ) → p < length (take (n * m) own)
        → get_or (take (n * m) own) p 0 ≡ get_or (joined n (λ i. list m (f i))) p 0
    each p a =
        let b : p < n * m = omega (arith, length-take-le (n * m) own h) in
        let i : p / m < n = (div-lt_iff_lt-mul some).1 b in
        let j : p % m < m = mod-lt p some in
        let e : p / m * m + p % m ≡ p = div-add-mod' p m in
        get_or-take (n * m) own p 0 b
        ∙ ap (λ x. get_or own x 0) (sym e) ∙ g (p / m) (p % m) i j ∙ sym (get_d_joined n m f (p / m) (p % m) i j)
        ∙ ap (λ x. get_or (joined n (λ i. list m (f i))) x 0) e

-- ---- the answer

lengths_are : (b : Bool) → accepted tt ≡ first_fault ((b gives 10) ∷ []) → b ≡ false
unfolding first_fault
lengths_are true e = absurd (let z : ◌≡◌ {A = ℕ} 0 1 = cc in omega arith)
lengths_are false e = refl

refused_by :
    (s : List ℕ) (entry : LentTables) (x : Refusal) → first_fault (reading_csv_faults entry s) ≡ refused (number x)
    → ReadsCsv s entry (Err x) entry
unfolding answer_of_reading reading_csv
refused_by s entry x e = keeps_refused e

module _ (s : List ℕ) (entry : LentTables) {r : Result Unit Refusal}
    (l : answer_of_verdict r
    ≡ first_fault (table_lengths (length entry.amounts) (length entry.tickets) (length entry.asks) (length entry.bays)
    (length entry.bids) ∷ [])) where
  pub refused_lent : (x : Refusal) → r ≡ Err x → ReadsCsv s entry (Err x) entry
  unfolding reading_csv_faults answer_of_verdict
  refused_lent x t = refused_by s entry x (fault_first _ _ (sym (rw t at l)))

  module _ (t : r ≡ Ok tt) where
    accepted_lent : accepted tt
        ≡ first_fault (table_lengths (length entry.amounts) (length entry.tickets) (length entry.asks)
        (length entry.bays) (length entry.bids) ∷ [])
    unfolding answer_of_verdict
    accepted_lent = rw t at l

    as_text : first_fault (reading_csv_faults entry s) ≡ first_fault (csv_faults s)
    unfolding reading_csv_faults
    as_text = fault_second _ _ (sym accepted_lent)

    lengths : table_lengths (length entry.amounts) (length entry.tickets) (length entry.asks) (length entry.bays)
        (length entry.bids) ≡ (false gives 10)
    unfolding table_lengths
    lengths = ap (λ b. b gives 10) (lengths_are _ accepted_lent)

    pub refused_text : (own : OwnTables) (x : Refusal) → ParseRead s own (Err x) → ReadsCsv s entry (Err x) entry
    unfolding ParseRead
    refused_text own x p = refused_by s entry x (as_text ∙ p)

    module _ (own : OwnTables) (c : Counts) (p : ParseRead s own (Ok c)) where
      found : Parsed s c.guests c.stations own
      unfolding ParseRead
      found = p

      pub fits :
          (c.guests ≤ max_guests) × (c.stations ≤ max_stations) × Fits c.guests c.stations entry
      fits =
          let q = found in
          let (ha, hk, hb, hc, hd) = lent_lengths _ _ _ _ _ lengths in (
            q.few_guests,
            q.few,
            record {
              amounts_fit = omega (arith, q.few_guests);
              tickets_fit = omega (arith, q.few_guests);
              asks_fit = omega (arith, q.few);
              bays_fit = omega (arith, q.few);
              bids_fit = omega (arith, room_for c.guests c.stations 8_000 q.few_guests q.few refl);
            },
          )

      read_by :
          {exit : LentTables} → let n = c.guests in let m = c.stations in exit
          ≡ lent_tables (first_places (list n (λ i. value s (guest_field m i + 1))) entry.amounts)
          (first_places (list n (λ i. value s (guest_field m i))) entry.tickets)
          (first_places (list m (λ j. value s j)) entry.asks)
          (first_places (list m (λ j. value s (m + j))) entry.bays)
          (first_places (joined n (λ i. list m (λ j. value s (guest_field m i + 2 + j)))) entry.bids)
          → ReadsCsv s entry (Ok c) exit
      unfolding answer_of_reading reading_csv filled csv_tables
      read_by x =
          let q = found in
          keeps_accepted (as_text ∙ q.good) (rw (q.guests_are, q.stations_are) refl)
          (rw (x, q.guests_are, q.stations_are) refl)

      -- the tables of the pass are copied
      pub read_all :
          {exit : LentTables} → Fits c.guests c.stations (lists_of own)
          → exit ≡ copied c.guests c.stations own entry → ReadsCsv s entry (Ok c) exit
      unfolding copied
      read_all h e =
          let q = found in
          read_by
          (e ∙ tables_are (list_copied _ _ own.amounts _ h.amounts_fit q.held.amounts_are)
          (list_copied _ _ own.tickets _ h.tickets_fit q.held.tickets_are)
          (list_copied _ _ own.asks _ h.asks_fit q.asks_are) (list_copied _ _ own.bays _ h.bays_fit q.bays_are)
          (rows_copied _ _ (λ i j. value s (guest_field c.stations i + 2 + j)) own.bids _ q.some h.bids_fit
          q.held.bids_are))
