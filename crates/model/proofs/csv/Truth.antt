-- A text is read as a market exactly where it states that market.
use Prim.Native.Nat.{ℕ, zero, suc, ◌+◌, ◌*◌, ◌≤◌, ◌<◌}
use mathlib.Core.List.{List, [], ◌∷◌, map}
use mathlib.Core.Path.{◌≡◌, refl, sym, ap, ap₂, subst, ◌∙◌}
use native.Mathlib.Omega.{arith}
use lib.ListN.{length, get_or, length-map, get_or-map}
use lib.Seq.{ext_get_or}
use Rattle.model.specs.Limits.{max_stations}
use Rattle.model.specs.Counting.{list, joined}
use Rattle.model.specs.Verdicts.{accepted, first_fault}
use Rattle.model.specs.market.Market.{Tables, bid_at}
use Rattle.model.specs.market.Shape.{Shaped}
use Rattle.model.specs.csv.Places.{value_of}
use Rattle.model.specs.csv.Faults.{stations, most, csv_faults}
use Rattle.model.specs.csv.Content.{csv_tables, read_csv}
use Rattle.model.specs.csv.Text.{lines, field_at, number_in, GoodField, guest_numbers, numbers_of, StatesCsv}
use Rattle.model.specs.csv.Text.{ReadsExactlyWhatTextStates, ReadFits}
use Rattle.model.proofs.Counting.{length_list, get_d_list}
use Rattle.model.proofs.Verdicts.{gave_accepted}
use Rattle.model.proofs.sheet.Joined.{joined_length, get_d_joined}
use Rattle.model.proofs.csv.Going.{GoodFields}
use Rattle.model.proofs.csv.LaidOut.{ask_most, bays_most, ticket_most, amount_most, bid_most}
use Rattle.model.proofs.csv.Lines.{GoodLines, stations_line}
use Rattle.model.proofs.csv.Parsed.{Lined, accepted_parsed}
use Rattle.model.proofs.csv.Stated.{length_each, get_d_each, bays_fields, guest_fields_lem, states_read}

-- ---- the market that lines of good fields state

-- the numbers of guest i's line
row : List (List (List ℕ)) → ℕ → List ℕ
row gs i = map number_in (get_or gs i [])

stated : (a b : List (List ℕ)) (gs : List (List (List ℕ))) → Tables
stated a b gs = record {
  asks = map number_in a;
  bays = map number_in b;
  amounts = list (length gs) (λ i. get_or (row gs i) 1 0);
  tickets = list (length gs) (λ i. get_or (row gs i) 0 0);
  bids = joined (length gs) (λ i. list (length a) (λ j. get_or (row gs i) (suc (suc j)) 0));
  width = length a;
}

module _ (a b : List (List ℕ)) (gs : List (List (List ℕ))) (ga : GoodFields 0 0 a) (some : 0 < length a)
    (few : length a ≤ max_stations) (gl : GoodLines (length a) 1 (b ∷ gs)) (low : length (b ∷ gs) < 202) where
  abbrev n : ℕ
  n = length gs

  abbrev m : ℕ
  m = length a

  abbrev t : Tables
  t = stated a b gs

  asks_long : length (map number_in a) ≡ m
  asks_long = length-map a number_in

  bays_long : length (map number_in b) ≡ m
  bays_long = length-map b number_in ∙ gl.enough 0 (omega arith) ∙ bays_fields m

  row_long : (i : ℕ) → i < n → length (row gs i) ≡ suc (suc m)
  unfolding row
  row_long i l =
      length-map (get_or gs i []) number_in ∙ gl.enough (suc i) (omega arith) ∙ guest_fields_lem m i ∙ omega arith

  shaped : Shaped t
  unfolding stated
  shaped = record {
    guests_most = omega (arith, length_list n (λ i. get_or (row gs i) 1 0));
    stations_least = omega (arith, asks_long);
    stations_most = omega (arith, asks_long);
    bays_length = bays_long ∙ sym asks_long;
    tickets_length = length_list n _ ∙ sym (length_list n _);
    bids_length = joined_length n m _ ∙ ap₂ ◌*◌ (sym (length_list n _)) (sym asks_long);
    width_is = sym asks_long;
  }

  bid_is : (i j : ℕ) → i < n → j < m → bid_at t i j ≡ get_or (row gs i) (suc (suc j)) 0
  unfolding bid_at stated
  bid_is i j l k =
      ap (λ q. get_or (joined n (λ i. list m (λ j. get_or (row gs i) (suc (suc j)) 0))) (i * q + j) 0) asks_long
      ∙ get_d_joined n m (λ i j. get_or (row gs i) (suc (suc j)) 0) i j l k

  bids_long : (i : ℕ) → length (list (length t.asks) (bid_at t i)) ≡ m
  unfolding stated
  bids_long i = length_list (length t.asks) (bid_at t i) ∙ asks_long

  row_at_lem : (i : ℕ) → i < n → (k : ℕ) → k < length (row gs i)
      → get_or (row gs i) k 0 ≡ get_or (guest_numbers t i) k 0
  unfolding guest_numbers stated
  row_at_lem i l zero h = sym (get_d_list n (λ i. get_or (row gs i) 0 0) i l)
  row_at_lem i l (suc zero) h = sym (get_d_list n (λ i. get_or (row gs i) 1 0) i l)
  row_at_lem i l (suc (suc j)) h =
      let k : j < m = omega (arith, row_long i l) in
      sym (get_d_list (length t.asks) (bid_at t i) j (omega (arith, asks_long)) ∙ bid_is i j l k)

  row_is : (i : ℕ) → i < n → row gs i ≡ guest_numbers t i
  unfolding guest_numbers
  row_is i l =
      ext_get_or 0 (row gs i) (guest_numbers t i)
      (let e : length (row gs i) ≡ length (guest_numbers t i) = omega (arith, row_long i l, bids_long i) in e)
      (row_at_lem i l)

  guests_long : length t.amounts ≡ n
  unfolding stated
  guests_long = length_list n _

  rows_are : map (map number_in) gs ≡ joined (length t.amounts) (λ i. guest_numbers t i ∷ [])
  unfolding row
  rows_are =
      let long = length_each (length t.amounts) (guest_numbers t) in
      ext_get_or [] (map (map number_in) gs) _ (length-map gs (map number_in) ∙ sym (long ∙ guests_long))
      (λ i h.
      let l : i < n = omega (arith, length-map gs (map number_in)) in
      get_or-map (map number_in) gs i [] ∙ row_is i l
      ∙ sym (get_d_each (length t.amounts) (guest_numbers t) [] i (omega (arith, guests_long))))

  field_at_lem :
      (l k : ℕ) → l < length (a ∷ b ∷ gs) → k < length (get_or (a ∷ b ∷ gs) l [])
      → GoodField l k (get_or (get_or (a ∷ b ∷ gs) l []) k [])
  field_at_lem zero k h j =
      subst (λ q. GoodField 0 q (get_or a k [])) (let e : 0 + k ≡ k = omega arith in e) (ga.each k j)
  field_at_lem (suc i) k h j =
      let e : 1 + i ≡ suc i = omega arith in
      let f : 0 + k ≡ k = omega arith in
      subst (λ q. GoodField q k (get_or (get_or (b ∷ gs) i []) k [])) e
      (subst (λ q. GoodField (1 + i) q (get_or (get_or (b ∷ gs) i []) k [])) f ((gl.fields i (omega arith)).each k j))

  lines_state : StatesCsv (lines (a ∷ b ∷ gs)) t
  unfolding numbers_of stated
  lines_state = record {
    shape = shaped;
    fields = a ∷ b ∷ gs;
    is = refl;
    numbers_are = ap (λ r. map number_in a ∷ map number_in b ∷ r) rows_are;
    good = field_at_lem;
  }

-- ---- what is read

module _ (text : List ℕ) (p : Lined text) where
  abbrev asks : List (List ℕ)
  asks = p.asks

  m_is : (ls : List (List (List ℕ))) → text ≡ lines (asks ∷ ls) → stations text ≡ length asks
  unfolding lines
  m_is ls is = ap stations is ∙ stations_line asks (lines ls) p.some_asks p.good_asks

  lined_states :
      (ls : List (List (List ℕ))) → text ≡ lines (asks ∷ ls) → GoodLines (stations text) 1 ls → 0 < length ls
      → length ls < 202 → (t : Tables) × StatesCsv text t
  lined_states [] is good least low = absurd (omega arith)
  lined_states (b ∷ gs) is good least low =
      let m = m_is (b ∷ gs) is in
      let good' : GoodLines (length asks) 1 (b ∷ gs) = subst (λ q. GoodLines q 1 (b ∷ gs)) m good in
      let s = lines_state asks b gs p.good_asks p.some_asks p.few_asks good' low in
      (stated asks b gs, subst (λ x. StatesCsv x (stated asks b gs)) (sym is) s)

accepted_states : (text : List ℕ) → first_fault (csv_faults text) ≡ accepted tt → (t : Tables) × StatesCsv text t
accepted_states text e =
    let p = accepted_parsed text e in
    lined_states text p p.ls p.is p.good_lines p.least p.most_lines

pub reads_exactly_what_text_states : ReadsExactlyWhatTextStates
unfolding read_csv
reads_exactly_what_text_states text t = (
  (λ e.
      let (u, s) = accepted_states text (gave_accepted (first_fault (csv_faults text)) (csv_tables text) t e).0 in
      let same : accepted u ≡ accepted t = sym (states_read text u s) ∙ e in
      let is : u ≡ t = cc in
      subst (λ v. StatesCsv text v) is s),
  states_read text t,
)

-- ---- within the widths

-- numbers, line by line, fit their tables
abbrev AllFit : List (List ℕ) → Type 0
AllFit rows = (l k : ℕ) → l < length rows → k < length (get_or rows l []) → get_or (get_or rows l []) k 0 ≤ most l k

number_at :
    (fields : List (List (List ℕ))) (l k : ℕ)
    → get_or (get_or (map (map number_in) fields) l []) k 0 ≡ number_in (field_at fields l k)
unfolding number_in value_of
number_at fields l k =
    ap (λ q. get_or q k 0) (get_or-map (map number_in) fields l []) ∙ get_or-map number_in (get_or fields l []) k []

line_long : (fields : List (List (List ℕ))) (l : ℕ)
    → length (get_or (map (map number_in) fields) l []) ≡ length (get_or fields l [])
line_long fields l =
    ap length (get_or-map (map number_in) fields l []) ∙ length-map (get_or fields l []) number_in

module _ (text : List ℕ) (t : Tables) (s : StatesCsv text t) where
  all_fit : AllFit (numbers_of t)
  all_fit = subst AllFit s.numbers_are (λ l k h j. omega (
    arith,
    number_at s.fields l k,
    (s.good l k (omega (arith, length-map s.fields (map number_in))) (omega (arith, line_long s.fields l))).fits,
  ))

  guest_low :
      (i k : ℕ) → i < length t.amounts → k < length (guest_numbers t i)
      → get_or (guest_numbers t i) k 0 ≤ most (suc (suc i)) k
  unfolding numbers_of
  guest_low i k l h =
      let row = get_d_each (length t.amounts) (guest_numbers t) [] i l in
      subst (λ r. get_or r k 0 ≤ most (suc (suc i)) k) row (all_fit (suc (suc i)) k
      (omega (arith, length_each (length t.amounts) (guest_numbers t)))
      (subst (λ r. k < length r) (sym row) h))

pub read_fits : ReadFits
unfolding numbers_of guest_numbers
read_fits text t e =
    let s = (reads_exactly_what_text_states text t).0 e in
    let z = s.shape in
    let low = all_fit text t s in
    record {
      shape = z;
      ask_fits = λ j l. omega (arith, low 0 j (omega arith) l, ask_most j);
      bays_fit = λ j l. omega (arith, low 1 j (omega arith) (omega (arith, z.bays_length)), bays_most j);
      amount_fits = λ i l. omega (arith, guest_low text t s i 1 l (omega arith), amount_most i);
      ticket_fits = λ i l. omega (arith, guest_low text t s i 0 l (omega arith), ticket_most i);
      bid_fits = λ i j l k. omega (
        arith,
        guest_low text t s i (suc (suc j)) l (omega (arith, length_list (length t.asks) (bid_at t i))),
        get_d_list (length t.asks) (bid_at t i) j k,
        bid_most i j,
      );
    }
