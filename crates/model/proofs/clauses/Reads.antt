-- What a caller of `read` learns from its answer; what any reader leaves.
use Prim.Native.Nat.{ℕ, ◌*◌, ◌≤◌}
use mathlib.Core.Bool.{false, not}
use mathlib.Core.List.{List}
use mathlib.Core.Path.{◌≡◌, refl, sym, ap, ap₂, ◌∙◌}
use native.Mathlib.Nat.{le_refl}
use native.Mathlib.Omega.{arith}
use lib.ListN.{length, take}
use lib.Seq.{paste, take_at, take-length, length-take-le}
use Rattle.model.specs.Limits.{max_guests, max_stations, max_bids}
use Rattle.model.specs.Counting.{◌=?◌, ◌or◌}
use Rattle.model.specs.market.Market.{Tables}
use Rattle.model.specs.market.Shape.{Shaped}
use Rattle.model.specs.Numbers.{number, answer_of_reading}
use Rattle.model.specs.Verdicts.{Answer, accepted, refused}
use Rattle.model.specs.declared.refusal.Refusal.{Refusal}
use Rattle.model.proofs.Counting.{length_list}
use Rattle.model.proofs.Tests.{is_eq, neither}
use Rattle.model.proofs.Verdicts.{fault_later, no_fault, giving_accepted, giving_refused}
use Rattle.model.specs.sheet.Rows.{bid_of}
use Rattle.model.proofs.sheet.Joined.{joined_length}
use Rattle.model.specs.sheet.Content.{guests, stations, tables_of, sheet_faults, read_sheet}
use Rattle.std.specs.Prelude.{Result, Ok, Err, IfOk}
use Rattle.model.specs.declared.answers.Counts.{Counts}
use Rattle.model.proofs.sheet.Faults.{sheet_sound}
use Rattle.model.proofs.Promises.{was_accepted, was_refused}
use Rattle.model.specs.sheet.Lent.{LentTables, table_lengths, reading_faults, filled}
use Rattle.model.specs.clauses.EntryPoints.{reading, Reads}
use Rattle.model.proofs.market.Acceptance.{product_fits}

-- an accepted reading: the first places of the tables at exit are the market that was read
pub record ReadTables (answer : Answer Tables) (n m : ℕ) (exit : LentTables) : Type 0 where
  pub market : Tables
  pub reads : answer ≡ accepted market
  pub shape : Shaped market
  pub n_is : length market.amounts ≡ n
  pub m_is : length market.asks ≡ m
  pub amounts_are : take n exit.amounts ≡ market.amounts
  pub tickets_are : take n exit.tickets ≡ market.tickets
  pub asks_are : take m exit.asks ≡ market.asks
  pub bays_are : take m exit.bays ≡ market.bays
  pub bids_are : take (n * m) exit.bids ≡ market.bids

-- the lengths of the other three tables, and the room that the bids take
module _ {answer : Answer Tables} {n m : ℕ} {exit : LentTables} (t : ReadTables answer n m exit) where
  pub tickets_long : length t.market.tickets ≡ n
  tickets_long = t.shape.tickets_length ∙ t.n_is

  pub bays_long : length t.market.bays ≡ m
  bays_long = t.shape.bays_length ∙ t.m_is

  pub bids_long : length t.market.bids ≡ n * m
  bids_long = t.shape.bids_length ∙ ap₂ ◌*◌ t.n_is t.m_is

  pub room : n * m ≤ max_bids
  room =
      product_fits n m (omega (arith, t.shape.guests_most, t.n_is)) (omega (arith, t.shape.stations_most, t.m_is))

take_pasted : (xs l y : List ℕ) (n : ℕ) → y ≡ paste l 0 xs (length xs) → length xs ≡ n → take n y ≡ xs
take_pasted xs l y n e h = ap (take n) e ∙ take_at _ _ n (omega (arith, length-take-le (length xs) xs (le_refl _)))
    ∙ take-length xs

pub lent_good :
    (a k b c d : ℕ) → a ≡ max_guests → k ≡ max_guests → b ≡ max_stations → c ≡ max_stations → d ≡ max_bids
    → (not (a =? max_guests) or not (k =? max_guests) or not (b =? max_stations) or not (c =? max_stations)
    or not (d =? max_bids)) ≡ false
lent_good a k b c d la lk lb lc ld =
    neither (neither (neither (neither (ap not (is_eq a max_guests la)) (ap not (is_eq k max_guests lk)))
    (ap not (is_eq b max_stations lb))) (ap not (is_eq c max_stations lc)))
    (ap not (is_eq d max_bids ld))

-- tables that are filled with a market hold it
pub filled_holds :
    {answer : Answer Tables} (t : Tables) (n m : ℕ) (entry : LentTables) {exit : LentTables} → answer ≡ accepted t
    → Shaped t → length t.amounts ≡ n → length t.asks ≡ m → exit ≡ filled t entry → ReadTables answer n m exit
unfolding filled
filled_holds t n m entry reads shape n_is m_is full = record {
  market = t;
  reads = reads;
  shape = shape;
  n_is = n_is;
  m_is = m_is;
  amounts_are = take_pasted _ entry.amounts _ n (ap (λ l. l.amounts) full) n_is;
  tickets_are = take_pasted _ entry.tickets _ n (ap (λ l. l.tickets) full) (shape.tickets_length ∙ n_is);
  asks_are = take_pasted _ entry.asks _ m (ap (λ l. l.asks) full) m_is;
  bays_are = take_pasted _ entry.bays _ m (ap (λ l. l.bays) full) (shape.bays_length ∙ m_is);
  bids_are = take_pasted _ entry.bids _ (n * m) (ap (λ l. l.bids) full)
      (shape.bids_length ∙ ap₂ ◌*◌ n_is m_is);
}

-- the counts of tables that were read are those of a market
pub within_counts :
    {answer : Answer Tables} {exit : LentTables} (r : Result Counts Refusal)
    → ((c : Counts) → r ≡ Ok c → ReadTables answer c.guests c.stations exit)
    → IfOk r (λ c. (c.guests ≤ max_guests) × (c.stations ≤ max_stations))
within_counts (Ok c) h =
    let t = h c refl in
    (omega (arith, t.shape.guests_most, t.n_is), omega (arith, t.shape.stations_most, t.m_is))
within_counts (Err x) h = tt

module _ (s : List ℕ) (entry exit : LentTables) (r : Result Counts Refusal) (k : Reads s entry r exit) where
  pub read_tables : (c : Counts) → r ≡ Ok c → ReadTables (read_sheet s) c.guests c.stations exit
  unfolding answer_of_reading reading reading_faults table_lengths read_sheet tables_of
  read_tables c e =
      let n : ℕ = c.guests in
      let m : ℕ = c.stations in
      let (v, p, full) = was_accepted k (ap answer_of_reading e) in
      let f : n ≡ guests s = sym (ap (λ p. p.0) p) in
      let g : m ≡ stations s = sym (ap (λ p. p.1) p) in
      let (l, z) = no_fault _ _ _ v in
      let t = sheet_sound s z in
      let few : n ≤ max_guests = omega (arith, t.few) in
      let narrow : m ≤ max_stations = omega (arith, t.narrow) in
      let a_long : length (tables_of s).amounts ≡ n = length_list _ _ ∙ sym f in
      let k_long : length (tables_of s).tickets ≡ n = length_list _ _ ∙ sym f in
      let b_long : length (tables_of s).asks ≡ m = length_list _ _ ∙ sym g in
      let c_long : length (tables_of s).bays ≡ m = length_list _ _ ∙ sym g in
      let d_long : length (tables_of s).bids ≡ n * m = joined_length _ _ (bid_of s (stations s)) ∙ sym (ap₂ ◌*◌ f g) in
      let shape : Shaped (tables_of s) = record {
        guests_most = omega (arith, a_long, few);
        stations_least = omega (arith, b_long, g, t.some);
        stations_most = omega (arith, b_long, narrow);
        bays_length = c_long ∙ sym b_long;
        tickets_length = k_long ∙ sym a_long;
        bids_length = d_long ∙ sym (ap₂ ◌*◌ a_long b_long);
        width_is = sym (length_list _ _);
      } in
      filled_holds (tables_of s) n m entry (giving_accepted _ z) shape a_long b_long full

  -- a refused sheet, where the tables had the right lengths
  pub read_fault :
      (x : Refusal) → length entry.amounts ≡ max_guests → length entry.tickets ≡ max_guests
      → length entry.asks ≡ max_stations → length entry.bays ≡ max_stations → length entry.bids ≡ max_bids
      → r ≡ Err x
      → read_sheet s ≡ refused (number x)
  unfolding answer_of_reading reading reading_faults read_sheet table_lengths
  read_fault x la lk lb lc ld e =
      let l = lent_good _ _ _ _ _ la lk lb lc ld in
      let w = (was_refused k (ap answer_of_reading e)).0 in
      giving_refused _ _ (sym (fault_later 10 (sheet_faults s) l) ∙ w)

  -- what is read is no larger than a market may be
  pub read_counts : IfOk r (λ c. (c.guests ≤ max_guests) × (c.stations ≤ max_stations))
  read_counts = within_counts r (λ c e. read_tables c e)
