-- Laws of the code of a bid, and of the loops that write codes.
use Prim.Native.Nat.{ℕ, ◌+◌, ◌*◌, ◌≤◌, ◌<◌, max}
use mathlib.Core.Bool.{Bool, true, false, not, cond}
use mathlib.Core.List.{List, [], ◌∷◌}
use mathlib.Core.Logic.{⊎_elim}
use mathlib.Core.Path.{◌≡◌, refl, sym, ap, ◌∙◌}
use native.Mathlib.Nat.{mul-le-mul_right}
use native.Mathlib.Numerals.{add-one}
use native.Mathlib.Omega.{arith}
use lib.ListN.{get_or, length, set}
use borrow.Rule.Slice.PartMut.{put_mid}
use Rattle.std.proofs.lemmas.Slice.{put_mid-paste}
use Rattle.model.specs.Limits.{max_guests, max_stations}
use Rattle.model.specs.Counting.{◌<?◌, ◌≤?◌, ◌=?◌, ◌and◌, only, greatest, list}
use Rattle.model.specs.Verdicts.{◌gives◌, first_fault, number_of}
use Rattle.model.specs.market.Market.{Tables, bid_at, market_by, market, cut, opens, screen, queue, provisional}
use Rattle.model.specs.market.Reasons.{conditions, code}
use Rattle.model.specs.claims.Meaning.{WithinLimits}
use Rattle.model.specs.declared.rule.Rule.{Rule}
use Rattle.model.proofs.Tests.{both, is_lt, not_lt, is_le, lt_or_le}
use Rattle.model.proofs.Counting.{length_list, greatest_cong}
use Rattle.model.proofs.Loops.{long, Filling, filling_none, filling_turn, filling_end}
use Rattle.model.proofs.Tables.{RowsWritten, rows_none, rows_turn, rows_end}
use Rattle.model.proofs.market.Acceptance.{product_fits}
use Rattle.model.specs.clauses.Rows.{row_of}
use Rattle.model.proofs.clauses.Rows.{row_long, row_shows}
use Rattle.allocation.specs.Screens.{screened_at}
use Rattle.allocation.specs.Stages.{Bars}
use Rattle.allocation.proofs.assignment.Assignment.{critical_at_lem, critical_low}
use Rattle.explain.specs.Codes.{code_by, code_at, row_code, RowReady, CodesAtCut}

-- ---- the code of a bid

-- who wins matters for candidates alone
won_matters :
    (bid ask c : ℕ) (x y : Bool) → (ask < c → c ≤ bid → x ≡ y) → code_by bid ask c x ≡ code_by bid ask c y
unfolding code_by
won_matters bid ask c x y h = ⊎_elim
    (λ (l : ask < c). ⊎_elim
    (λ (b : bid < c). rw (is_lt ask c l, is_lt bid c b) refl)
    (λ (b : c ≤ bid). rw (h l b) refl)
    (lt_or_le bid c))
    (λ (l : c ≤ ask). rw (not_lt ask c l) refl)
    (lt_or_le ask c)

-- it is the first reason that applies
first_reason :
    (a b p : Bool) (bid c : ℕ)
    → cond a 1 (cond b (cond (bid <? c) 3 (cond p 0 4)) 2)
    ≡ number_of (first_fault ((a gives 1) ∷ (not b gives 2) ∷ (bid <? c gives 3)
    ∷ ((b and c ≤? bid) and not p gives 4) ∷ []))
unfolding number_of first_fault ◌and◌
first_reason true b p bid c = refl
first_reason false false p bid c = refl
first_reason false true true bid c = ⊎_elim
    (λ (l : bid < c). rw (is_lt bid c l) refl)
    (λ (l : c ≤ bid). rw (not_lt bid c l, is_le c bid l) refl)
    (lt_or_le bid c)
first_reason false true false bid c = ⊎_elim
    (λ (l : bid < c). rw (is_lt bid c l) refl)
    (λ (l : c ≤ bid). rw (not_lt bid c l, is_le c bid l) refl)
    (lt_or_le bid c)

pub code_is : (rule : Rule) (t : Tables) (i j : ℕ) → code_at t (cut (market rule t)) i j ≡ code (market rule t) i j
unfolding code_at code_by code conditions opens screen screened_at market market_by
code_is rule t i j =
    first_reason (bid_at t i j =? 0) (get_or t.asks j 0 <? cut (market rule t))
    (provisional (queue (screened_at t (cut (market rule t))) j) i) (bid_at t i j) (cut (market rule t))

-- ---- a row of codes, from bars

module _ (t : Tables) (c : ℕ) {criticals bounds row : List ℕ} (w : WithinLimits t) (b : Bars t c criticals bounds)
    (i : ℕ) (li : i < length t.amounts) (e : row ≡ row_of t.bids (length t.asks) (i + 1)) where
  -- where the row stands in the table
  whole : (i + 1) * length t.asks ≤ length t.bids
  whole = omega (arith, w.shape.bids_length, mul-le-mul_right (length t.asks) li)

  shows_bid : (j : ℕ) → j < length t.asks → get_or row j 0 ≡ get_or t.bids (i * length t.asks + j) 0
  shows_bid j l = rw e (row_shows t.bids (length t.asks) i j whole l)

  candidate :
      (j : ℕ) → get_or t.asks j 0 < c → c ≤ bid_at t i j → (screened_at t c).candidate i j ≡ true
  unfolding screened_at
  candidate j l h = both (is_lt _ _ l) (is_le _ _ h)

  pub row_code_is :
      (j : ℕ) → j < length t.asks
      → row_code t.asks row (get_or t.amounts i 0) (get_or t.tickets i 0) c criticals bounds j ≡ code_at t c i j
  unfolding row_code code_at bid_at screened_at
  row_code_is j lj =
      rw (shows_bid j lj) (won_matters _ _ c _ _ (λ l h. rw (add-one j, critical_at_lem t c w b.criticals_are j lj)
      (b.bounded.wins i j li lj (candidate j l h))))

  pub row_ready :
      {codes : List ℕ} → length codes ≡ length t.asks
      → RowReady t.asks row (get_or t.amounts i 0) criticals bounds codes
  row_ready {codes} room =
      let end : i * length t.asks + length t.asks ≤ length t.amounts * length t.asks
      = omega (arith, mul-le-mul_right (length t.asks) li) in
      record {
        few = w.shape.stations_most;
        row_long = rw e (row_long t.bids (length t.asks) i whole);
        bids_low = λ j l. rw (shows_bid j l) (w.bid_most _ (omega (arith, w.shape.bids_length)));
        amount_low = w.amount_most i li;
        criticals_long = long _ _ b.criticals_are;
        bounds_long = b.bounded.bounds_long;
        criticals_low = λ j lj. rw (add-one j, critical_at_lem t c w b.criticals_are j lj) (critical_low t c w j lj);
        codes_long = room;
      }

-- ---- the loop over a row: its first j codes are written, and top is the highest of them

pub record RowSoFar (m : ℕ) (f : ℕ → ℕ) (codes₀ codes : List ℕ) (top j : ℕ) : Type 0 where
  pub written : Filling m f codes₀ codes j
  pub highest : top ≡ greatest j f

pub row_so_far_none : {m : ℕ} {f : ℕ → ℕ} {codes : List ℕ} → length codes ≡ m → RowSoFar m f codes codes 0 0
unfolding greatest
row_so_far_none long = record { written = filling_none long; highest = refl }

module _ {m : ℕ} {f : ℕ → ℕ} {codes₀ codes : List ℕ} {top j : ℕ} (s : RowSoFar m f codes₀ codes top j) where
  pub row_so_far_turn :
      {v top' : ℕ} → j < m → v ≡ f j → top' ≡ max top v → RowSoFar m f codes₀ (set codes j v) top' (j + 1)
  unfolding greatest
  row_so_far_turn l e h =
      record { written = filling_turn s.written l e; highest = rw (add-one, ← s.highest, ← e) h }

  pub row_so_far_end : m ≤ j → (codes ≡ list m f) × (top ≡ greatest m f)
  row_so_far_end l =
      let whole : j ≡ m = omega (arith, s.written.within) in
      (filling_end s.written l, s.highest ∙ ap (λ k. greatest k f) whole)

-- ---- the loop over the rows

-- the loss of guest i with these stations
abbrev loss_at : (t : Tables) (c : ℕ) (stations : List ℕ) → ℕ → ℕ
loss_at t c stations i = only (get_or stations i 0 =? 0) (greatest (length t.asks) (code_at t c i))

-- the rows of the first i guests are written, and their reasons
pub record RowsSoFar (t : Tables) (c : ℕ) (stations codes₀ reasons₀ codes reasons : List ℕ) (i : ℕ) : Type 0 where
  pub written : RowsWritten (length t.amounts) (length t.asks) (code_at t c) codes₀ codes i
  pub reasons_are : Filling (length t.amounts) (loss_at t c stations) reasons₀ reasons i

pub rows_so_far_none :
    {t : Tables} {c : ℕ} {stations codes reasons : List ℕ} → length codes ≡ length t.amounts * length t.asks
    → length reasons ≡ length t.amounts → RowsSoFar t c stations codes reasons codes reasons 0
rows_so_far_none long l = record { written = rows_none long; reasons_are = filling_none l }

module _ {t : Tables} {c : ℕ} {stations codes₀ reasons₀ codes reasons : List ℕ} {i : ℕ}
    (s : RowsSoFar t c stations codes₀ reasons₀ codes reasons i) where
  abbrev m : ℕ
  m = length t.asks

  pub rows_fit : length t.amounts ≤ max_guests → m ≤ max_stations → i * m ≤ max_guests * max_stations
  rows_fit a b = product_fits i m (omega (arith, s.written.within)) b

  pub rows_so_far_turn :
      {f : ℕ → ℕ} {row : List ℕ} {k top v : ℕ} → i < length t.amounts → k ≡ m
      → ((j : ℕ) → j < m → f j ≡ code_at t c i j) → (row ≡ list m f) × (top ≡ greatest m f)
      → v ≡ only (get_or stations i 0 =? 0) top
      → RowsSoFar t c stations codes₀ reasons₀ (put_mid (i * m) k codes row) (set reasons i v) (i + 1)
  rows_so_far_turn {f} {k = k} l whole h (e, q) p = record {
    written = rows_turn s.written l h (put_mid-paste (i * m) k _ _ (list m f) m e (sym whole) (sym (length_list m f)));
    reasons_are = filling_turn s.reasons_are l
        (p ∙ ap (only (get_or stations i 0 =? 0)) (q ∙ greatest_cong m f (code_at t c i) h));
  }

  pub rows_so_far_end : length t.amounts ≤ i → CodesAtCut t c stations codes reasons
  rows_so_far_end l =
      record { codes_are = rows_end s.written l; reasons_are = filling_end s.reasons_are l }
