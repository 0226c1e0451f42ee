-- The shortest sheet of an accepted market states it, and no other that does is as short.
use Prim.Native.Nat.{ℕ, ◌+◌, ◌*◌, ◌≤◌, ◌<◌}
use mathlib.Core.Bool.{Bool, true, false}
use mathlib.Core.Logic.{⊎_elim}
use mathlib.Core.Path.{◌≡◌, refl, sym, ap, ◌∙◌}
use native.Mathlib.Omega.{arith}
use lib.ListN.{length, get_or-eq_default}
use Rattle.model.specs.Counting.{count}
use Rattle.model.specs.market.Market.{Tables, bid_at}
use Rattle.model.specs.Verdicts.{accepted}
use Rattle.model.specs.claims.Meaning.{WithinLimits}
use Rattle.model.specs.sheet.Layout.{layout, bidden, Fitting, Words}
use Rattle.model.specs.sheet.Content.{read_sheet}
use Rattle.model.specs.sheet.Shortest.{shortest, ShortestIsRead, ShortestIsLeast, SecondChangesNothing}
use Rattle.model.specs.sheet.Shortest.{ShortestStates, ShortestFits, StatedIsShortest, AcceptedExactlyIfWritten}
use Rattle.model.proofs.Tests.{decide, clash, same_test, not_lt, lt_or_le}
use Rattle.model.proofs.Counting.{sum_mono, sum_strict, count_mono, count_strict}
use Rattle.model.proofs.Loops.{in_table}
use Rattle.model.proofs.market.Acceptance.{accepted_iff_within_limits}
use Rattle.model.proofs.sheet.Lengths.{layout_length}
use Rattle.model.proofs.sheet.Longest.{layout_short}
use Rattle.model.proofs.sheet.Stated.{layout_cong}
use Rattle.model.proofs.sheet.Truth.{states_read, reads_exactly_what_is_stated}

-- ---- an accepted market's numbers fit their fields

fitting : (t : Tables) → WithinLimits t → Words t.tickets → Fitting t
unfolding bid_at
fitting t w y = record {
  shape = w.shape;
  ask_fits = λ j l. omega (arith, w.ask_most j l);
  bays_fit = λ j l. omega (arith, w.bays_most j l);
  amount_fits = λ i l. omega (arith, w.amount_most i l);
  ticket_fits = λ i _. y i;
  bid_fits = λ i j l k.
      let q : i * length t.asks + j < length t.bids =
      omega (arith, in_table (length t.amounts) (length t.asks) i j l k, w.shape.bids_length) in
      omega (arith, w.bid_most (i * length t.asks + j) q);
}

-- and the tickets of a market in fields of 4 bytes have 32 bits
pub words : (t : Tables) → Fitting t → Words t.tickets
words t w k = ⊎_elim
    (λ (l : k < length t.tickets). w.ticket_fits k (omega (arith, w.shape.tickets_length)))
    (λ (l : length t.tickets ≤ k). rw (get_or-eq_default t.tickets 0 l) (omega arith))
    (lt_or_le k (length t.tickets))

not_bidden : (t : Tables) (i j : ℕ) → bid_at t i j ≡ 0 → bidden t i j ≡ false
unfolding bidden
not_bidden t i j e = not_lt 0 (bid_at t i j) (omega arith)

pub shortest_states : ShortestStates
unfolding shortest
shortest_states t a y = record {
  fitting = fitting t ((accepted_iff_within_limits t).0 a) y;
  is = refl;
}

pub shortest_is_read : ShortestIsRead
shortest_is_read t a y = states_read (shortest t) t (shortest_states t a y)

pub shortest_fits : ShortestFits
unfolding shortest
shortest_fits t a =
    let within = ((accepted_iff_within_limits t).0 a).shape in
    layout_short t (bidden t) within.guests_most within.stations_most

pub second_changes_nothing : SecondChangesNothing
second_changes_nothing s t u y e a f =
    let w = (reads_exactly_what_is_stated s t y).0 e in
    let g : accepted u ≡ accepted t = sym f ∙ shortest_is_read t a (words t w.fitting) in
    let h : u ≡ t = cc in (h, ap shortest h)

-- ---- no layout with more set bits is as short

module _ (t : Tables) (set : ℕ → ℕ → Bool)
    (covers : (i j : ℕ) → i < length t.amounts → j < length t.asks → set i j ≡ false → bid_at t i j ≡ 0) where
  abbrev n : ℕ
  n = length t.amounts

  abbrev m : ℕ
  m = length t.asks

  is_set : (i j : ℕ) → i < n → j < m → bidden t i j ≡ true → set i j ≡ true
  is_set i j l k e =
      ⊎_elim (λ b. b) (λ b. absurd (clash e (not_bidden t i j (covers i j l k b)))) (decide (set i j))

  bids_at_most : (i : ℕ) → i < n → count m (bidden t i) ≤ count m (set i)
  bids_at_most i l = count_mono m (bidden t i) (set i) (λ j k. is_set i j l k)

  no_longer : length (layout t (bidden t)) ≤ length (layout t set)
  no_longer =
      omega (arith, layout_length t (bidden t), layout_length t set, sum_mono n _ _ bids_at_most)

  -- a bit more is a sheet that is longer
  longer :
      (i j : ℕ) → i < n → j < m → bidden t i j ≡ false → set i j ≡ true
      → length (layout t (bidden t)) < length (layout t set)
  longer i j l k e b =
      omega (
        arith,
        layout_length t (bidden t),
        layout_length t set,
        sum_strict n _ _ bids_at_most i l (count_strict m (bidden t i) (set i) (λ j k. is_set i j l k) j k e b),
      )

  same_bits : length (layout t set) ≡ length (layout t (bidden t)) → layout t set ≡ layout t (bidden t)
  same_bits e =
      layout_cong t set (bidden t) (λ i j l k. same_test (set i j) (bidden t i j)
      (λ b. ⊎_elim (λ c. c) (λ c. absurd (omega (arith, longer i j l k c b))) (decide (bidden t i j)))
      (is_set i j l k))

pub shortest_is_least : ShortestIsLeast
unfolding shortest
shortest_is_least t set covers = (no_longer t set covers, same_bits t set covers)

-- ---- the one sheet that states a market

pub stated_is_shortest : StatedIsShortest
unfolding shortest
stated_is_shortest s t w = w.is

pub accepted_exactly_if_written : AcceptedExactlyIfWritten
accepted_exactly_if_written s t y = (
  (λ w. let states = (reads_exactly_what_is_stated s t y).0 w.0 in
      (w.1, words t states.fitting, stated_is_shortest s t states)),
  (λ w. (ap read_sheet w.2 ∙ shortest_is_read t w.0 w.1, w.0)),
)
