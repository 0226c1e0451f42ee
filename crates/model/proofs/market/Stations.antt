-- No station gains by another ask than its cost, at any position of the cut, under any mechanism that
-- assigns only candidates.
use Prim.Native.Nat.{ℕ, ◌+◌, ◌*◌, ◌≤◌, ◌<◌, max}
use mathlib.Core.Bool.{true, false}
use mathlib.Core.Logic.{⊎_elim}
use mathlib.Core.Path.{◌≡◌, sym, ap, ap₂, ◌∙◌}
use native.Mathlib.Nat.{le_trans, le_antisymm, mul-le-mul_right}
use native.Mathlib.Omega.{arith}
use Rattle.model.specs.Counting.{◌<?◌, ◌≤?◌, ◌and◌, count}
use Rattle.model.specs.market.Market.{Market, cut, opens, Screened, screen}
use Rattle.model.specs.market.Mechanism.{Decision, sold, paid}
use Rattle.model.proofs.Tests.{decide, lt_yes, lt_no, is_lt, lt_or_le, eq_or_ne, only_le}
use Rattle.model.proofs.Counting.{count_mono, greatest_le}
use Rattle.model.proofs.market.Cut.{le_cut}
use Rattle.model.proofs.market.Decisions.{Candidates, closed_sells_nothing, payment_covers_ask}

-- the market with other asks
abbrev pub reask : Market → (ℕ → ℕ) → Market
reask M a = record {
  guest_count = M.guest_count;
  station_count = M.station_count;
  position = M.position;
  ask = a;
  bays = M.bays;
  amount = M.amount;
  bid = M.bid;
  key = M.key;
}

-- where a station is open with the asks a, the cut there is at most the cut with any other ask of that station's
cut_le_where_open : (M : Market) (a : ℕ → ℕ) (j : ℕ) → ((k : ℕ) → (k ≡ j → ⊥) → M.ask k ≡ a k)
    → opens (reask M a) j ≡ true → cut (reask M a) ≤ cut M
unfolding opens cut
cut_le_where_open M a j alike o =
    let bound : cut (reask M a) ≤ max (cut M) (a j) = greatest_le M.station_count _ _
    (λ k lk. only_le _ _ _ (λ p. each k lk (lt_yes _ _ p))) in
    omega (arith, lt_yes _ _ o)
  where
    each :
        (k : ℕ) → k < M.station_count → count M.station_count (λ x. a x <? a k) < M.position
        → a k ≤ max (cut M) (a j)
    each k lk h = ⊎_elim
        (λ (above : a j < a k).
        let n : k ≡ j → ⊥ = λ e. let z : a k ≡ a j = ap a e in omega arith in
        let fewer : count M.station_count (λ x. M.ask x <? M.ask k) ≤ count M.station_count (λ x. a x <? a k) =
        count_mono M.station_count _ _ (λ x lx p. ⊎_elim
        (λ (e : x ≡ j). rw e (is_lt _ _ above))
        (λ (nx : x ≡ j → ⊥). rw (← alike x nx, ← alike k n) p)
        (eq_or_ne x j)) in
        omega (arith, le_cut M k lk (omega arith), alike k n))
        (λ (low : a k ≤ a j). omega arith)
        (lt_or_le (a j) (a k))

-- with the same cut and the same open stations, a mechanism sees the same
screen_same :
    (M : Market) (a : ℕ → ℕ) → cut M ≡ cut (reask M a) → ((k : ℕ) → opens M k ≡ opens (reask M a) k)
    → screen M ≡ screen (reask M a)
unfolding screen
screen_same M a c o = λ x. record {
  guest_count = M.guest_count;
  station_count = M.station_count;
  cut = c x;
  bays = M.bays;
  amount = M.amount;
  key = M.key;
  candidate = λ i k. o k x and c x ≤? M.bid i k;
  total = λ i k. M.bid i k * M.amount i;
}

module _ (mechanism : Screened → Decision) (C : (S : Screened) → Candidates S (mechanism S))
    (M : Market) (j : ℕ) (a : ℕ → ℕ) (alike : (k : ℕ) → (k ≡ j → ⊥) → M.ask k ≡ a k) where
  not_below : (k : ℕ) → opens M k ≡ false → M.ask k <? cut M ≡ false
  unfolding opens
  not_below k o = o

  opens_same : cut M ≡ cut (reask M a) → opens M j ≡ opens (reask M a) j → (k : ℕ) → opens M k ≡ opens (reask M a) k
  unfolding opens
  opens_same c o k = ⊎_elim (λ (e : k ≡ j). rw e o) (λ (n : k ≡ j → ⊥). ap₂ ◌<?◌ (alike k n) c) (eq_or_ne k j)

  -- closed in M and open in the other, j sells there at no more than its cost
  lower : opens M j ≡ false → opens (reask M a) j ≡ true
      → (screen (reask M a)).cut * sold (screen (reask M a)) (mechanism (screen (reask M a))) j + M.ask j * 0
      ≤ (screen M).cut * 0 + M.ask j * sold (screen (reask M a)) (mechanism (screen (reask M a))) j
  unfolding screen
  lower o o' =
      omega (
        arith,
        mul-le-mul_right (sold (screen (reask M a)) (mechanism (screen (reask M a))) j)
            (le_trans (cut_le_where_open M a j alike o') (lt_no _ _ (not_below j o))),
      )

  -- with its ask in M as its cost, j gains no more in the market with another ask of its own
  pub station_truth : let S = screen M in let S' = screen (reask M a) in
      paid S' (mechanism S') j + M.ask j * sold S (mechanism S) j
      ≤ paid S (mechanism S) j + M.ask j * sold S' (mechanism S') j
  unfolding paid
  station_truth = ⊎_elim
      (λ (o' : opens (reask M a) j ≡ true). ⊎_elim
      (λ (o : opens M j ≡ true).
      let c : cut M ≡ cut (reask M a) = le_antisymm
      (cut_le_where_open (reask M a) M.ask j (λ k n. sym (alike k n)) o) (cut_le_where_open M a j alike o') in
      rw (← screen_same M a c (opens_same c (o ∙ sym o'))) (omega arith))
      (λ (o : opens M j ≡ false). rw (closed_sells_nothing M (mechanism (screen M)) (C (screen M)) j o) (lower o o'))
      (decide (opens M j)))
      (λ (o' : opens (reask M a) j ≡ false). rw
      (closed_sells_nothing (reask M a) (mechanism (screen (reask M a))) (C (screen (reask M a))) j o')
      (omega (arith, payment_covers_ask M (mechanism (screen M)) (C (screen M)) j)))
      (decide (opens (reask M a) j))
