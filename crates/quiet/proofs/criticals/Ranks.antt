-- Laws of ranks, as numbers.
use Rattle.std.proofs.Common.{◌≡◌, ℕ, zero, suc, ◌+◌, ◌-◌, ◌*◌, ◌/◌, ◌^◌, ◌<◌, ◌≤◌, Bool, true, List, sym, refl, ap}
use Rattle.std.proofs.Common.{◌∙◌, ⊎_elim, mul-le-mul_right, le_antisymm, arith}
use Rattle.model.specs.Limits.{max_stations, max_price, max_amount}
use Rattle.model.specs.Counting.{◌<?◌, ◌≤?◌, ◌=?◌, ◌and◌, ◌or◌, only}
use Rattle.model.proofs.Tests.{both, first, second, same_test, or_left, or_right, or_cases, only_yes, only_no, only_le}
use Rattle.model.proofs.Tests.{lt_yes, le_yes, eq_yes, is_lt, is_le, not_le, is_eq, lt_or_le}
use Rattle.model.proofs.market.Limits.{product}
use Rattle.allocation.specs.Totals.{max_total}
use Rattle.quiet.specs.Efficient.{of}
use Rattle.quiet.specs.Criticals.{rank, least_rank, total_from}

-- totals of one guest's bids stand as the bids do
module _ (x y amount : ℕ) (one : 1 ≤ amount) where
  greater_bid : y * amount < x * amount → y < x
  greater_bid h = ⊎_elim
      (λ (q : y < x). q)
      (λ (q : x ≤ y). absurd (omega (arith, mul-le-mul_right amount q)))
      (lt_or_le y x)

  greater_total : y < x → y * amount < x * amount
  greater_total h = omega (arith, mul-le-mul_right amount h)

-- and the ranks of x at station j and y at l as its candidacies do
module _ (x y amount : ℕ) (one : 1 ≤ amount) {j l : ℕ} (lj : j < 64) (ll : l < 64) where
  same_bid : y * amount ≡ x * amount → y ≡ x
  same_bid e = ⊎_elim
      (λ (q : y < x). absurd (omega (arith, greater_total x y amount one q)))
      (λ (q : x ≤ y). ⊎_elim
      (λ (r : x < y). absurd (omega (arith, greater_total y x amount one r)))
      (λ (r : y ≤ x). le_antisymm r q)
      (lt_or_le x y))
      (lt_or_le y x)

  abbrev before : Bool
  before = y * amount <? x * amount or (y * amount =? x * amount and j <? l)

  before_above : rank y l + 1 ≤ rank x j → before ≡ true
  unfolding rank
  before_above h = ⊎_elim
      (λ (q : y < x). or_left _ _ (is_lt _ _ (greater_total x y amount one q)))
      (λ (q : x ≤ y).
      let same : y ≡ x = omega arith in
      or_right _ _ (both (is_eq _ _ (ap (λ z. z * amount) same)) (is_lt _ _ (omega arith))))
      (lt_or_le y x)

  above_before : before ≡ true → rank y l + 1 ≤ rank x j
  unfolding rank
  above_before e = ⊎_elim
      (λ p. omega (arith, greater_bid x y amount one (lt_yes _ _ p)))
      (λ p. omega (arith, same_bid (eq_yes _ _ (first _ _ p)), lt_yes _ _ (second _ _ p)))
      (or_cases _ _ e)

  pub ranked : (rank y l + 1 ≤? rank x j) ≡ before
  ranked = same_test _ _ (λ e. before_above (le_yes _ _ e)) (λ e. is_le _ _ (above_before e))

-- where a bid's rank reaches that of the cut it reaches the cut
pub reaches : (c x : ℕ) {j : ℕ} → j < 64 → (c * 64 ≤? rank x j) ≡ (c ≤? x)
unfolding rank
reaches c x {j} lj = same_test _ _
    (λ e. is_le _ _ (omega (arith, le_yes (c * 64) (rank x j) e)))
    (λ e. is_le _ _ (omega (arith, le_yes c x e)))

-- a quotient by half of 2^32 is the test of a rank
by_quotient :
    (x least y : ℕ) → x < 2 ^ 31 → least < 2 ^ 31
    → (x + 2_147_483_648 - least) / 2_147_483_648 * y ≡ only (least ≤? x) y
by_quotient x least y lx ll = ⊎_elim
    (λ (q : x < least).
    let quotient : (x + 2_147_483_648 - least) / 2_147_483_648 ≡ 0 = omega arith in
    let none : 0 * y ≡ 0 = omega arith in
    rw quotient (none ∙ sym (only_no _ _ (not_le _ _ q))))
    (λ (q : least ≤ x).
    let quotient : (x + 2_147_483_648 - least) / 2_147_483_648 ≡ 1 = omega arith in
    let all : 1 * y ≡ y = omega arith in
    rw quotient (all ∙ sym (only_yes _ _ (is_le _ _ q))))
    (lt_or_le x least)

module _ (least bid j amount : ℕ) (bid_most : bid ≤ max_price) where
  pub total_by_quotient :
      {total : ℕ} → least < 2 ^ 31 → total ≡ bid * amount
      → (bid * 64 + (63 - j) + 2_147_483_648 - least) / 2_147_483_648 * total ≡ total_from least bid j amount
  unfolding total_from rank
  total_by_quotient l e = rw e (by_quotient (bid * 64 + (63 - j)) least (bid * amount) (omega arith) l)

  pub total_from_low : amount ≤ max_amount → total_from least bid j amount ≤ max_total
  unfolding total_from
  total_from_low l = only_le _ _ _ (λ _. product bid amount bid_most l)

-- a row's least rank, as the code has it
module _ (row : List ℕ) (c : ℕ) where
  pub least_of_none : {seat : ℕ} → seat ≡ 0 → c * 64 ≡ least_rank row c seat
  unfolding least_rank
  least_of_none e = rw e refl

  pub least_of_seat :
      (seat : ℕ) → (seat ≡ 0 → ⊥) → seat ≤ max_stations
      → of row (seat - 1) * 64 + (65 - seat) ≡ least_rank row c seat
  unfolding least_rank rank
  least_of_seat zero some few = absurd (some refl)
  least_of_seat (suc l) some few = let same : suc l - 1 ≡ l = omega arith in rw same (omega arith)
