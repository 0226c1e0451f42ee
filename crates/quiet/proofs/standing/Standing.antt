-- Laws of priorities: at a station the greater stands before the other.
use Rattle.std.proofs.Common.{◌≡◌, ℕ, ◌+◌, ◌*◌, ◌^◌, ◌<◌, ◌≤◌, Bool, true, false, ◌&&◌, length, sym}
use Rattle.std.proofs.Common.{refl, ◌∙◌, ⊎_elim, arith}
use Rattle.model.specs.Counting.{◌<?◌, ◌and◌}
use Rattle.model.specs.market.Market.{Tables, Screened, queue, before, bid_at}
use Rattle.model.specs.claims.Meaning.{WithinLimits}
use Rattle.model.specs.market.Stable.{sooner}
use Rattle.model.proofs.Loops.{in_table}
use Rattle.model.proofs.Tests.{both, first, second, or_cases, or_left, or_right, same_test, lt_or_le, is_lt, lt_yes}
use Rattle.model.proofs.Tests.{is_eq, eq_yes}
use Rattle.model.proofs.market.Limits as limits
use Rattle.allocation.specs.Totals.{max_total}
use Rattle.allocation.specs.Screens.{screened_at}
use Rattle.allocation.specs.Ties.{last_ticket}
use Rattle.quiet.specs.Seating.{priority}
use Rattle.quiet.proofs.efficient.Order.{same_station}

-- the code's and is that of the tests
pub and_is : (a b : Bool) → (a && b) ≡ (a and b)
unfolding ◌and◌
and_is true b = refl
and_is false b = refl

-- what a call answered, and what that came to
pub passes : {r b v : Bool} → r ≡ b → r ≡ v → b ≡ v
passes e q = sym e ∙ q

module _ (t : Tables) (w : WithinLimits t) (c : ℕ) {i j : ℕ} (li : i < length t.amounts) (lj : j < length t.asks) where
  -- the bid's place in its table
  pub in_bids : i * length t.asks + j < length t.bids
  in_bids = omega (arith, w.shape.bids_length, in_table (length t.amounts) (length t.asks) i j li lj)

  pub total_low : (screened_at t c).total i j ≤ max_total
  unfolding screened_at bid_at
  total_low = limits.product _ _ (w.bid_most _ in_bids) (w.amount_most i li)

  -- a priority is within the limits
  pub priority_low : priority (screened_at t c) i j < 2 ^ 63
  unfolding priority
  priority_low = omega (arith, total_low)

-- k stands before i at station j exactly where its priority there is greater
pub priority_sooner :
    (S : Screened) (k i j : ℕ) → S.key k ≤ last_ticket → S.key i ≤ last_ticket
    → (priority S i j <? priority S k j) ≡ sooner S k j i j
unfolding priority before queue
priority_sooner S k i j lk li = same_test _ _
    (λ p. let less : priority S i j < priority S k j = lt_yes _ _ p in
    same_station S k i j ∙ ⊎_elim
    (λ (q : S.total i j < S.total k j). or_left _ _ (is_lt _ _ q))
    (λ (q : S.total k j ≤ S.total i j).
    or_right _ _ (both (is_eq _ _ (omega (arith, less))) (is_lt _ _ (omega (arith, less)))))
    (lt_or_le (S.total i j) (S.total k j)))
    (λ p. is_lt _ _ (⊎_elim
    (λ q. let more : S.total i j < S.total k j = lt_yes _ _ q in omega arith)
    (λ q. let same : S.total i j ≡ S.total k j = eq_yes _ _ (first _ _ q) in
    let lower : S.key k < S.key i = lt_yes _ _ (second _ _ q) in omega arith)
    (or_cases _ _ (sym (same_station S k i j) ∙ p))))
