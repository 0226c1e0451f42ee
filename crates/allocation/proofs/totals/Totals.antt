-- Laws of totals.
use Prim.Native.Nat.{ℕ, ◌*◌, ◌≤◌, ◌<◌}
use mathlib.Core.Logic.{⊎_elim}
use mathlib.Core.Path.{◌≡◌, sym, ap}
use native.Mathlib.Omega.{arith}
use lib.ListN.{length}
use Rattle.model.specs.Limits.{max_price, max_amount}
use Rattle.model.specs.market.Market.{Tables}
use Rattle.model.specs.claims.Meaning.{WithinLimits}
use Rattle.model.proofs.Loops.{in_table}
use Rattle.model.proofs.Tests.{only_yes, only_no, is_le, not_le, lt_or_le}
use Rattle.allocation.specs.Totals.{max_total, total_for, total_at}
use Rattle.model.proofs.market.Limits.{product}

pub total_yes : (bid amount cut : ℕ) → cut ≤ bid → bid * amount ≡ total_for bid amount cut
unfolding total_for
total_yes bid amount cut h = sym (only_yes _ _ (is_le _ _ h))

pub total_no : (bid amount cut : ℕ) → bid < cut → 0 ≡ total_for bid amount cut
unfolding total_for
total_no bid amount cut h = sym (only_no _ _ (not_le _ _ h))

pub total_low : (bid amount cut : ℕ) → bid ≤ max_price → amount ≤ max_amount → total_for bid amount cut ≤ max_total
total_low bid amount cut p q = ⊎_elim
    (λ (a : bid < cut). omega (arith, total_no bid amount cut a))
    (λ (a : cut ≤ bid). omega (arith, total_yes bid amount cut a, product bid amount p q))
    (lt_or_le bid cut)

-- a market by its lists and by its view has as many stations
pub as_many : {t u : Tables} → t ≡ u → length t.asks ≡ length u.asks
as_many e = ap (λ (t : Tables). length t.asks) e

-- no total of a market within the limits is above the greatest
pub total_at_low :
    {t : Tables} (c i j : ℕ) → WithinLimits t → i < length t.amounts → j < length t.asks
    → total_at t.bids t.amounts (length t.asks) j c i ≤ max_total
total_at_low {t} c i j w li lj =
    total_low _ _ c
    (w.bid_most _ (omega (arith, w.shape.bids_length, in_table (length t.amounts) (length t.asks) i j li lj)))
    (w.amount_most i li)
