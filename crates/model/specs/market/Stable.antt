-- The order of all candidacies, and assignments that are stable in it. Document 02, request 4.
use Rattle.std.specs.Prelude.{ℕ, zero, suc, ◌≤◌, ◌<◌, Bool, true, ◌≡◌}
use Rattle.model.specs.Counting.{◌<?◌, ◌=?◌, ◌and◌, ◌or◌, only, greatest, count}
use Rattle.model.specs.market.Market.{Screened}

-- the candidacy of guest i at station j stands before that of guest k at station l: 'by falling total, then lower
-- ticket, then lower station'
unfoldable pub sooner : Screened → (i j k l : ℕ) → Bool
sooner S i j k l = S.total k l <? S.total i j
    or (S.total k l =? S.total i j and (S.key i <? S.key k or (S.key i =? S.key k and j <? l)))

-- guest i would sooner be at station j than at its own, by its number from 1; 0 is none
unfoldable pub before_seat : Screened → (i j seat : ℕ) → Bool
before_seat S i j zero = true
before_seat S i j (suc l) = sooner S i j i l

-- guest i's candidacy at station j was taken and found no bay: it stands before i's seat
unfoldable pub turned_away : Screened → (assigned : ℕ → ℕ) → (i j : ℕ) → Bool
turned_away S assigned i j = S.candidate i j and before_seat S i j (assigned i)

-- only candidates are assigned, within the bays, and where a candidacy stands before its guest's seat all bays are held
-- by candidacies that stand before it
pub record Stable (S : Screened) (assigned : ℕ → ℕ) : Type 0 where
  pub candidates :
      (i j : ℕ) → i < S.guest_count → assigned i ≡ suc j → (j < S.station_count) × (S.candidate i j ≡ true)
  pub fits : (j : ℕ) → j < S.station_count → count S.guest_count (λ i. assigned i =? suc j) ≤ S.bays j
  pub full : (i j : ℕ) → i < S.guest_count → j < S.station_count → turned_away S assigned i j ≡ true
      → S.bays j ≤ count S.guest_count (λ k. assigned k =? suc j and sooner S k j i j)

-- the greatest total that was turned away at station j, 0 for none
unfoldable pub turned_away_at : Screened → (assigned : ℕ → ℕ) → ℕ → ℕ
turned_away_at S assigned j = greatest S.guest_count (λ i. only (turned_away S assigned i j) (S.total i j))
