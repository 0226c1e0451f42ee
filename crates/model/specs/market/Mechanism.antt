-- What a mechanism decides, what follows from any decision, and document 01's mechanism. 'Clearing' 6 to 8.
use Rattle.std.specs.Prelude.{ℕ, zero, suc, ◌*◌, ◌-◌, max, Bool, true, false, cond}
use Rattle.model.specs.Counting.{◌<?◌, ◌=?◌, only, sum, count}
use Rattle.model.specs.market.Market.{Screened, queue, provisional, critical}

-- each guest's station by its number from 1, 0 for none (document 01: its seat), and each station's critical total
pub record Decision : Type 0 where
  pub assigned : ℕ → ℕ
  pub critical : ℕ → ℕ

-- a quantity of each station, read at an assignment: 0 for none
unfoldable pub at : (ℕ → ℕ) → ℕ → ℕ
at f zero = 0
at f (suc j) = f j

-- 6. guest i's charge at station j
unfoldable pub charge : Screened → Decision → ℕ → ℕ → ℕ
charge S D i j = max (S.cut * S.amount i) (D.critical j)

-- what guest i is charged
unfoldable pub charged : Screened → Decision → ℕ → ℕ
charged S D i = at (charge S D i) (D.assigned i)

-- what guest i obtains, by its worths w per kWh
unfoldable pub obtained : Screened → Decision → (ℕ → ℕ) → ℕ → ℕ
obtained S D w i = at (λ j. w j * S.amount i) (D.assigned i)

-- how many guests station j serves, the kWh it sold, and its payment (8)
unfoldable pub served : Screened → Decision → ℕ → ℕ
served S D j = count S.guest_count (λ i. D.assigned i =? suc j)

unfoldable pub sold : Screened → Decision → ℕ → ℕ
sold S D j = sum S.guest_count (λ i. only (D.assigned i =? suc j) (S.amount i))

unfoldable pub paid : Screened → Decision → ℕ → ℕ
paid S D j = S.cut * sold S D j

-- 8. the margin: over assigned guests, charge less cut times amount, which a charge is never below
unfoldable pub margin : Screened → Decision → ℕ
margin S D = sum S.guest_count (λ i. at (λ j. charge S D i j - S.cut * S.amount i) (D.assigned i))

-- the choice so far, r, against station j, which is on offer or not, at value g j
unfoldable pub better : Bool → (ℕ → ℕ) → ℕ → ℕ → ℕ
better false g j r = r
better true g j zero = suc j
better true g j (suc k) = cond (g k <? g j) (suc j) (suc k)

-- of the stations below m on offer, the lowest of greatest value: its number from 1, 0 for none
unfoldable pub best : ℕ → (ℕ → Bool) → (ℕ → ℕ) → ℕ
best zero offer g = 0
best (suc j) offer g = better (offer j) g j (best j offer g)

-- 7. total less charge, for guest i at station j
unfoldable pub surplus : Screened → ℕ → ℕ → ℕ
surplus S i j = S.total i j - max (S.cut * S.amount i) (critical (queue S j))

-- document 01's mechanism: each guest has the best of the places it holds
unfoldable pub truthful : Screened → Decision
truthful S = record {
  assigned = λ i. best S.station_count (λ j. provisional (queue S j) i) (surplus S i);
  critical = λ j. critical (queue S j);
}
