-- Signed gains. Document 01, 'Gain': 0 for whoever isn't assigned or sells nothing, since both terms are 0 then.
use Rattle.std.specs.Prelude.{ℕ, ◌*◌, ℤ}
use Rattle.std.proofs.Math.IntN.{sub_ℕ}
use Rattle.model.specs.market.Market.{Screened}
use Rattle.model.specs.market.Mechanism.{Decision, charged, obtained, sold, paid}

-- of guest i, by its worths w per kWh: worth at its station times amount, less charge
unfoldable pub guest_gain : Screened → Decision → (w : ℕ → ℕ) (i : ℕ) → ℤ
guest_gain S D w i = sub_ℕ (obtained S D w i) (charged S D i)

-- of station j, by its cost per kWh: payment less cost times kWh sold
unfoldable pub station_gain : Screened → Decision → (cost j : ℕ) → ℤ
station_gain S D cost j = sub_ℕ (paid S D j) (cost * sold S D j)
