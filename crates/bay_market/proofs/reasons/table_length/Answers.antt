use native.Mathlib.Omega.{arith}
use Rattle.bay_market.proofs.Explained.{table_fits, table_differs}
use Rattle.bay_market.proofs.reasons.table_length.Goals as goal

pub returns-then-stations-n : goal.returns-then-stations-n
returns-then-stations-n c = table_fits _ _ _ _ c.if-stations-n.true

pub returns-then-n-eq0 : goal.returns-then-n-eq0
returns-then-n-eq0 c = table_differs _ _ _ _ c.if-stations-n.false (omega (arith, c.if-n-eq0.true))

pub returns-else-n-eq0 : goal.returns-else-n-eq0
returns-else-n-eq0 c = table_differs _ _ _ _ c.if-stations-n.false (omega (arith, c.if-n-eq0.false))
