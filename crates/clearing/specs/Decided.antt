-- What a mechanism decides of what it sees, and what it leaves, by its name.
use Rattle.std.specs.Prelude.{ℕ, List}
use Rattle.model.specs.market.Market.{Tables, Screened}
use Rattle.model.specs.market.Mechanism.{Decision, truthful}
use Rattle.model.specs.market.Efficient.{efficient}
use Rattle.model.specs.declared.mechanism.Mechanism.{Mechanism}
use Rattle.model.specs.declared.mechanism.Mechanism.TheVariants.{Truthful, Efficient}
use Rattle.allocation.specs.Stages.{Bars}

unfoldable pub decided : Mechanism → Screened → Decision
decided Truthful = truthful
decided Efficient = efficient

-- the bars by which a truthful mechanism gives places; the efficient one leaves none
unfoldable pub HasBars : Mechanism → Tables → (cut : ℕ) (criticals bounds : List ℕ) → Type 0
HasBars Truthful t cut criticals bounds = Bars t cut criticals bounds
HasBars Efficient t cut criticals bounds = Unit {0}
