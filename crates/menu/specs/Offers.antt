-- What is known of a guest whose rows are held to its price list.
use Rattle.std.specs.Prelude.{ℕ, List, ◌≡◌, length}
use Rattle.model.specs.market.Menus.{PriceList}
use Rattle.menu.specs.Keys.{Priced}

pub record Offers : Type 0 where
  pub list : PriceList
  pub amount : ℕ
  pub worths : List ℕ

pub record Offered (o : Offers) : Type 0 where
  pub priced : Priced o.list o.amount
  pub worths_long : length o.worths ≡ length o.list.prices
