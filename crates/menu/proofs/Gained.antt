-- What rows are held to by a guest's price list in an accepted market.
use Prim.Native.Nat.{ℕ, ◌+◌, ◌*◌, ◌≤◌, ◌<◌}
use mathlib.Core.Bool.{Bool, true, false, cond}
use mathlib.Core.List.{List}
use mathlib.Core.Path.{◌≡◌, sym, ap, subst, ◌∙◌}
use native.Mathlib.Omega.{arith}
use lib.IntN.{ℤ}
use lib.ListN.{get_or, length}
use Rattle.model.specs.Limits.{max_price}
use Rattle.model.specs.Counting.{only}
use Rattle.model.specs.market.Market.{Tables, Market, market_by}
use Rattle.model.specs.market.Menus.{Menu, menu_of, no_bar, PriceList, price_list, listed, price_list_by, gains_from}
use Rattle.model.specs.market.Rules.{position}
use Rattle.model.specs.claims.Meaning.{WithinLimits}
use Rattle.model.specs.declared.rule.Rule.{Rule}
use Rattle.model.proofs.Counting.{length_list}
use Rattle.model.proofs.market.Menus.{menu_below, menu_near, listed_bar, listed_at}
use Rattle.menu.specs.Keys.{Priced}

-- no price is above its bar, and what is not open is out of reach; what is in reach is the price or one above
below_bar : (o : Bool) (bar price : ℕ) → price ≤ bar → only o price ≤ cond o bar no_bar
unfolding only
below_bar true bar price h = h
below_bar false bar price h = omega arith

near_if_reached :
    (o : Bool) (bar price total : ℕ) → total < no_bar → cond o bar no_bar ≤ total → bar ≤ price + 1
    → cond o bar no_bar ≤ only o price + 1
unfolding only
near_if_reached true bar price total l h near = near
near_if_reached false bar price total l h near = absurd (omega arith)

module _ (rule : Rule) (t : Tables) (w : WithinLimits t) (i : ℕ) (li : i < length t.amounts) where
  abbrev M : Market
  M = market_by (position rule) t

  abbrev U : Menu
  U = menu_of M i

  abbrev L : PriceList
  L = price_list_by (position rule) t i

  abbrev amount : ℕ
  amount = get_or t.amounts i 0

  prices_long : length L.prices ≡ length t.asks
  unfolding price_list_by listed
  prices_long = length_list (length t.asks) _

  bars_long : length L.bars ≡ length t.asks
  unfolding price_list_by listed
  bars_long = length_list (length t.asks) _

  bar_at_lem : (j : ℕ) → j < length t.asks → get_or L.bars j 0 ≡ cond (U.offered j) (U.bar j) no_bar
  unfolding price_list_by
  bar_at_lem j lj = listed_bar (length t.asks) U j lj

  price_at_lem : (j : ℕ) → j < length t.asks → get_or L.prices j 0 ≡ only (U.offered j) (U.price j)
  unfolding price_list_by
  price_at_lem j lj = listed_at (length t.asks) U j lj

  pub priced : Priced L amount
  priced = record {
    amount_least = w.amount_least i li;
    few = omega (arith, prices_long, w.shape.stations_most);
    bars_long = bars_long ∙ sym prices_long;
    below = λ j lj.
        let lj' : j < length t.asks = omega (arith, prices_long) in
        rw (bar_at_lem j lj', price_at_lem j lj') (below_bar (U.offered j) (U.bar j) (U.price j) (menu_below M i j));
    near = λ j lj h.
        let lj' : j < length t.asks = omega (arith, prices_long) in
        let low : max_price * amount < no_bar = omega (arith, w.amount_most i li) in
        rw (bar_at_lem j lj', price_at_lem j lj')
        (near_if_reached (U.offered j) (U.bar j) (U.price j) (max_price * amount)
        low (rw (bar_at_lem j lj') at h) (menu_near M i j));
  }

  -- the list that was written
  module _ {bars prices : List ℕ} (e : price_list bars prices ≡ L) where
    pub priced_here : Priced (price_list bars prices) amount
    priced_here = subst (λ L. Priced L amount) (sym e) priced

    pub prices_here : length prices ≡ length t.asks
    prices_here = ap (λ L. length L.prices) e ∙ prices_long

    pub gains_here :
        (worths rows : List ℕ) (k : ℕ) {gains : List ℤ}
        → gains ≡ gains_from (price_list bars prices) amount worths (length prices) rows k
        → gains ≡ gains_from L amount worths (length t.asks) rows k
    gains_here worths rows k h =
        h ∙ ap (λ m. gains_from (price_list bars prices) amount worths m rows k) prices_here
        ∙ ap (λ L. gains_from L amount worths (length t.asks) rows k) e
