-- A page that is printed, or refused before anything is written. Nothing that `report::print_page` promises depends on
-- this file.
use Rattle.std.specs.Prelude.{ℕ, List, Result, Ok, Err, ◌≡◌, ◌≤◌, length}
use Rattle.model.specs.Limits.{max_guests, max_stations}
use Rattle.model.specs.market.Market.{Tables}
use Rattle.model.specs.Numbers.{number}
use Rattle.model.specs.clauses.Prints.{Prints}
use Rattle.model.specs.declared.refusal.Refusal.{Refusal}
use Rattle.model.specs.text.Text.{refusal_text}

-- a market that was read: no more guests and stations than the limits allow
abbrev pub Few : Tables → Type 0
Few t = (length t.amounts ≤ max_guests) × (length t.asks ≤ max_stations)

unfoldable pub Tried : (page entry : List ℕ) → Result ℕ Refusal → (exit : List ℕ) → Type 0
Tried page entry (Ok n) exit = Prints page entry n exit
Tried page entry (Err r) exit = (page ≡ refusal_text (number r)) × (exit ≡ entry)
