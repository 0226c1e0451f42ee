-- What a comma-separated market comes to: its market, or its first fault. Document 02, request 10.
-- The fields stand one after the other: m asks, m bays, then a ticket, an amount and m bids for each guest. An empty
-- field counts as 0. Guests and stations count from 0 here.
use Rattle.std.specs.Prelude.{ℕ, ◌+◌, ◌*◌, ◌-◌, Bool, true, false, List, [], ◌∷◌, get_or}
use Rattle.model.specs.Counting.{◌=?◌, ◌or◌, list, joined}
use Rattle.model.specs.Verdicts.{Answer, first_fault, giving}
use Rattle.model.specs.market.Market.{Tables}
use Rattle.model.specs.csv.Places.{comma, cr, line_of, value_of}
use Rattle.model.specs.csv.Faults.{stations, csv_faults}

-- n: the lines after the second
unfoldable pub guests : List ℕ → ℕ
guests text = line_of text - 2

-- the values of the fields in the order of the text: each ends at a comma or a CR
unfoldable pub ending : Bool → ℕ → List ℕ → List ℕ
ending true x values = x ∷ values
ending false x values = values

unfoldable pub values_from : (past rest : List ℕ) → List ℕ
values_from past [] = []
values_from past (b ∷ rest) = ending (b =? comma or b =? cr) (value_of past) (values_from (b ∷ past) rest)

unfoldable pub values : List ℕ → List ℕ
values text = values_from [] text

-- field k of all
unfoldable pub value : List ℕ → ℕ → ℕ
value text k = get_or (values text) k 0

-- where guest i's fields start among them
unfoldable pub guest_field : (m i : ℕ) → ℕ
guest_field m i = 2 * m + i * (m + 2)

-- the market that the fields state
unfoldable pub csv_tables : List ℕ → Tables
csv_tables text = record {
  asks = list (stations text) (λ j. value text j);
  bays = list (stations text) (λ j. value text (stations text + j));
  amounts = list (guests text) (λ i. value text (guest_field (stations text) i + 1));
  tickets = list (guests text) (λ i. value text (guest_field (stations text) i));
  bids = joined (guests text)
      (λ i. list (stations text) (λ j. value text (guest_field (stations text) i + 2 + j)));
  width = stations text;
}

-- what a text comes to
unfoldable pub read_csv : List ℕ → Answer Tables
read_csv text = giving (first_fault (csv_faults text)) (csv_tables text)
