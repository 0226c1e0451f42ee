-- What is printed of case E, of its sheet and that with a bid of 0, of a comma-separated market and of a market that is
-- refused, byte by byte; and which page some arguments ask for.
use Rattle.std.specs.Prelude.{ℕ, List, [], ◌∷◌, ◌++◌, map, ◌≡◌, Option, None}
use Rattle.model.specs.cases.Cases.{case_e, single}
use Rattle.model.specs.cases.Sheets.{sheet_e, sheet_e0}
use Rattle.model.specs.cases.Csv.{csv_e}
use Rattle.model.specs.market.Outcome.{outcome}
use Rattle.model.specs.text.MarketText.{market_text_of}
use Rattle.model.specs.text.Printed.{printed}
use Rattle.model.specs.text.Asked.{csv_word, quiet_word, why_word, write_word, rule_word, one_word, two_word}
use Rattle.model.specs.text.Asked.{asked, asked_for}
use Rattle.model.specs.declared.rule.Rule.TheVariants.{Median, TwoThirds}
use Rattle.model.specs.declared.page.Layout.TheVariants as layout
use Rattle.model.specs.declared.page.Page.{Page}
use Rattle.model.specs.declared.page.Page.TheVariants.{Clearing, Efficient, Reasons, Sheet}
use Rattle.model.specs.declared.page.Asked.{Asked}

-- cut 6
-- guest 1 station 1 charge 24
-- guest 2 station 0 charge 0
-- station 1 sold 3 paid 18
-- station 2 sold 0 paid 0
-- margin 6
unfoldable pub text_e : List ℕ
text_e =
    99 ∷ 117 ∷ 116 ∷ 32 ∷ 54 ∷ 10
    ∷ 103 ∷ 117 ∷ 101 ∷ 115 ∷ 116 ∷ 32 ∷ 49 ∷ 32 ∷ 115 ∷ 116 ∷ 97 ∷ 116 ∷ 105 ∷ 111 ∷ 110 ∷ 32 ∷ 49 ∷ 32 ∷ 99 ∷ 104 ∷ 97
    ∷ 114 ∷ 103 ∷ 101 ∷ 32 ∷ 50 ∷ 52 ∷ 10
    ∷ 103 ∷ 117 ∷ 101 ∷ 115 ∷ 116 ∷ 32 ∷ 50 ∷ 32 ∷ 115 ∷ 116 ∷ 97 ∷ 116 ∷ 105 ∷ 111 ∷ 110 ∷ 32 ∷ 48 ∷ 32 ∷ 99 ∷ 104 ∷ 97
    ∷ 114 ∷ 103 ∷ 101 ∷ 32 ∷ 48 ∷ 10
    ∷ 115 ∷ 116 ∷ 97 ∷ 116 ∷ 105 ∷ 111 ∷ 110 ∷ 32 ∷ 49 ∷ 32 ∷ 115 ∷ 111 ∷ 108 ∷ 100 ∷ 32 ∷ 51 ∷ 32 ∷ 112 ∷ 97 ∷ 105
    ∷ 100 ∷ 32 ∷ 49 ∷ 56 ∷ 10
    ∷ 115 ∷ 116 ∷ 97 ∷ 116 ∷ 105 ∷ 111 ∷ 110 ∷ 32 ∷ 50 ∷ 32 ∷ 115 ∷ 111 ∷ 108 ∷ 100 ∷ 32 ∷ 48 ∷ 32 ∷ 112 ∷ 97
    ∷ 105 ∷ 100 ∷ 32 ∷ 48 ∷ 10
    ∷ 109 ∷ 97 ∷ 114 ∷ 103 ∷ 105 ∷ 110 ∷ 32 ∷ 54 ∷ 10
    ∷ []

-- refused 9
unfoldable pub text_nine : List ℕ
text_nine = 114 ∷ 101 ∷ 102 ∷ 117 ∷ 115 ∷ 101 ∷ 100 ∷ 32 ∷ 57 ∷ 10 ∷ []

-- refused 19
unfoldable pub text_nineteen : List ℕ
text_nineteen = 114 ∷ 101 ∷ 102 ∷ 117 ∷ 115 ∷ 101 ∷ 100 ∷ 32 ∷ 49 ∷ 57 ∷ 10 ∷ []

-- refused 22
unfoldable pub text_twenty_two : List ℕ
text_twenty_two = 114 ∷ 101 ∷ 102 ∷ 117 ∷ 115 ∷ 101 ∷ 100 ∷ 32 ∷ 50 ∷ 50 ∷ 10 ∷ []

pub record TextsHold : Type 0 where
  pub case_e_lem : market_text_of (outcome Median) case_e ≡ text_e
  pub sheet_e_lem : printed layout.Sheet Sheet 38 sheet_e ≡ sheet_e
  pub csv_e_lem : printed layout.Csv (Clearing Median) 0 csv_e ≡ text_e
  pub csv_as_sheet : printed layout.Csv Sheet 38 csv_e ≡ sheet_e
  pub sheet_for_csv : printed layout.Csv Sheet 38 sheet_e ≡ text_twenty_two
  pub empty_bid : printed layout.Sheet Sheet 42 sheet_e0 ≡ text_nineteen
  pub bid_too_high : market_text_of (outcome Median) (single 1 1 1 1_000_001) ≡ text_nine

-- of a sheet, and of a comma-separated market
unfoldable pub on_sheet : Page → Option Asked
on_sheet page = asked_for layout.Sheet page

unfoldable pub on_csv : Page → Option Asked
on_csv page = asked_for layout.Csv page

-- none; each page; a rule alone and after a page; a number of no rule, no number, `--write` with more, another word
abbrev pub AskedHold : Type 0
AskedHold = map asked (
    [] ∷ (quiet_word ∷ []) ∷ (why_word ∷ []) ∷ (write_word ∷ [])
    ∷ (rule_word ∷ one_word ∷ []) ∷ (rule_word ∷ two_word ∷ []) ∷ (quiet_word ∷ rule_word ∷ two_word ∷ [])
    ∷ (why_word ∷ rule_word ∷ two_word ∷ []) ∷ (rule_word ∷ (51 ∷ []) ∷ []) ∷ (rule_word ∷ [])
    ∷ (write_word ∷ rule_word ∷ one_word ∷ []) ∷ (two_word ∷ []) ∷ [])
    ≡ map on_sheet (Clearing Median ∷ Efficient Median ∷ Reasons Median ∷ Sheet
    ∷ Clearing Median ∷ Clearing TwoThirds ∷ Efficient TwoThirds ∷ Reasons TwoThirds ∷ [])
    ++ (None ∷ None ∷ None ∷ None ∷ [])

-- the same after `--csv`; `--csv` twice, and after the page
abbrev pub CsvAskedHold : Type 0
CsvAskedHold = map asked (
    (csv_word ∷ []) ∷ (csv_word ∷ quiet_word ∷ []) ∷ (csv_word ∷ why_word ∷ []) ∷ (csv_word ∷ write_word ∷ [])
    ∷ (csv_word ∷ rule_word ∷ two_word ∷ []) ∷ (csv_word ∷ quiet_word ∷ rule_word ∷ two_word ∷ [])
    ∷ (csv_word ∷ why_word ∷ rule_word ∷ two_word ∷ []) ∷ (csv_word ∷ csv_word ∷ [])
    ∷ (quiet_word ∷ csv_word ∷ []) ∷ [])
    ≡ map on_csv (Clearing Median ∷ Efficient Median ∷ Reasons Median ∷ Sheet
    ∷ Clearing TwoThirds ∷ Efficient TwoThirds ∷ Reasons TwoThirds ∷ [])
    ++ (None ∷ None ∷ [])
