-- What the clearing program prints of a market in either layout. Document 01, end of 'Cases'; document 02, requests 1
-- and 10. A text is a list of bytes.
use Rattle.std.specs.Prelude.{ℕ, List}
use Rattle.model.specs.text.Text.{refusal_text}
use Rattle.model.specs.Verdicts.{Answer, accepted, refused}
use Rattle.model.specs.market.Market.{Tables}
use Rattle.model.specs.sheet.Content.{read_sheet}
use Rattle.model.specs.csv.Content.{read_csv}
use Rattle.model.specs.text.MarketText.{page_of}
use Rattle.model.specs.declared.page.Layout.{Layout}
use Rattle.model.specs.declared.page.Layout.TheVariants.{Sheet, Csv}
use Rattle.model.specs.declared.page.Page.{Page}

unfoldable pub read_text : Page → (room : ℕ) → Answer Tables → List ℕ
read_text asked room (refused k) = refusal_text k
read_text asked room (accepted t) = page_of asked room t

-- the market that the bytes are, in a layout, or their first fault
unfoldable pub read_as : Layout → List ℕ → Answer Tables
read_as Sheet bytes = read_sheet bytes
read_as Csv bytes = read_csv bytes

-- the page that is asked for, in a buffer with this room
unfoldable pub printed : Layout → Page → (room : ℕ) (bytes : List ℕ) → List ℕ
printed layout asked room bytes = read_text asked room (read_as layout bytes)
