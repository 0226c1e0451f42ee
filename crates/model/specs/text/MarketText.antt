-- What is printed of a market: its clearing, by either mechanism and rule, what decided for each guest, or its shortest
-- sheet where the buffer has room for it; or its refusal.
use Rattle.std.specs.Prelude.{ℕ, List}
use Rattle.model.specs.Verdicts.{Verdict, accepted, refused, first_fault}
use Rattle.model.specs.market.Market.{Tables}
use Rattle.model.specs.market.Outcome.{Outcome, outcome, efficient_outcome}
use Rattle.model.specs.market.Faults.{verdict}
use Rattle.model.specs.market.Reasons.{OutcomeTable, guest_outcomes}
use Rattle.model.specs.sheet.Shortest.{shortest, writing_faults}
use Rattle.model.specs.text.ReasonsText.{reasons_text}
use Rattle.model.specs.text.Text.{text, refusal_text}
use Rattle.model.specs.declared.page.Page.{Page}
use Rattle.model.specs.declared.page.Page.TheVariants.{Clearing, Efficient, Reasons, Sheet}

unfoldable pub market_text : Verdict → Outcome → List ℕ
market_text (accepted _) o = text o
market_text (refused k) o = refusal_text k

-- of a market whose outcome is `made t`
unfoldable pub market_text_of : (made : Tables → Outcome) → Tables → List ℕ
market_text_of made t = market_text (verdict t) (made t)

unfoldable pub reasons_page : Verdict → OutcomeTable → List ℕ
reasons_page (accepted _) o = reasons_text o
reasons_page (refused k) o = refusal_text k

-- of a market whose guests' outcomes are `made t`
unfoldable pub reasons_page_of : (made : Tables → OutcomeTable) → Tables → List ℕ
reasons_page_of made t = reasons_page (verdict t) (made t)

unfoldable pub sheet_page : Verdict → Tables → List ℕ
sheet_page (accepted _) t = shortest t
sheet_page (refused k) t = refusal_text k

unfoldable pub sheet_page_of : (room : ℕ) → Tables → List ℕ
sheet_page_of room t = sheet_page (first_fault (writing_faults t room)) t

unfoldable pub page_of : Page → (room : ℕ) → Tables → List ℕ
page_of (Clearing rule) room t = market_text_of (outcome rule) t
page_of (Efficient rule) room t = market_text_of (efficient_outcome rule) t
page_of (Reasons rule) room t = reasons_page_of (guest_outcomes rule) t
page_of Sheet room t = sheet_page_of room t
