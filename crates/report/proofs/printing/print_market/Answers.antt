use Rattle.model.specs.market.Outcome.{outcome_in}
use Rattle.model.specs.text.MarketText.{page_of}
use Rattle.report.proofs.printing.Printing.{tried_sheet}
use Rattle.report.proofs.printing.print_market.Goals as goal

pub returns-in-Clearing : goal.returns-in-Clearing
unfolding page_of outcome_in
returns-in-Clearing c = rw c.in-Clearing.is c.print_clearing.ensures

pub returns-in-Efficient : goal.returns-in-Efficient
unfolding page_of outcome_in
returns-in-Efficient c = rw c.in-Efficient.is c.print_clearing-in-Efficient.ensures

pub returns-in-Reasons : goal.returns-in-Reasons
unfolding page_of
returns-in-Reasons c = rw c.in-Reasons.is c.print_reasons.ensures

pub returns-in-Sheet : goal.returns-in-Sheet
unfolding page_of
returns-in-Sheet c = rw c.in-Sheet.is (tried_sheet _ _ _ _ c.write.ensures)
