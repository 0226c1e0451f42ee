use Rattle.report.specs.Tried.{Tried}
use Rattle.report.proofs.printing.Printing.{prints_fault}
use Rattle.report.proofs.print_page.Goals as goal

pub returns-in-Ok : goal.returns-in-Ok
unfolding Tried
returns-in-Ok c = c.in-Ok.ensures

pub returns-in-Err : goal.returns-in-Err
returns-in-Err c = prints_fault _ c.in-Err.ensures c.refusal_text.ensures
