use Rattle.model.specs.text.ReasonsText.{win_line}
use Rattle.report.proofs.reasons.Reasons.{wrote_win, wrote_loss}
use Rattle.report.proofs.reasons.outcome_line.Goals as goal

pub returns-in-Win : goal.returns-in-Win
unfolding win_line
returns-in-Win c =
    wrote_win _ _ c.in-Win.is (rw c.from.ensures at c.put_three.ensures)

pub returns-in-Loss : goal.returns-in-Loss
returns-in-Loss c =
    wrote_loss _ _ c.in-Loss.is c.loss_line.ensures
