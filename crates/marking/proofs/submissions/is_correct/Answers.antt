use Rattle.marking.proofs.Answers.{compares}
use Rattle.marking.proofs.submissions.is_correct.Goals as goal

pub returns : goal.returns
returns c =
    rw (← c.submission.view_is)
    (compares _ _ _ _ c.clear_accepted-own.ensures c.same.ensures c.same-2.ensures c.same-3.ensures c.same-4.ensures
    c.same-5.ensures c.same-6.ensures)
