use Rattle.model.specs.text.Text.{refusal_text}
use Rattle.report.proofs.page.refusal_text.Goals as goal

pub returns : goal.returns
unfolding refusal_text
returns c = rw (c.from-2.ensures, c.from.ensures) at c.put_line.ensures
