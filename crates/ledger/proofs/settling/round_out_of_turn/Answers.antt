use mathlib.Core.Path.{sym, ap, ◌∙◌}
use borrow.Author.Tests.{le-leb}
use Rattle.model.specs.Counting.{◌=?◌}
use Rattle.model.specs.Verdicts.{◌gives◌}
use Rattle.model.specs.book.PlainBook.{out_of_turn}
use Rattle.model.proofs.Tests.{or_left, or_skip, is_le, not_le}
use Rattle.ledger.proofs.settling.round_out_of_turn.Goals as goal

pub returns-then-last-ge-MAX_ROUND : goal.returns-then-last-ge-MAX_ROUND
unfolding out_of_turn
returns-then-last-ge-MAX_ROUND c =
    let low = c.if-last-ge-MAX_ROUND.true in
    ap (λ b. b gives 11) (le-leb _ _ low ∙ sym (or_left _ _ (is_le _ _ low)))

pub returns-else-last-ge-MAX_ROUND : goal.returns-else-last-ge-MAX_ROUND
unfolding out_of_turn ◌=?◌
returns-else-last-ge-MAX_ROUND c = ap (λ b. b gives 11) (sym (or_skip _ (not_le _ _ c.if-last-ge-MAX_ROUND.false)))
