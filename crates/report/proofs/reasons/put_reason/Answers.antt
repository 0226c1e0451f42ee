use Rattle.model.specs.Counting.{◌=?◌}
use Rattle.model.specs.text.ReasonsText.{reason_word}
use Rattle.report.proofs.reasons.put_reason.Goals as goal

pub returns-in-NoBid : goal.returns-in-NoBid
unfolding reason_word ◌=?◌
returns-in-NoBid c =
    rw c.in-NoBid.is c.put_word.ensures

pub returns-in-NotOpen : goal.returns-in-NotOpen
unfolding reason_word ◌=?◌
returns-in-NotOpen c =
    rw c.in-NotOpen.is c.put_word-in-NotOpen.ensures

pub returns-in-BelowCut : goal.returns-in-BelowCut
unfolding reason_word ◌=?◌
returns-in-BelowCut c =
    rw c.in-BelowCut.is c.put_word-in-BelowCut.ensures

pub returns-in-Outbid : goal.returns-in-Outbid
unfolding reason_word ◌=?◌
returns-in-Outbid c =
    rw c.in-Outbid.is c.put_word-in-Outbid.ensures
