use lib.ListN.{take}
use Rattle.sheet.specs.Wrote.{Wrote}
use Rattle.report.proofs.text.put_word.Given as goal

abbrev pub invariant-loop-b : goal.invariant-loop-b
invariant-loop-b l = Wrote l.initial.out l.at (take l.b-index l.word) l.out l.p
