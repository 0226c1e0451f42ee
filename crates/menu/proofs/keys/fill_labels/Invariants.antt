use lib.ListN.{length}
use Rattle.model.proofs.Loops.{Filling}
use Rattle.menu.specs.Keys.{label_by}
use Rattle.menu.proofs.keys.fill_labels.Given as goal

abbrev pub invariant-loop-j : goal.invariant-loop-j
invariant-loop-j l = Filling (length l.rests) (label_by l.rests) l.initial.labels l.labels l.j
