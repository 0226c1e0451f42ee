use lib.ListN.{length, get_or}
use Rattle.model.proofs.Loops.{Filling}
use Rattle.menu.specs.Keys.{least_within, lift, label, Labelled}
use Rattle.menu.proofs.rows.Offers.prepare_labelled.Given as goal

-- the first j stations are prepared
abbrev pub invariant-loop-j : goal.invariant-loop-j
invariant-loop-j l =
    Filling (length l.prices) (λ j. least_within (get_or l.bars j 0) l.amount) l.initial.leasts l.leasts l.j
    × Filling (length l.prices) (λ j. lift (least_within (get_or l.bars j 0) l.amount) (get_or l.prices j 0) l.amount
    (label l.prices l.amount j)) l.initial.lifts l.lifts l.j
    × Labelled l.worths l.prices l.amount l.j l.table
