use native.Mathlib.Omega.{arith}
use Rattle.explain.specs.Codes.{row_code}
use Rattle.explain.proofs.codes.Codes.{row_so_far_none, row_so_far_turn, row_so_far_end}
use Rattle.explain.proofs.codes.explain_row.Goals as goal

pub loop-j-init : goal.loop-j-init
loop-j-init c = row_so_far_none c.requires.codes_long

pub loop-j-preserved : goal.loop-j-preserved
unfolding row_code
loop-j-preserved c =
    row_so_far_turn c.loop-j.invariant c.loop-j-test.true (rw (← c.from.ensures) c.code-c.ensures) (omega arith)

pub returns : goal.returns
returns c = row_so_far_end c.loop-j.invariant c.loop-j-test.false
