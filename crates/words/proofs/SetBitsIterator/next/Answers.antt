use Prim.Native.Nat.{suc, ◌-◌}
use mathlib.Core.Path.{◌≡◌, refl, ap}
use native.Mathlib.Omega.{arith}
use lib.Bits.{bit_and}
use lib.ListN.{length}
use borrow.Author.Rules.{rules}
use Rattle.model.specs.Counting.{passing}
use Rattle.model.specs.sheet.Fields.{has_bit}
use Rattle.model.proofs.sheet.Walk.{step_end, step_lowest}
use Rattle.words.proofs.SetBitsIterator.next.Goals as goal

pub returns-then-self-eq0-clause-steps : goal.returns-then-self-eq0-clause-steps
returns-then-self-eq0-clause-steps c = step_end _ _ c.if-self-eq0.true c.if-self-eq0.true

pub returns-clause-steps : goal.returns-clause-steps
returns-clause-steps c = step_lowest _ _ _ (omega arith) (omega arith) refl refl

pub returns-clause-goes : goal.returns-clause-goes
returns-clause-goes c =
    let fewer : length (passing 64 (has_bit c.args.self.now.left))
    ≡ suc (length (passing 64 (has_bit (bit_and c.args.self.now.left (c.args.self.now.left - 1))))) =
    ap length (step_lowest c.args.self.now.left _ _ (omega arith) (omega arith) refl refl).given in search rules
