use Rattle.std.proofs.Common.{◌∙◌, arith}
use Rattle.market_csv.specs.Bytes.{Sorted}
use Rattle.market_csv.specs.Runs.{Found}
use Rattle.market_csv.proofs.Running.{running_none, running_turn, wrapped}
use Rattle.market_csv.proofs.Sorting.{no_digit, sorted_as}
use Rattle.market_csv.specs.declared.bytes.Kind.TheVariants.{Digit}
use Rattle.market_csv.proofs.reader.Reader.digits.Goals as goal

pub loop-at-init : goal.loop-at-init
loop-at-init c = running_none _ _ c.self.invariant.0 c.self.invariant.1

pub returns-in_default : goal.returns-in_default
unfolding Found
returns-in_default c =
    let l = c.loop-at-test.true in
    rw (← c.self.view_is)
    (record {
      ran = record {
        running = c.loop-at.invariant;
        no_digit = λ _. no_digit _ _ c.in_default.not-Digit c.sort.ensures;
      };
      found = (l, c.sort.ensures);
    })

pub loop-at-preserved : goal.loop-at-preserved
unfolding Sorted
loop-at-preserved c =
    let sorted = sorted_as _ (Digit c.in-Digit.digit) c.sort.ensures c.in-Digit.is in
    running_turn c.from.result _ c.loop-at.invariant c.loop-at-test.true sorted.0 (c.from.ensures ∙ sorted.1)
    (wrapped _ _)

pub returns-clause-found : goal.returns-clause-found
unfolding Found
returns-clause-found c = rw (← c.self.view_is) (omega arith)
