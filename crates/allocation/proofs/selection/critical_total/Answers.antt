use mathlib.Core.Path.{sym, ◌∙◌}
use native.Mathlib.Omega.{arith}
use Rattle.allocation.proofs.selection.Selection.{up_to_selected, many_below}
use Rattle.model.proofs.Compared.{lt_is}
use Rattle.model.proofs.Tests.{lt_yes}
use Rattle.allocation.proofs.selection.critical_total.Goals as goal

pub returns-then-b-near : goal.returns-then-b-near
returns-then-b-near c =
    record {
      least_few = record {
        few = omega (arith, c.requires.totals_len_bound.1);
        least = λ u l. many_below _ _ _ _ c.count_above-near.ensures c.if-b-near.true u
            (omega (arith, c.sub-last.ensures));
      };
      counted = sym c.requires.totals_len_bound.1;
    }

pub returns-then-near-b : goal.returns-then-near-b
returns-then-near-b c =
    rw c.largest_at_most.ensures
    (up_to_selected _ _ _ _ c.count_above-near.ensures c.if-near-b.true)

pub returns-then-c-b : goal.returns-then-c-b
returns-then-c-b c =
    rw c.largest_at_most-then-c-b.ensures
    (up_to_selected _ _ _ _ c.count_above-c.ensures c.if-c-b.true)

pub loop-low-preserved : goal.loop-low-preserved
loop-low-preserved c = (
  omega (
    arith,
    c.add-low.ensures,
    c.middle-mid.ensures,
    lt_yes c.loop-low.low.0 c.loop-low.high.0 (sym (lt_is _ _) ∙ sym c.lt.ensures ∙ c.loop-low-test.true),
  ),
  c.loop-low.invariant.1,
  c.loop-low.invariant.2,
  (λ u l. many_below _ _ _ _ c.count_above-c.ensures
      (omega (arith, c.if-c-b.false, c.if-c-b-2.false)) u
      (omega (arith, c.add-low.ensures))),
)
