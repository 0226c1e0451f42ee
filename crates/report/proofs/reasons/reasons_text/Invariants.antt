use Prim.Native.Nat.{◌+◌}
use Rattle.explain.specs.Outcomes.{record_at}
use Rattle.sheet.proofs.Wrote.{Listing}
use Rattle.report.specs.Records.{record_line}
use Rattle.report.proofs.reasons.reasons_text.Given as goal

abbrev pub invariant-loop-k : goal.invariant-loop-k
invariant-loop-k l = Listing l.told.guests (λ i. record_line (i + 1) (record_at l.told i)) l.initial.out 0 l.k l.out l.p
