-- Calls that join two gates, judged by computation.
use mathlib.Core.Path.{refl}
use Rattle.model.specs.market.Gates.{differs, meet, joined_lengths, pair_faults, joining_faults}
use Rattle.model.specs.cases.Cases.{single}
use Rattle.model.specs.cases.Gates.{gate, judged, gate_at, crowd, JoiningsJudged}
use Rattle.model.proofs.cases.Computing.{clearing_computes}

pub joinings_judged : JoiningsJudged
unfolding clearing_computes single gate gate_at crowd differs meet joined_lengths pair_faults joining_faults judged
joinings_judged = (refl, refl, refl, refl)
