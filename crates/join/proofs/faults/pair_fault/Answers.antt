use mathlib.Core.Path.{sym, ◌∙◌}
use Rattle.model.specs.Numbers.{answer_of_verdict}
use Rattle.model.specs.market.Gates.{joined_lengths, pair_faults}
use Rattle.model.proofs.Tests.{is_lt, not_lt}
use Rattle.model.proofs.Verdicts.{fault_none, fault_here, fault_later}
use Rattle.join.proofs.faults.pair_fault.Goals as goal

pub returns-then-stations_differ : goal.returns-then-stations_differ
unfolding pair_faults answer_of_verdict
returns-then-stations_differ c = sym (fault_here _ (sym c.stations_differ.ensures ∙ c.if-stations_differ.true))

pub returns-then-n-gt-MAX_GUESTS : goal.returns-then-n-gt-MAX_GUESTS
unfolding pair_faults answer_of_verdict
returns-then-n-gt-MAX_GUESTS c =
    sym (fault_later _ _ (sym c.stations_differ.ensures ∙ c.if-stations_differ.false)
    ∙ rw (← c.first.view_is, ← c.second.view_is) (fault_here _ (is_lt _ _ c.if-n-gt-MAX_GUESTS.true)))

pub returns-then-ticket_in_both : goal.returns-then-ticket_in_both
unfolding pair_faults answer_of_verdict
returns-then-ticket_in_both c =
    sym (fault_later _ _ (sym c.stations_differ.ensures ∙ c.if-stations_differ.false)
    ∙ rw (← c.first.view_is, ← c.second.view_is)
    (fault_later _ _ (not_lt _ _ c.if-n-gt-MAX_GUESTS.false)
    ∙ fault_here _ (sym c.ticket_in_both.ensures ∙ c.if-ticket_in_both.true)))

pub returns-then-lengths_differ : goal.returns-then-lengths_differ
unfolding pair_faults joined_lengths answer_of_verdict
returns-then-lengths_differ c =
    sym (fault_later _ _ (sym c.stations_differ.ensures ∙ c.if-stations_differ.false)
    ∙ rw (← c.first.view_is, ← c.second.view_is)
    (fault_later _ _ (not_lt _ _ c.if-n-gt-MAX_GUESTS.false)
    ∙ fault_later _ _ (sym c.ticket_in_both.ensures ∙ c.if-ticket_in_both.false)
    ∙ fault_here _ (sym c.lengths_differ.ensures ∙ c.if-lengths_differ.true)))

pub returns : goal.returns
unfolding pair_faults joined_lengths answer_of_verdict
returns c =
    sym (fault_later _ _ (sym c.stations_differ.ensures ∙ c.if-stations_differ.false)
    ∙ rw (← c.first.view_is, ← c.second.view_is)
    (fault_later _ _ (not_lt _ _ c.if-n-gt-MAX_GUESTS.false)
    ∙ fault_later _ _ (sym c.ticket_in_both.ensures ∙ c.if-ticket_in_both.false)
    ∙ fault_later _ _ (sym c.lengths_differ.ensures ∙ c.if-lengths_differ.false) ∙ fault_none))
