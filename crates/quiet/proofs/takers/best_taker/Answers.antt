use Rattle.std.proofs.Common.{sym, ap, ◌∙◌}
use Rattle.quiet.proofs.takers.Takers.{bars_low, best_is, best_past_takes}
use Rattle.quiet.proofs.takers.best_taker.Goals as goal

pub best_choice-requires : goal.best_choice-requires
best_choice-requires c =
    let priced = c.args.round.now.priced in
    let low = c.args.round.now.tickets in
    let bars_are = ap (λ r. r.bars) c.seating.view_is in record {
      bars = rw bars_are (bars_low _ priced c.requires.held_in low);
      x_in_bounds = c.requires.x_in_bounds;
    }

pub station_of-requires : goal.station_of-requires
station_of-requires c =
    let priced = c.args.round.now.priced in
    (best_is _ priced c.requires.x_in_bounds c.best_choice.ensures).0

pub returns : goal.returns
returns c =
    let priced = c.args.round.now.priced in
    let low = c.args.round.now.tickets in
    let bars_are = ap (λ r. r.bars) c.seating.view_is in
    best_past_takes _ priced c.requires.held_in low _
    ((best_is _ priced c.requires.x_in_bounds (rw bars_are at c.best_choice.ensures)).1 ∙ sym c.station_of.ensures)
