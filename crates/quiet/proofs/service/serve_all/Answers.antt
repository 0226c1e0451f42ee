use Rattle.model.specs.Limits.{max_guests}
use Rattle.quiet.proofs.line.Line.{line_of_zeros}
use Rattle.quiet.proofs.service.serve_all.Goals as goal

pub line_up-requires : goal.line_up-requires
line_up-requires c = record {
  guest_line = rw (← c.market.view_is) (line_of_zeros max_guests _ c.market.invariant.shape.guests_most);
}
