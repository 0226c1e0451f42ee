use Rattle.std.proofs.Common.{refl}
use Rattle.quiet.proofs.seats.Seats.{station}
use Rattle.quiet.proofs.service.Service.{no_taker}
use Rattle.quiet.proofs.service.serve_guest.Goals as goal

pub seat-requires : goal.seat-requires
seat-requires c =
    let priced = c.args.round.now.priced in
    let best = c.in_ok-j.ensures in record {
      best = record {
        held_in = c.requires.held_in;
        waits = c.requires.waits;
        station = station _ priced.within c.requires.held_in c.requires.waits best;
        best = best;
      };
    }

pub returns-in_err-j : goal.returns-in_err-j
returns-in_err-j c =
    let priced = c.args.round.now.priced in
    let best = rw c.in_err-j.was at c.best_taker.ensures in
    rw c.from_residual.ensures (no_taker _ priced c.requires.held_in c.requires.waits best refl)
