use Rattle.std.proofs.Common.{◌≡◌, ◌+◌, length, ap, ◌∙◌}
use Rattle.model.specs.clauses.Rows.{row_of}
use Rattle.quiet.specs.Efficient.{of}
use Rattle.quiet.specs.Criticals.{Rows}
use Rattle.quiet.proofs.criticals.Criticals.{raised_as_shown, rows_known}
use Rattle.quiet.proofs.criticals.raise.Goals as goal
use Rattle.quiet.proofs.criticals.raise.Goals.{After-row_through_view-row}

-- the rows are the market's, and this one too
record Read (c : After-row_through_view-row) : Type 0 where
  pub rows : Rows c.args.round.now.market.now.amounts c.args.round.now.market.now.bids c.args.chosen.now
      (length c.args.round.now.market.now.asks) c.args.round.now.cut.0
  pub shown : c.row_through_view-row.result.now
      ≡ row_of c.args.round.now.market.now.bids (length c.args.round.now.market.now.asks) (c.args.i + 1)
  pub row_long : length c.row_through_view-row.result.now ≡ length c.args.round.now.market.now.asks

read : (c : After-row_through_view-row) → Read c
read c =
    let rows = rows_known _ c.args.round.now.priced c.requires.seats in
    let shown : c.row_through_view-row.result.now
    ≡ row_of c.args.round.now.market.now.bids (length c.args.round.now.market.now.asks) (c.args.i + 1) =
    rw (← c.market.view_is) c.row_through_view-row.ensures in record {
      rows = rows;
      shown = shown;
      row_long = ap length shown ∙ rows.row_long _ c.requires.i_in_bounds;
    }

pub least_rank-least-requires : goal.least_rank-least-requires
least_rank-least-requires c =
    let r = read (goal.at.least_rank-least-requires c).After-row_through_view-row in (
      rw r.shown (r.rows.row _ c.requires.i_in_bounds),
      r.rows.cut_most,
      rw r.row_long (r.rows.seat_most _ c.requires.i_in_bounds),
    )

pub raise_row-requires : goal.raise_row-requires
raise_row-requires c =
    let r = read (goal.at.raise_row-requires c).After-row_through_view-row in
    let amount_is : c.from.result ≡ of c.args.round.now.market.now.amounts c.args.i =
    rw (← c.market.view_is) c.from.ensures in
    record {
      row = rw r.shown (r.rows.row _ c.requires.i_in_bounds);
      amount_le_max_amount = (rw amount_is (r.rows.amount_most _ c.requires.i_in_bounds), c.least_rank-least.ensures.1);
      room = rw r.row_long c.requires.room;
    }

pub returns : goal.returns
returns c =
    let r = read (goal.at.returns c).After-row_through_view-row in
    let amount_is : c.from.result ≡ of c.args.round.now.market.now.amounts c.args.i =
    rw (← c.market.view_is) c.from.ensures in
    raised_as_shown _ _ _ r.shown (r.rows.row_long _ c.requires.i_in_bounds)
    c.least_rank-least.ensures.0 (rw amount_is at c.raise_row.ensures)
