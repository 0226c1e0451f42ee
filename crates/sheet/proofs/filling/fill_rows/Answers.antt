use native.Mathlib.Omega.{arith}
use mathlib.Core.Path.{refl, ap, ◌∙◌}
use lib.ListN.{length}
use Rattle.sheet.proofs.filling.Rows.{start, all_read, head_room, narrow, bids_room, part_long, turn}
use Rattle.sheet.proofs.filling.fill_rows.Goals as goal

pub loop-i-init : goal.loop-i-init
loop-i-init c = start c.requires.1 refl c.requires.3 c.requires.4

pub two-amount-requires : goal.two-amount-requires
two-amount-requires c = omega (arith, head_room c.loop-i.invariant c.loop-i-test.true c.requires.2)

pub four-ticket-requires : goal.four-ticket-requires
four-ticket-requires c =
    let u = c.two-amount.ensures.moved in
    omega (arith, head_room c.loop-i.invariant c.loop-i-test.true c.requires.2, u.place, ap length u.sheet)

pub map-map-requires : goal.map-map-requires
map-map-requires c =
    let u = c.two-amount.ensures.moved in
    let v = c.four-ticket.ensures.moved in (
      c.requires.0,
      omega (
        arith,
        head_room c.loop-i.invariant c.loop-i-test.true c.requires.2,
        u.place,
        v.place,
        ap length u.sheet,
        ap length v.sheet,
      ),
    )

pub fill_row-cursor-requires : goal.fill_row-cursor-requires
fill_row-cursor-requires c =
    let r = c.loop-i.invariant in
    let long =
    part_long c.loop-i.bids _ c.args.stations c.loop-i.i (c.loop-i.auto.bids ∙ c.requires.4) c.loop-i-test.true in
    rw long (
      c.requires.0,
      narrow r c.loop-i-test.true c.requires.2 c.two-amount.ensures c.four-ticket.ensures c.map-map.ensures,
      bids_room r c.loop-i-test.true c.requires.2 c.two-amount.ensures c.four-ticket.ensures c.map-map.ensures,
    )

pub loop-i-preserved : goal.loop-i-preserved
loop-i-preserved c =
    turn c.loop-i.invariant c.loop-i-test.true c.requires.2 c.two-amount.ensures c.four-ticket.ensures c.map-map.ensures
    (part_long c.loop-i.bids _ c.args.stations c.loop-i.i (c.loop-i.auto.bids ∙ c.requires.4) c.loop-i-test.true)
    c.fill_row-cursor.ensures

pub returns : goal.returns
returns c = all_read c.loop-i.invariant c.loop-i-test.false
