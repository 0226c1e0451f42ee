use mathlib.Core.Path.{◌∙◌}
use Prim.Native.Nat.{◌<◌}
use lib.ListN.{length}
use native.Mathlib.Omega.{arith}
use borrow.Author.Rules.{rules}
use Rattle.model.proofs.Loops.{zeros}
use Rattle.sheet.proofs.filling.Bids.{walk_start, walk_place, walk_room, walk_turn, walk_end}
use Rattle.sheet.proofs.filling.fill_some.Goals as goal

pub loop-place-init : goal.loop-place-init
loop-place-init c =
    rw (c.into_iter-place-iterator.ensures.into_iter_gives, c.set_bits-place-items.ensures)
    (walk_start _ _ _ (c.fill.ensures.after (λ y e. e) ∙ zeros _))

pub four-bid-requires : goal.four-bid-requires
four-bid-requires c =
    walk_room c.loop-place.invariant _ c.next.new.self.left c.in-Some.ensures.steps c.requires.1 c.requires.2

pub offset_bounds-row-place : goal.offset_bounds-row-place
offset_bounds-row-place c =
    let h : c.in-Some.place < length c.args.row.now =
    walk_place c.loop-place.invariant _ c.next.new.self.left c.in-Some.ensures.steps c.requires.1 in
    search rules

pub bounds-row-place : goal.bounds-row-place
bounds-row-place c =
    omega (
      arith,
      walk_place c.loop-place.invariant _ c.next.new.self.left c.in-Some.ensures.steps c.requires.1,
      c.loop-place.auto.row,
    )

pub loop-place-preserved : goal.loop-place-preserved
loop-place-preserved c =
    walk_turn c.loop-place.invariant _ c.next.new.self.left c.in-Some.ensures.steps c.requires.1 c.four-bid.ensures

pub returns : goal.returns
returns c = walk_end c.loop-place.invariant c.in-None.ensures.steps (omega arith)
