use Prim.Native.Nat.{◌<◌}
use mathlib.Core.Path.{◌∙◌}
use native.Mathlib.Omega.{arith}
use lib.ListN.{length}
use borrow.Author.Rules.{rules}
use Rattle.sheet.specs.Laid.{bid_in}
use Rattle.sheet.proofs.putting.Bytes.{four_bytes}
use Rattle.sheet.proofs.putting.Puts.{put_as}
use Rattle.sheet.proofs.writing.Bids.{walked_none, walked_place, walked_room, walked_on, walked_all}
use Rattle.sheet.proofs.writing.put_some.Goals as goal

pub loop-place-init : goal.loop-place-init
loop-place-init c =
    rw (c.into_iter-place-iterator.ensures.into_iter_gives, c.set_bits-place-items.ensures)
    (c.requires.1, walked_none _ _ c.requires.1 _)

pub offset_bounds-row-place : goal.offset_bounds-row-place
offset_bounds-row-place c =
    let h : c.in-Some.place < length c.args.row.now = let (e, t) = c.loop-place.invariant in
    walked_place _ _ e t _ c.next.new.self.left c.in-Some.ensures.steps in
    search rules

pub bounds-row-place : goal.bounds-row-place
bounds-row-place c =
    let (e, t) = c.loop-place.invariant in walked_place _ _ e t _ c.next.new.self.left c.in-Some.ensures.steps

pub put-requires : goal.put-requires
put-requires c =
    let (e, t) = c.loop-place.invariant in
    omega (arith, walked_room _ _ e t _ c.next.new.self.left c.in-Some.ensures.steps c.requires.2)

pub loop-place-preserved : goal.loop-place-preserved
unfolding bid_in
loop-place-preserved c =
    let (e, t) = c.loop-place.invariant in (
      e,
      walked_on _ _ e t _ c.next.new.self.left c.in-Some.ensures.steps
          (put_as c.put.ensures (c.to_le_bytes.ensures ∙ four_bytes _)),
    )

pub returns : goal.returns
returns c = let (e, t) = c.loop-place.invariant in walked_all _ _ e t c.in-None.ensures.steps (omega arith)
