use Rattle.std.proofs.Common.{◌≡◌, ◌+◌, ◌-◌, ◌<◌, ap, ◌∙◌, arith}
use Rattle.quiet.specs.Efficient.{of}
use Rattle.quiet.proofs.seats.Slots.{last_start, last_turn, last_guest}
use Rattle.quiet.proofs.seats.Slots.{next_number, next_guest, link_suc}
use Rattle.quiet.proofs.seats.Seating.last_holder.Goals as goal
use Rattle.quiet.proofs.seats.Seating.last_holder.Goals.{In-loop-seen}

-- the first one's number is a guest's
pub overflow_sub-before : goal.overflow_sub-before
overflow_sub-before c =
    let ((slot, chain), some) = c.requires.linked in
    omega (arith, ap (λ r. of r.firsts c.args.j) c.self.view_is, chain.first_is, link_suc slot _ some)

pub loop-seen-init : goal.loop-seen-init
loop-seen-init c =
    let ((slot, chain), some) = c.requires.linked in
    rw (c.from-i.ensures, ap (λ r. of r.firsts c.args.j) c.self.view_is) (last_start slot chain some)

-- holders are left, and this is the next one's number
next : (c : In-loop-seen)
    → (of c.self.inside.nexts.now c.loop-seen.i ≡ of c.args.self.now.nexts c.loop-seen.i)
    × (0 < of c.args.self.now.held c.args.j - c.loop-seen._seen)
next c = (
  ap (λ r. of r.nexts c.loop-seen.i) c.self.view_is,
  omega (arith, ap (λ r. of r.held c.args.j) c.self.view_is, c.loop-seen-test.true),
)

pub overflow_sub-next : goal.overflow_sub-next
overflow_sub-next c =
    let (next_is, left) = next (goal.at.overflow_sub-next c).In-loop-seen in
    omega (arith, next_is, next_number c.loop-seen.invariant left)

pub later-holder-requires : goal.later-holder-requires
later-holder-requires c =
    let (next_is, left) = next (goal.at.later-holder-requires c).In-loop-seen in (
      c.requires.sized.1,
      last_guest c.loop-seen.invariant,
      omega (arith, c.from-i-in-loop-seen.ensures, next_is, next_guest c.loop-seen.invariant left),
    )

pub loop-seen-preserved : goal.loop-seen-preserved
loop-seen-preserved c =
    let (next_is, left) = next (goal.at.loop-seen-preserved c).In-loop-seen in
    let guest_is = c.from-i-in-loop-seen.ensures ∙ ap (λ k. k - 1) next_is in
    let held = of c.args.self.now.held c.args.j in
    let fewer : held - (c.loop-seen._seen + 1) ≡ held - c.loop-seen._seen - 1 = omega arith in
    rw (guest_is, next_is, fewer) (last_turn c.loop-seen.invariant left (rw guest_is at c.later-holder.ensures))
