use mathlib.Core.Path.{refl}
use native.Mathlib.Omega.{arith}
use Rattle.model.specs.book.Book.{account, sold_of, paid_of}
use Rattle.model.specs.declared.account.StationAccount.{StationAccount}
use Rattle.model.proofs.book.Records.{length_sold, length_paid}
use Rattle.ledger.proofs.Records.{raised_end, shown, shown_turn}
use Rattle.ledger.proofs.stations.add.Goals as goal

pub overflow_add-account : goal.overflow_add-account
unfolding sold_of
overflow_add-account c = omega (
  arith,
  c.requires.addable.0.fits c.loop-j.j (omega (arith, length_sold c.args.stations.now)),
  shown (λ (a : StationAccount). a.sold) (account 0 0) refl _ _ c.loop-j.invariant.0,
  c.from.ensures,
)

pub overflow_add-account-in-loop-j : goal.overflow_add-account-in-loop-j
unfolding paid_of
overflow_add-account-in-loop-j c = omega (
  arith,
  c.requires.addable.1.fits c.loop-j.j (omega (arith, length_paid c.args.stations.now)),
  shown (λ (a : StationAccount). a.paid) (account 0 0) refl _ _ c.loop-j.invariant.1,
)

pub loop-j-preserved : goal.loop-j-preserved
unfolding sold_of paid_of
loop-j-preserved c =
    let sold = shown (λ (a : StationAccount). a.sold) (account 0 0) refl _ _ c.loop-j.invariant.0 in
    let paid = shown (λ (a : StationAccount). a.paid) (account 0 0) refl _ _ c.loop-j.invariant.1 in (
      shown_turn (λ (a : StationAccount). a.sold) (account 0 0) refl _ _ c.loop-j.invariant.0 (omega arith)
          (omega (arith, sold, c.from.ensures)),
      shown_turn (λ (a : StationAccount). a.paid) (account 0 0) refl _ _ c.loop-j.invariant.1 (omega arith)
          (omega (arith, paid)),
    )

pub returns : goal.returns
returns c = (raised_end c.loop-j.invariant.0 (omega arith), raised_end c.loop-j.invariant.1 (omega arith))
