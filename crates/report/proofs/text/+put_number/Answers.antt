use Rattle.std.proofs.Common.{◌/◌, arith}
use Rattle.report.proofs.text.Decimal.{length_digits, wrote_digit, wrote_last, tenth_digits}
use Rattle.report.proofs.text.+put_number.Goals as goal

pub returns-then-x-lt10 : goal.returns-then-x-lt10
returns-then-x-lt10 t c = λ k b. wrote_digit k _ c.if-x-lt10.true c.put.ensures

pub put-requires-2 : goal.put-requires-2
put-requires-2 t c =
    omega (
      arith,
      (c.put_number-p.ensures 18 (tenth_digits _ (omega arith))).next,
      length_digits 19 (c.args.x / 10),
      c.requires,
    )

pub returns : goal.returns
returns t c = λ k b. wrote_last k _ c.if-x-lt10.false b c.put_number-p.ensures c.put-2.ensures
