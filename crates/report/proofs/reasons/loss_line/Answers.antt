use Prim.Native.Nat.{◌+◌, ◌<◌, ◌^◌}
use native.Mathlib.Omega.{arith}
use Rattle.model.specs.text.ReasonsText.{loss_line}
use Rattle.sheet.proofs.Wrote.{wrote_then}
use Rattle.report.proofs.text.Fields.{field_end}
use Rattle.report.proofs.reasons.Reasons.{reason_word_lem}
use Rattle.report.proofs.reasons.loss_line.Goals as goal

pub put_word-q-requires : goal.put_word-q-requires
put_word-q-requires c =
    let guest_end : c.put_field-p.result < 2 ^ 32 + 30 =
    omega (arith, field_end _ _ c.put_field-p.ensures, c.requires) in
    omega (arith, guest_end)

pub put_reason-r-requires : goal.put_reason-r-requires
put_reason-r-requires c =
    let guest_end : c.put_field-p.result < 2 ^ 32 + 30 =
    omega (arith, field_end _ _ c.put_field-p.ensures, c.requires) in
    let loses_end : c.put_word-q.result < 2 ^ 32 + 40 = omega (arith, c.put_word-q.ensures.next, guest_end) in
    omega (arith, loses_end)

pub put-requires : goal.put-requires
put-requires c =
    let guest_end : c.put_field-p.result < 2 ^ 32 + 30 =
    omega (arith, field_end _ _ c.put_field-p.ensures, c.requires) in
    let loses_end : c.put_word-q.result < 2 ^ 32 + 40 = omega (arith, c.put_word-q.ensures.next, guest_end) in
    let reason_end : c.put_reason-r.result < 2 ^ 32 + 60 =
    omega (arith, c.put_reason-r.ensures.next, reason_word_lem c.args.reason, loses_end) in
    omega (arith, reason_end)

pub returns : goal.returns
unfolding loss_line
returns c =
    wrote_then (wrote_then (wrote_then c.put_field-p.ensures c.put_word-q.ensures)
    c.put_reason-r.ensures) c.put.ensures
