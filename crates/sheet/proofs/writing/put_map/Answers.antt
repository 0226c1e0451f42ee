use mathlib.Core.Path.{◌≡◌, refl, ap, ◌∙◌}
use native.Mathlib.Omega.{arith}
use lib.ListN.{take}
use Rattle.model.specs.sheet.Layout.{bytes_of}
use Rattle.sheet.proofs.Wrote.{wrote_none}
use Rattle.sheet.proofs.putting.Bytes.{first_bytes}
use Rattle.sheet.proofs.putting.Puts.{put_as}
use Rattle.sheet.proofs.writing.put_map.Goals as goal

pub returns-in-0 : goal.returns-in-0
unfolding bytes_of
returns-in-0 c =
    let e : c.args.width ≡ 0 = c.in-0.is in
    rw e (record { wrote = wrote_none _ _; same = refl })

pub returns-in-1 : goal.returns-in-1
returns-in-1 c =
    let e : c.args.width ≡ 1 = c.in-1.is in
    rw e (put_as c.put.ensures (ap (take 1) c.to_le_bytes-bytes.ensures ∙ first_bytes 1 c.args.map (omega arith)))

pub returns-in-2 : goal.returns-in-2
returns-in-2 c =
    let e : c.args.width ≡ 2 = c.in-2.is in
    rw e (put_as c.put-in-2.ensures (ap (take 2) c.to_le_bytes-bytes.ensures ∙ first_bytes 2 c.args.map (omega arith)))

pub returns-in-3 : goal.returns-in-3
returns-in-3 c =
    let e : c.args.width ≡ 3 = c.in-3.is in
    rw e (put_as c.put-in-3.ensures (ap (take 3) c.to_le_bytes-bytes.ensures ∙ first_bytes 3 c.args.map (omega arith)))

pub returns-in-4 : goal.returns-in-4
returns-in-4 c =
    let e : c.args.width ≡ 4 = c.in-4.is in
    rw e (put_as c.put-in-4.ensures (ap (take 4) c.to_le_bytes-bytes.ensures ∙ first_bytes 4 c.args.map (omega arith)))

pub returns-in_default : goal.returns-in_default
returns-in_default c =
    let e : c.args.width ≡ 5 = omega (arith, c.requires.0) in
    rw e
    (put_as c.put-in_default.ensures (ap (take 5) c.to_le_bytes-bytes.ensures ∙ first_bytes 5 c.args.map (omega arith)))
