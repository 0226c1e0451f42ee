-- The header, as the checking pass takes it, and what stands after it.
use Prim.Native.Nat.{ℕ, ◌+◌, ◌*◌, ◌≤◌, ◌<◌}
use mathlib.Core.Bool.{Bool, true, false}
use mathlib.Core.List.{List}
use mathlib.Core.Path.{◌≡◌, sym, ap, ap₂, ◌∙◌}
use native.Mathlib.Omega.{arith}
use lib.ListN.{length}
use Rattle.std.specs.Prelude.{Result, Ok, Err}
use Rattle.model.specs.Limits.{max_guests, max_stations}
use Rattle.model.specs.Counting.{◌<?◌, ◌=?◌, ◌or◌}
use Rattle.model.specs.Verdicts.{◌gives◌}
use Rattle.model.specs.declared.refusal.Refusal.{Refusal}
use Rattle.model.specs.declared.refusal.Refusal.TheVariants.{SheetEnds, CountsOutOfRange, TrailingBytes}
use Rattle.model.specs.market.Faults.{counts}
use Rattle.model.specs.sheet.Content.{guests, stations}
use Rattle.model.specs.sheet.Fields.{little_endian}
use Rattle.model.specs.sheet.Rows.{row_at, rows_faults}
use Rattle.model.proofs.sheet.Rows.{first_row}
use Rattle.model.proofs.sheet.Faults.{Headed, sheet_short, bad_counts, stations_end, bad_rows, trailing, whole}
use Rattle.model.proofs.sheet.Faults.{counts_by, counts_within}
use Rattle.model.proofs.sheet.Answers.{Checked, answer_fault, answer_read}
use Rattle.sheet.specs.Passes.{Passed}
use Rattle.sheet.specs.Taken.{Started, Moved, Taken}
use Rattle.sheet.specs.declared.fields.Cursor.{Cursor}
use Rattle.sheet.proofs.fields.Moves.{taken_after}
use Rattle.sheet.proofs.passes.Rows.{told_on, told_fault}

module _ {s : List ℕ} {r : Cursor} (start : Started s r) where
  pub short : length r.sheet.now < r.at + 4 → Checked s (Err SheetEnds)
  short h = answer_fault s _ (sheet_short s (omega (arith, h, start.place, ap length start.sheet)))

  module _ (within : r.at + 4 ≤ length r.sheet.now) {a b : Cursor} {x y n m : ℕ} (t : Taken r 2 x a) (u : Taken a 2 y b)
      (e : n ≡ x) (f : m ≡ y) where
    headed : Headed s n m
    unfolding guests stations
    headed = record {
      within = omega (arith, within, start.place, ap length start.sheet);
      n_is = e ∙ t.value ∙ ap₂ (λ s p. little_endian s p 2) start.sheet start.place;
      m_is = f ∙ taken_after t.moved u
          ∙ ap₂ (λ s p. little_endian s p 2) start.sheet (let p : r.at + 2 ≡ 2 = omega (arith, start.place) in p);
    }

    pub after : (b.at ≡ 4) × (b.sheet.now ≡ s)
    after =
        (omega (arith, start.place, t.moved.place, u.moved.place), u.moved.sheet ∙ t.moved.sheet ∙ start.sheet)

    module _ {test : Bool} (tested : test ≡ (max_guests <? n or m =? 0 or max_stations <? m)) where
      pub out_of_range : test ≡ true → Checked s (Err CountsOutOfRange)
      out_of_range c = answer_fault s _ (bad_counts headed (counts_by _ _ _ (sym c ∙ tested)))

      module _ (c : test ≡ false) where
        good : counts n m ≡ (false gives 2)
        good = counts_by _ _ _ (sym c ∙ tested)

        pub few : m ≤ max_stations
        few = (counts_within _ _ good).2

        pub short_stations : length b.sheet.now < b.at + 6 * m → Checked s (Err SheetEnds)
        short_stations h =
            answer_fault s _ (stations_end headed good (omega (arith, h, after.0, ap length after.1)))

        module _ (enough : b.at + 6 * m ≤ length b.sheet.now) {d : Cursor} (k : Moved b (6 * m) d) where
          there : 4 + 6 * m ≤ length s
          there = omega (arith, enough, after.0, ap length after.1)

          same : d.sheet.now ≡ s
          same = k.sheet ∙ after.1

          pub at_rows : d.at ≡ row_at d.sheet.now m 0
          at_rows = omega (arith, k.place, after.0, first_row d.sheet.now m)

          abbrev Rows : Result Cursor Refusal → Type 0
          Rows o = Passed d (rows_faults d.sheet.now m n) o (row_at d.sheet.now m n)

          pub bad_row : {z : Refusal} → Rows (Err z) → Checked s (Err z)
          bad_row p = answer_fault s _ (bad_rows headed good there (rw same at (told_fault p)))

          module _ {to : Cursor} (p : Rows (Ok to)) where
            pub too_long : to.at < length to.sheet.now → Checked s (Err TrailingBytes)
            too_long l =
                let (g, q, e) = told_on p in
                answer_fault s _ (trailing headed good there (rw same at g)
                (omega (arith, l, q, ap length (e ∙ same), ap (λ s. row_at s m n) same)))

            pub all_read : length to.sheet.now ≤ to.at → Checked s (Ok (record { guests = n; stations = m }))
            all_read l =
                let (g, q, e) = told_on p in
                answer_read s _ (whole headed good there (rw same at g)
                (omega (arith, l, q, ap length (e ∙ same), ap (λ s. row_at s m n) same)))
                headed.n_is headed.m_is
