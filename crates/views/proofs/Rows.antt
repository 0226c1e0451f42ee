-- Where a row stands in a table of rows that are m wide: it ends at i * m, which is within the table where there are i
-- rows or more.
use Prim.Native.Nat.{ℕ, suc, ◌+◌, ◌*◌, ◌-◌, ◌/◌, ◌≤◌, ◌<◌}
use mathlib.Core.Bool.{Bool, true, false}
use mathlib.Core.List.{List, []}
use mathlib.Core.Path.{◌≡◌, refl, sym, ap, ◌∙◌}
use native.Mathlib.Nat.{le-div_iff_mul-le, div-lt_iff_lt-mul, suc-mul}
use native.Mathlib.Omega.{arith}
use lib.ListN.{length, take, drop}
use Rattle.model.specs.Counting.{◌≤?◌, ◌and◌}
use Rattle.model.specs.clauses.Rows.{shown, row_of}
use Rattle.model.proofs.Tests.{and_no, and_false, not_le}
use Rattle.model.proofs.clauses.Rows.{row_in}

pub row_there :
    {rows : ℕ} (xs : List ℕ) (m i : ℕ) → 0 < i → 0 < m → rows ≡ length xs / m → i ≤ rows
    → take (i * m - (i * m - m)) (drop (i * m - m) xs) ≡ row_of xs m i
row_there xs m i h p e l =
    let whole : i * m ≤ length xs = (le-div_iff_mul-le p).0 (omega arith) in
    let next : suc (i - 1) ≡ i = omega arith in
    let rows : i * m ≡ (i - 1) * m + m = ap (λ k. k * m) (sym next) ∙ suc-mul (i - 1) m in
    let start : i * m - m ≡ (i - 1) * m = omega arith in
    let wide : i * m - (i * m - m) ≡ m = omega arith in
    rw (wide, start) (row_in xs m i h whole)

pub no_guest : (xs : List ℕ) (m i : ℕ) → i ≤ 0 → [] ≡ row_of xs m i
unfolding row_of shown
no_guest xs m i h =
    ap (λ b. shown b (take m (drop ((i - 1) * m) xs)))
    (sym (and_no (1 ≤? i) (i * m ≤? length xs) (not_le 1 i (omega arith))))

pub row_past : {rows : ℕ} (xs : List ℕ) (m i : ℕ) → 0 < m → rows ≡ length xs / m → rows < i → [] ≡ row_of xs m i
unfolding row_of shown
row_past xs m i p e l =
    let past : length xs < i * m = (div-lt_iff_lt-mul p).0 (omega arith) in
    ap (λ b. shown b (take m (drop ((i - 1) * m) xs)))
    (sym (ap (λ b. (1 ≤? i) and b) (not_le (i * m) (length xs) past) ∙ and_false _))

shown_none : (b : Bool) → [] ≡ shown b []
unfolding shown
shown_none true = refl
shown_none false = refl

pub row_of_none : (xs : List ℕ) (m i : ℕ) → m ≤ 0 → [] ≡ row_of xs m i
unfolding row_of
row_of_none xs m i e = let none : m ≡ 0 = omega arith in rw none (shown_none _)
