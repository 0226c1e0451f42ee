-- Laws of loops that write a table of numbers row after row, row i at the places from i * m on.
use Prim.Native.Nat.{ℕ, ◌+◌, ◌*◌, ◌≤◌, ◌<◌}
use mathlib.Core.List.{List, ◌++◌, append-nil}
use mathlib.Core.Path.{◌≡◌, refl, sym, ap, ap₂, ◌∙◌}
use native.Mathlib.Nat.{mul-le-mul_right}
use native.Mathlib.Numerals.{add-one}
use native.Mathlib.Omega.{arith}
use lib.ListN.{length, set, drop, length-append, length-drop}
use lib.Seq.{paste, paste-zero, paste-suc, length-paste, drop-length}
use Rattle.model.specs.Counting.{list, joined}
use Rattle.model.proofs.Counting.{length_list, get_d_list, list_cong}
use Rattle.model.proofs.sheet.Joined.{joined_length, paste_next}

-- ---- one row of m: its first j numbers stand over the places from base on

pub record RowWritten (m : ℕ) (f : ℕ → ℕ) (l₀ l : List ℕ) (base j : ℕ) : Type 0 where
  pub within : j ≤ m
  pub room : base + m ≤ length l₀
  pub is : l ≡ paste l₀ base (list m f) j

pub row_none :
    {m : ℕ} {f : ℕ → ℕ} {l : List ℕ} {base : ℕ} → base + m ≤ length l → RowWritten m f l l base 0
row_none {m} {f} {l} {base} room =
    record { within = omega arith; room = room; is = paste-zero l base (list m f) }

module _ {m : ℕ} {f : ℕ → ℕ} {l₀ l : List ℕ} {base j : ℕ} (s : RowWritten m f l₀ l base j) where
  pub row_same : length l ≡ length l₀
  row_same =
      ap length s.is
      ∙ length-paste l₀ base (list m f) j (omega (arith, s.within, s.room))
      (omega (arith, s.within, length_list m f))

  pub row_place_lem : j < m → base + j < length l
  row_place_lem h = omega (arith, row_same, s.room)

  pub row_turn : {v : ℕ} → j < m → v ≡ f j → RowWritten m f l₀ (set l (base + j) v) base (j + 1)
  row_turn h e = record {
    within = omega arith;
    room = s.room;
    is = rw (s.is, e ∙ sym (get_d_list m f j h), add-one)
        (paste-suc l₀ base (list m f) j 0 (omega (arith, s.room)) (omega (arith, length_list m f)));
  }

  pub row_end : m ≤ j → l ≡ paste l₀ base (list m f) m
  row_end h = s.is ∙ ap (paste l₀ base (list m f)) (let whole : j ≡ m = omega (arith, s.within) in whole)

-- ---- n rows of m: the first i, then what was there

pub record RowsWritten (n m : ℕ) (f : ℕ → ℕ → ℕ) (l₀ l : List ℕ) (i : ℕ) : Type 0 where
  pub within : i ≤ n
  pub long : length l₀ ≡ n * m
  pub is : l ≡ joined i (λ k. list m (f k)) ++ drop (i * m) l₀

pub rows_none :
    {n m : ℕ} {f : ℕ → ℕ → ℕ} {l : List ℕ} → length l ≡ n * m → RowsWritten n m f l l 0
unfolding joined
rows_none {m = m} long =
    let none : 0 * m ≡ 0 = omega arith in
    record { within = omega arith; long = long; is = rw none refl }

module _ {n m : ℕ} {f : ℕ → ℕ → ℕ} {l₀ l : List ℕ} {i : ℕ} (s : RowsWritten n m f l₀ l i) where
  abbrev rows : ℕ → List ℕ
  rows k = list m (f k)

  before_long : length (joined i rows) ≡ i * m
  before_long = joined_length i m f

  pub rows_same : length l ≡ length l₀
  rows_same =
      ap length s.is
      ∙ simp (length-append, length-drop) (omega (arith, before_long, s.long, mul-le-mul_right m s.within))

  pub rows_room : i < n → i * m + m ≤ length l
  rows_room h = omega (arith, rows_same, s.long, mul-le-mul_right m h)

  pub rows_turn :
      {g : ℕ → ℕ} {l' : List ℕ} → i < n → ((j : ℕ) → j < m → g j ≡ f i j)
      → l' ≡ paste l (i * m) (list m g) m → RowsWritten n m f l₀ l' (i + 1)
  unfolding joined
  rows_turn {g} h same e =
      let next : (i + 1) * m ≡ i * m + m = omega arith in
      record {
        within = omega arith;
        long = s.long;
        is = rw (next, add-one) (e ∙ ap₂ (λ l r. paste l (i * m) r m) s.is (list_cong m g (f i) same)
            ∙ paste_next (joined i rows) l₀ (rows i) (i * m) m before_long (length_list m (f i)));
      }

  pub rows_end : n ≤ i → l ≡ joined n rows
  rows_end h =
      let all : i ≡ n = omega (arith, s.within) in
      let whole : i * m ≡ length l₀ = rw all (sym s.long) in
      s.is ∙ ap (λ k. joined i rows ++ drop k l₀) whole ∙ ap (λ l. joined i rows ++ l) (drop-length l₀)
      ∙ append-nil (joined i rows) ∙ ap (λ k. joined k rows) all
