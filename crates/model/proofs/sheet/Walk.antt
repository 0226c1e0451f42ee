-- Laws of the walk over the set bits of a word: of a step, and of a walk over a map.
use Prim.Native.Nat.{ℕ, zero, suc, ◌+◌, ◌-◌, ◌^◌, ◌≤◌, ◌<◌}
use mathlib.Core.Bool.{Bool, true, false}
use mathlib.Core.List.{[]}
use mathlib.Core.Logic.{⊎_elim}
use mathlib.Core.Path.{◌≡◌, refl, sym, ◌∙◌}
use native.Mathlib.Nat.{eq-or-lt_of_le, le_of_suc-le-suc, not-suc-le-zero}
use native.Mathlib.Numerals.{add-one}
use native.Mathlib.Omega.{arith}
use lib.Bits.{bit_and}
use lib.Count.{count_trailing_zeros}
use Rattle.model.specs.Counting.{count, passing}
use Rattle.model.specs.sheet.Fields.{has_bit}
use Rattle.model.specs.clauses.Steps.{Steps}
use Rattle.std.specs.Prelude.{Some, None}
use Rattle.model.proofs.Counting.{count_not}
use Rattle.model.proofs.Passing.{First, first_listed, listed_first, listed, passing_none}
use Rattle.model.proofs.Tests.{decide, clash, lt_or_le}
use Rattle.model.proofs.sheet.Bits.{clear_zero, lowest_first, set_within, without_lowest}

-- ---- a step

pub step_end : (x rest : ℕ) → x ≡ 0 → rest ≡ 0 → Steps x None rest
step_end x rest e f = record { given = (none x e, none rest f) }
  where
    none : (x : ℕ) → x ≡ 0 → passing 64 (has_bit x) ≡ []
    none x e = rw e (passing_none 64 (has_bit 0) (λ i _. clear_zero i))

-- as code makes it
pub step_lowest :
    (x j rest : ℕ) → 0 < x → x < 2 ^ 64 → j ≡ count_trailing_zeros 64 x → rest ≡ bit_and x (x - 1)
    → Steps x (Some j) rest
step_lowest x j rest p h e f =
    rw (e, f ∙ without_lowest 64 x p h) (record { given = sym (first_listed 64 _ _ _ (lowest_first 64 x p h)) })

pub step_first : {x j rest : ℕ} → Steps x (Some j) rest → First 64 (has_bit x) (has_bit rest) j
step_first s = listed_first 64 _ _ _ (sym s.given)

pub none_set : {x rest : ℕ} → Steps x None rest → (i : ℕ) → i < 64 → has_bit x i ≡ false
none_set {x} s i l = ⊎_elim
    (λ (b : has_bit x i ≡ true). absurd (not-suc-le-zero ((rw s.given.0 at (listed 64 (has_bit x))).each i l b).1))
    (λ (b : has_bit x i ≡ false). b)
    (decide (has_bit x i))

-- ---- the walk over a map of m bits

-- where nothing passes from p on, the count stays
pub count_still : (f : ℕ → Bool) (p q : ℕ) → p ≤ q → ((i : ℕ) → p ≤ i → i < q → f i ≡ false) → count q f ≡ count p f
count_still f p zero l h = let e : p ≡ 0 = omega arith in rw e refl
count_still f p (suc q) l h = ⊎_elim
    (λ (e : p ≡ suc q). rw e refl)
    (λ (g : p < suc q). omega (
      arith,
      rw add-one at (count_not q f (h q (le_of_suc-le-suc g) (omega arith))),
      count_still f p q (le_of_suc-le-suc g) (λ i a b. h i a (omega arith)),
    ))
    (eq-or-lt_of_le l)

-- the steps have taken the set bits below p, and `left` has the others
pub record Walk (map m left : ℕ) : Type 0 where
  pub p : ℕ
  pub low : p ≤ m
  pub passed : (i : ℕ) → i < p → has_bit left i ≡ false
  pub ahead : (i : ℕ) → p ≤ i → i < 64 → has_bit left i ≡ has_bit map i

abbrev pub walk_all : (map m : ℕ) → Walk map m map
walk_all map m =
    record { p = 0; low = omega arith; passed = λ i l. absurd (not-suc-le-zero l); ahead = λ i l w. refl }

-- j is the next: the map has no bit between p and j
pub record Next (map p j : ℕ) : Type 0 where
  pub onward : p ≤ j
  pub set : has_bit map j ≡ true
  pub gap : (i : ℕ) → p ≤ i → i < j → has_bit map i ≡ false
  pub number : count j (has_bit map) ≡ count p (has_bit map)

module _ {map m left : ℕ} (t : Walk map m left) where
  module _ {j rest : ℕ} (s : Steps left (Some j) rest) where
    onward : t.p ≤ j
    onward = ⊎_elim
        (λ (l : j < t.p). absurd (clash (step_first s).passes (t.passed j l)))
        (λ (l : t.p ≤ j). l)
        (lt_or_le j t.p)

    gap : (i : ℕ) → t.p ≤ i → i < j → has_bit map i ≡ false
    gap i a b = sym (t.ahead i a (omega (arith, (step_first s).within))) ∙ (step_first s).below i b

    pub walk_next : Next map t.p j
    walk_next = record {
      onward = onward;
      set = sym (t.ahead j onward (step_first s).within) ∙ (step_first s).passes;
      gap = gap;
      number = count_still (has_bit map) t.p j onward gap;
    }

    -- it is below m
    pub walk_bit : map < 2 ^ m → j < m
    walk_bit narrow = set_within map m j narrow walk_next.set

    abbrev pub walk_on : map < 2 ^ m → Walk map m rest
    walk_on narrow = record {
      p = j + 1;
      low = omega (arith, walk_bit narrow);
      passed = λ i l. (step_first s).gone i (omega arith);
      ahead = λ i l w. (step_first s).kept i (omega arith) w ∙ t.ahead i (omega (arith, walk_next.onward)) w;
    }

  -- no bit is left
  pub walk_done : {rest : ℕ} → Steps left None rest → (k : ℕ) → t.p ≤ k → k < 64 → has_bit map k ≡ false
  walk_done s k l w = sym (t.ahead k l w) ∙ none_set s k w
