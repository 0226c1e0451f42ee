-- The cut is the ask at its position in the asks in rising order, and every list has a rising order.
use Prim.Native.Nat.{ℕ, zero, suc, ◌+◌, ◌-◌, ◌≤◌, ◌<◌}
use mathlib.Core.Bool.{true, false, cond}
use mathlib.Core.Logic.{⊎_elim}
use mathlib.Core.Path.{◌≡◌, refl, sym, ap, ap₂, ◌∙◌}
use mathlib.Core.List.{List, [], ◌∷◌}
use native.Mathlib.Nat.{le_refl, le_trans, le_antisymm, le_of_suc-le-suc, not-suc-le-zero}
use native.Mathlib.Omega.{arith}
use lib.ListN.{get_or, length}
use Rattle.model.specs.Counting.{◌<?◌, ◌≤?◌, ◌=?◌, only, sum, count}
use Rattle.model.specs.market.Market.{Tables, Market, market_by, market, cut, opens}
use Rattle.model.specs.market.Rules.{median, two_thirds, position}
use Rattle.model.specs.declared.rule.Rule.TheVariants.{Median, TwoThirds}
use Rattle.model.specs.claims.Meaning.{Rising, Rearranged, RisingOrderExists, CutIsAskAtPosition}
use Rattle.model.specs.claims.Meaning.{PositionsAreLeast, PositionsLieWithin, RuleTwoOpensNoFewer}
use Rattle.model.proofs.Tests.{decide, clash, lt_yes, is_lt, not_lt, le_yes, le_no, eq_yes, is_eq, not_eq}
use Rattle.model.proofs.Tests.{lt_or_le, only_le, le_only, only_yes, only_no}
use Rattle.model.proofs.Counting.{sum_cong, sum_swap, sum_single, sum_zero, sum_front, count_mono, count_none}
use Rattle.model.proofs.Counting.{count_initial, count_some, search_below, le_greatest, greatest_le}

-- ---- a rising order, by insertion

insert : ℕ → List ℕ → List ℕ
insert x [] = x ∷ []
insert x (y ∷ ys) = cond (x ≤? y) (x ∷ y ∷ ys) (y ∷ insert x ys)

rising : List ℕ → List ℕ
rising [] = []
rising (x ∷ xs) = insert x (rising xs)

length_insert : (x : ℕ) (l : List ℕ) → length (insert x l) ≡ suc (length l)
unfolding insert
length_insert x [] = refl
length_insert x (y ∷ ys) = ⊎_elim
    (λ (e : x ≤? y ≡ true). rw e)
    (λ (e : x ≤? y ≡ false). rw e (ap suc (length_insert x ys)))
    (decide (x ≤? y))

length_rising : (l : List ℕ) → length (rising l) ≡ length l
unfolding rising
length_rising [] = refl
length_rising (x ∷ xs) = length_insert x (rising xs) ∙ ap suc (length_rising xs)

-- how often v occurs
often : ℕ → List ℕ → ℕ
often v [] = 0
often v (x ∷ xs) = only (x =? v) 1 + often v xs

often_insert : (v x : ℕ) (l : List ℕ) → often v (insert x l) ≡ only (x =? v) 1 + often v l
unfolding often insert
often_insert v x [] = refl
often_insert v x (y ∷ ys) = ⊎_elim
    (λ (e : x ≤? y ≡ true). rw e)
    (λ (e : x ≤? y ≡ false). rw e (omega (arith, often_insert v x ys)))
    (decide (x ≤? y))

often_rising : (v : ℕ) (l : List ℕ) → often v (rising l) ≡ often v l
unfolding often rising
often_rising v [] = refl
often_rising v (x ∷ xs) = omega (arith, often_insert v x (rising xs), often_rising v xs)

count_often : (v : ℕ) (l : List ℕ) → count (length l) (λ k. get_or l k 0 =? v) ≡ often v l
unfolding count often sum
count_often v [] = refl
count_often v (x ∷ xs) =
    sum_front (length xs) (λ k. only (get_or (x ∷ xs) k 0 =? v) 1) ∙ ap (λ n. only (x =? v) 1 + n) (count_often v xs)

-- each element is at least x; a list in rising order, from the front
abbrev Above : ℕ → List ℕ → Type 0
Above x [] = Unit {0}
Above x (y ∷ ys) = (x ≤ y) × Above x ys

abbrev Rises : List ℕ → Type 0
Rises [] = Unit {0}
Rises (x ∷ xs) = Above x xs × Rises xs

above_less : (x y : ℕ) (l : List ℕ) → x ≤ y → Above y l → Above x l
above_less x y [] h a = tt
above_less x y (z ∷ zs) h a = (omega arith, above_less x y zs h a.1)

above_insert : (z x : ℕ) (l : List ℕ) → z ≤ x → Above z l → Above z (insert x l)
unfolding insert
above_insert z x [] h a = (h, tt)
above_insert z x (y ∷ ys) h a = ⊎_elim
    (λ (e : x ≤? y ≡ true). rw e (h, a))
    (λ (e : x ≤? y ≡ false). rw e (a.0, above_insert z x ys h a.1))
    (decide (x ≤? y))

rises_insert : (x : ℕ) (l : List ℕ) → Rises l → Rises (insert x l)
unfolding insert
rises_insert x [] r = (tt, tt)
rises_insert x (y ∷ ys) r = ⊎_elim
    (λ (e : x ≤? y ≡ true). rw e ((le_yes x y e, above_less x y ys (le_yes x y e) r.0), r))
    (λ (e : x ≤? y ≡ false). rw e
    (above_insert y x ys (let l : y < x = le_no x y e in omega arith) r.0, rises_insert x ys r.1))
    (decide (x ≤? y))

rises_rising : (l : List ℕ) → Rises (rising l)
unfolding rising
rises_rising [] = tt
rises_rising (x ∷ xs) = rises_insert x (rising xs) (rises_rising xs)

above_at : (x : ℕ) (l : List ℕ) (p : ℕ) → p < length l → Above x l → x ≤ get_or l p 0
above_at x [] p h a = absurd (not-suc-le-zero h)
above_at x (y ∷ ys) zero h a = a.0
above_at x (y ∷ ys) (suc p) h a = above_at x ys p (le_of_suc-le-suc h) a.1

rises_at : (l : List ℕ) → Rises l → (j k : ℕ) → j ≤ k → k < length l → get_or l j 0 ≤ get_or l k 0
rises_at [] r j k h lk = absurd (not-suc-le-zero lk)
rises_at (x ∷ xs) r zero zero h lk = le_refl x
rises_at (x ∷ xs) r zero (suc k) h lk = above_at x xs k (le_of_suc-le-suc lk) r.0
rises_at (x ∷ xs) r (suc j) zero h lk = absurd (not-suc-le-zero h)
rises_at (x ∷ xs) r (suc j) (suc k) h lk = rises_at xs r.1 j k (le_of_suc-le-suc h) (le_of_suc-le-suc lk)

pub rising_order_exists : RisingOrderExists
rising_order_exists l = (
  rising l,
  record { rises = rises_at (rising l) (rises_rising l) },
  record {
    as_long = length_rising l;
    as_often = λ v. count_often v (rising l) ∙ often_rising v l ∙ sym (count_often v l);
  },
)

-- ---- the cut

-- an ask that fewer than `position` asks lie below is at most the cut
pub le_cut :
    (M : Market) (j : ℕ) → j < M.station_count
    → count M.station_count (λ k. M.ask k <? M.ask j) < M.position → M.ask j ≤ cut M
unfolding cut
le_cut M j lj h = le_trans (le_only _ _ (is_lt _ _ h))
    (le_greatest M.station_count
    (λ j. only (count M.station_count (λ k. M.ask k <? M.ask j) <? M.position) (M.ask j)) j lj)

-- those below v, by how often each number below v occurs
below_often :
    (l : List ℕ) (v : ℕ)
    → count (length l) (λ k. get_or l k 0 <? v) ≡ sum v (λ u. count (length l) (λ k. get_or l k 0 =? u))
unfolding count
below_often l v =
    sum_cong (length l) _ _ (λ k lk. one (get_or l k 0)) ∙ sum_swap (length l) v (λ k u. only (get_or l k 0 =? u) 1)
  where
    one : (x : ℕ) → only (x <? v) 1 ≡ sum v (λ u. only (x =? u) 1)
    one x = ⊎_elim
        (λ (h : x < v). only_yes _ 1 (is_lt x v h)
        ∙ sym
        (sum_single v _ x h (λ u lu n. only_no _ 1 (not_eq x u (λ e. n (sym e)))) ∙ only_yes _ 1 (is_eq x x refl)))
        (λ (h : v ≤ x). only_no _ 1 (not_lt x v h)
        ∙ sym (sum_zero v _ (λ u lu. only_no _ 1 (not_eq x u (λ e. omega arith)))))
        (lt_or_le x v)

module _ (M : Market) (l s : List ℕ) (rs : Rising s) (rl : Rearranged s l) (sm : M.station_count ≡ length l)
    (sa : M.ask ≡ (λ j. get_or l j 0))
    (p : ℕ) (sp : M.position ≡ suc p) (lp : p < length l) where
  lps : p < length s
  lps = omega (arith, rl.as_long)

  counted : (a : ℕ) → count M.station_count (λ k. M.ask k <? a) ≡ count (length s) (λ k. get_or s k 0 <? a)
  counted a = ap₂ (λ m f. count m (λ k. f k <? a)) sm sa ∙ below_often l a
      ∙ sum_cong a _ _ (λ u lu. sym (rl.as_often u)) ∙ sym (below_often s a)

  -- more than p lie below whatever is above the one at p, and no more than p below that one
  more : (a : ℕ) → get_or s p 0 < a → p < count (length s) (λ k. get_or s k 0 <? a)
  more a h =
      le_trans
      (let e : suc p ≡ count (length s) (λ k. k <? suc p) = sym (count_initial (length s) (suc p) lps) in omega arith)
      (count_mono (length s) _ _ (λ k lk q. is_lt _ _
      (let b : k < suc p = lt_yes _ _ q in omega (arith, rs.rises k p (le_of_suc-le-suc b) lps))))

  fewer : count (length s) (λ k. get_or s k 0 <? get_or s p 0) ≤ p
  fewer = le_trans (count_mono (length s) _ (λ k. k <? p) (λ k lk q. is_lt _ _ (⊎_elim
      (λ (b : k < p). b)
      (λ (b : p ≤ k). absurd (omega (arith, lt_yes _ _ q, rs.rises p k b lk)))
      (lt_or_le k p))))
      (let e = count_initial (length s) p (let b : p ≤ length s = omega (arith, lps) in b) in omega arith)

  at_position : cut M ≡ get_or s p 0
  unfolding cut
  at_position =
      le_antisymm (greatest_le M.station_count _ _ (λ j lj. only_le _ _ _ (λ q. upper j (lt_yes _ _ q)))) lower
    where
      upper : (j : ℕ) → count M.station_count (λ k. M.ask k <? M.ask j) < M.position → M.ask j ≤ get_or s p 0
      upper j h = ⊎_elim
          (λ (b : get_or s p 0 < M.ask j). absurd (omega (arith, counted (M.ask j), more (M.ask j) b)))
          (λ b. b)
          (lt_or_le (get_or s p 0) (M.ask j))

      occurs : 0 < count (length l) (λ k. get_or l k 0 =? get_or s p 0)
      occurs = rw (← rl.as_often (get_or s p 0)) (count_some (length s) _ p lps (is_eq _ _ refl))

      lower : get_or s p 0 ≤ cut M
      lower = ⊎_elim
          (λ (j, lj, q).
          let e : M.ask j ≡ get_or s p 0 = ap (λ f. f j) sa ∙ eq_yes _ _ q in
          rw (← e) (le_cut M j (omega arith) (rw e (omega (arith, counted (get_or s p 0), fewer)))))
          (λ none. absurd (omega (arith, occurs, count_none (length l) _ (λ k lk q. clash q (none k lk)))))
          (search_below (length l) (λ k. get_or l k 0 =? get_or s p 0))

pub cut_is_ask_at_position : CutIsAskAtPosition
unfolding market_by
cut_is_ask_at_position rule t s rs rl low high = at_position (market_by rule t) t.asks s rs rl refl refl
    (rule (length t.asks) - 1) (omega arith) (omega arith)

pub positions_are_least : PositionsAreLeast
unfolding median two_thirds
positions_are_least m = (
  record { reaches = omega arith; least = λ p q. omega arith },
  record { passes = omega arith; least = λ p q. omega arith },
)

pub positions_lie_within : PositionsLieWithin
unfolding position median two_thirds
positions_lie_within Median m h = (omega arith, omega arith)
positions_lie_within TwoThirds m h = (omega arith, omega arith)

-- a later position lowers no cut
cut_rises : (p q : ℕ → ℕ) (t : Tables) → p (length t.asks) ≤ q (length t.asks)
    → cut (market_by p t) ≤ cut (market_by q t)
unfolding cut market_by
cut_rises p q t h = greatest_le (length t.asks) _ _ (λ j l. only_le _ _ _ (λ e.
    le_cut (market_by q t) j l (let few = lt_yes _ _ e in omega (arith, few))))

pub rule_two_opens_no_fewer : RuleTwoOpensNoFewer
unfolding opens market market_by position median two_thirds
rule_two_opens_no_fewer t j e = let own = lt_yes _ _ e in
    is_lt _ _ (omega (arith, own, cut_rises median two_thirds t (omega arith)))
