-- Laws of the indices that pass, as a list.
use Prim.Native.Nat.{ℕ, zero, suc, ◌+◌, ◌≤◌, ◌<◌}
use mathlib.Core.Bool.{Bool, true, false}
use mathlib.Core.List.{List, [], ◌∷◌, ◌++◌, append-nil}
use mathlib.Core.Logic.{◌⊎◌, inl, inr, ⊎_elim}
use mathlib.Core.Path.{◌≡◌, refl, sym, ap, ap₂, ◌∙◌}
use native.Mathlib.Nat.{eq-or-lt_of_le, le_of_suc-le-suc, not-suc-le-zero}
use native.Mathlib.Omega.{arith}
use lib.ListN.{length, get_or, length-append, get_or-append}
use lib.Seq.{get_or-append-add}
use Rattle.model.specs.Counting.{only, count, sum, joined, alone, passing}
use Rattle.model.proofs.Counting.{up, here}
use Rattle.model.proofs.Tests.{decide, clash, same_test}
use Rattle.model.proofs.sheet.Joined.{joined_gap}

passing_yes : (n : ℕ) (f : ℕ → Bool) → f n ≡ true → passing (suc n) f ≡ passing n f ++ (n ∷ [])
unfolding passing joined alone
passing_yes n f e = ap (λ b. passing n f ++ alone b n) e

passing_not : (n : ℕ) (f : ℕ → Bool) → f n ≡ false → passing (suc n) f ≡ passing n f
unfolding passing joined alone
passing_not n f e = ap (λ b. passing n f ++ alone b n) e ∙ append-nil (passing n f)

alone_length : (b : Bool) (k : ℕ) → length (alone b k) ≡ only b 1
unfolding alone only
alone_length true k = refl
alone_length false k = refl

pub passing_length : (n : ℕ) (f : ℕ → Bool) → length (passing n f) ≡ count n f
unfolding passing joined count sum
passing_length zero f = refl
passing_length (suc n) f =
    length-append (passing n f) (alone (f n) n) ∙ ap₂ ◌+◌ (passing_length n f) (alone_length (f n) n)

-- none passes
pub passing_none : (n : ℕ) (f : ℕ → Bool) → ((i : ℕ) → i < n → f i ≡ false) → passing n f ≡ []
unfolding passing joined alone
passing_none n f h = joined_gap (λ k. alone (f k) k) 0 n (omega arith) (λ i _ l. ap (λ b. alone b i) (h i l))

-- ---- the list has each index below n that passes, once, in rising order, and no other

pub record Listed (n : ℕ) (f : ℕ → Bool) (ks : List ℕ) : Type 0 where
  pub low : (k : ℕ) → k < length ks → get_or ks k 0 < n
  pub passes : (k : ℕ) → k < length ks → f (get_or ks k 0) ≡ true
  pub rising : (i k : ℕ) → i < k → k < length ks → get_or ks i 0 < get_or ks k 0
  pub each : (j : ℕ) → j < n → f j ≡ true → (k : ℕ) × (k < length ks) × (get_or ks k 0 ≡ j)

module _ (n : ℕ) (f : ℕ → Bool) (ks : List ℕ) (t : Listed n f ks) where
  -- an index that does not pass changes nothing
  listed_not : f n ≡ false → Listed (suc n) f ks
  listed_not e = record {
    low = λ k l. up (t.low k l);
    passes = t.passes;
    rising = t.rising;
    each = λ j l s. ⊎_elim
        (λ (q : j ≡ n). absurd (clash s (ap f q ∙ e)))
        (λ (q : j < n). t.each j q s)
        (eq-or-lt_of_le (le_of_suc-le-suc l));
  }

  longer : length (ks ++ (n ∷ [])) ≡ suc (length ks)
  longer = length-append ks (n ∷ []) ∙ omega arith

  earlier : (k : ℕ) → k < length ks → get_or (ks ++ (n ∷ [])) k 0 ≡ get_or ks k 0
  earlier k l = get_or-append ks (n ∷ []) 0 k l

  last : (k : ℕ) → k ≡ length ks → get_or (ks ++ (n ∷ [])) k 0 ≡ n
  last k e = ap (λ i. get_or (ks ++ (n ∷ [])) i 0) (e ∙ omega arith) ∙ get_or-append-add ks (n ∷ []) 0 0

  place_of : (k : ℕ) → k < length (ks ++ (n ∷ [])) → (k ≡ length ks) ⊎ (k < length ks)
  place_of k l = eq-or-lt_of_le (omega (arith, longer))

  -- one that passes stands at the end
  listed_yes : f n ≡ true → Listed (suc n) f (ks ++ (n ∷ []))
  listed_yes e = record {
    low = λ k l. ⊎_elim
        (λ (q : k ≡ length ks). rw (last k q) here)
        (λ (q : k < length ks). rw (earlier k q) (up (t.low k q)))
        (place_of k l);
    passes = λ k l. ⊎_elim
        (λ (q : k ≡ length ks). rw (last k q) e)
        (λ (q : k < length ks). rw (earlier k q) (t.passes k q))
        (place_of k l);
    rising = λ i k h l. ⊎_elim
        (λ (q : k ≡ length ks).
        let l' : i < length ks = omega arith in rw (last k q, earlier i l') (t.low i l'))
        (λ (q : k < length ks).
        let l' : i < length ks = omega arith in rw (earlier k q, earlier i l') (t.rising i k h q))
        (place_of k l);
    each = λ j l s. ⊎_elim
        (λ (q : j ≡ n). (length ks, omega (arith, longer), last (length ks) refl ∙ sym q))
        (λ (q : j < n).
        let (k, l', p) = t.each j q s in (k, omega (arith, longer), earlier k l' ∙ p))
        (eq-or-lt_of_le (le_of_suc-le-suc l));
  }

pub listed : (n : ℕ) (f : ℕ → Bool) → Listed n f (passing n f)
unfolding passing joined
listed zero f = record {
  low = λ k l. absurd (not-suc-le-zero l);
  passes = λ k l. absurd (not-suc-le-zero l);
  rising = λ i k h l. absurd (not-suc-le-zero l);
  each = λ j l s. absurd (not-suc-le-zero l);
}
listed (suc n) f = ⊎_elim
    (λ (e : f n ≡ true). rw (passing_yes n f e) (listed_yes n f (passing n f) (listed n f) e))
    (λ (e : f n ≡ false). rw (passing_not n f e) (listed_not n f (passing n f) (listed n f) e))
    (decide (f n))

-- so that the list says which pass
pub same_passing :
    (n : ℕ) (f g : ℕ → Bool) → passing n f ≡ passing n g → (j : ℕ) → j < n → f j ≡ g j
same_passing n f g e j l = same_test (f j) (g j) (passed f g e) (passed g f (sym e))
  where
    passed : (f g : ℕ → Bool) → passing n f ≡ passing n g → f j ≡ true → g j ≡ true
    passed f g e s =
        let (k, h, q) = (rw e at (listed n f)).each j l s in rw q at ((listed n g).passes k h)

-- ---- the first that passes, and the others

-- j is the first below n that f passes, and g passes those after it
pub record First (n : ℕ) (f g : ℕ → Bool) (j : ℕ) : Type 0 where
  pub within : j < n
  pub passes : f j ≡ true
  pub below : (i : ℕ) → i < j → f i ≡ false
  pub gone : (i : ℕ) → i ≤ j → g i ≡ false
  pub kept : (i : ℕ) → j < i → i < n → g i ≡ f i

pub first_listed : (n : ℕ) (f g : ℕ → Bool) (j : ℕ) → First n f g j → j ∷ passing n g ≡ passing n f
first_listed zero f g j t = absurd (not-suc-le-zero t.within)
first_listed (suc n) f g j t = ⊎_elim
    (λ (e : j ≡ n). rw e (ap (λ ks. n ∷ ks) (passing_none (suc n) g (λ i l. t.gone i (omega arith)))
    ∙ sym (passing_yes n f (rw e at t.passes)
    ∙ ap (λ ks. ks ++ (n ∷ [])) (passing_none n f (λ i l. t.below i (omega arith))))))
    (λ (h : j < n).
    let same = t.kept n h here in
    let rest : j ∷ passing n g ≡ passing n f = first_listed n f g j (record {
      within = h;
      passes = t.passes;
      below = t.below;
      gone = t.gone;
      kept = λ i a b. t.kept i a (up b);
    }) in
    ⊎_elim
    (λ (e : f n ≡ true). rw (passing_yes n f e, passing_yes n g (same ∙ e)) (ap (λ ks. ks ++ (n ∷ [])) rest))
    (λ (e : f n ≡ false). rw (passing_not n f e, passing_not n g (same ∙ e)) rest)
    (decide (f n)))
    (eq-or-lt_of_le (le_of_suc-le-suc t.within))

pub listed_first : (n : ℕ) (f g : ℕ → Bool) (j : ℕ) → j ∷ passing n g ≡ passing n f → First n f g j
listed_first n f g j e = record {
  within = all.low 0 (omega arith);
  passes = all.passes 0 (omega arith);
  below = λ i h. ⊎_elim
      (λ (s : f i ≡ true). absurd (⊎_elim (λ (q : i ≡ j). omega arith) (λ (q : (j < i) × (g i ≡ true)). omega arith)
      (after i (omega (arith, all.low 0 (omega arith))) s)))
      (λ (s : f i ≡ false). s)
      (decide (f i));
  gone = λ i h. ⊎_elim
      (λ (s : g i ≡ true). absurd (omega (arith, (before i (omega (arith, all.low 0 (omega arith))) s).0)))
      (λ (s : g i ≡ false). s)
      (decide (g i));
  kept = λ i h l. same_test (g i) (f i) (λ s. (before i l s).1)
      (λ s. ⊎_elim (λ (q : i ≡ j). absurd (omega arith)) (λ (q : (j < i) × (g i ≡ true)). q.1) (after i l s));
}
  where
    all : Listed n f (j ∷ passing n g)
    all = rw e (listed n f)

    rest : Listed n g (passing n g)
    rest = listed n g

    before : (i : ℕ) → i < n → g i ≡ true → (j < i) × (f i ≡ true)
    before i l s =
        let (k, h, q) = rest.each i l s in
        (rw q at (all.rising 0 (suc k) (omega arith) (omega arith)), rw q at (all.passes (suc k) (omega arith)))

    after : (i : ℕ) → i < n → f i ≡ true → (i ≡ j) ⊎ ((j < i) × (g i ≡ true))
    after i l s = let (k, h, q) = all.each i l s in at k h q
      where
        at :
            (k : ℕ) → k < length (j ∷ passing n g) → get_or (j ∷ passing n g) k 0 ≡ i → (i ≡ j)
            ⊎ ((j < i) × (g i ≡ true))
        at zero h q = inl (sym q)
        at (suc k) h q =
            inr (rw q at (all.rising 0 (suc k) (omega arith) h), rw q at (rest.passes k (le_of_suc-le-suc h)))
