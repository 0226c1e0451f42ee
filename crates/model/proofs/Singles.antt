-- Laws of a list that is joined from lists of one, and of a loop that writes such a list in place after place.
use Prim.Native.Nat.{ℕ, zero, suc, ◌+◌, ◌≤◌, ◌<◌}
use mathlib.Core.List.{List, [], ◌∷◌, ◌++◌}
use mathlib.Core.Logic.{⊎_elim}
use mathlib.Core.Path.{◌≡◌, refl, sym, ap, ◌∙◌}
use native.Mathlib.Nat.{eq-or-lt_of_le, not-suc-le-zero, le_of_suc-le-suc}
use native.Mathlib.Omega.{arith}
use lib.ListN.{get_or, length, set, length-append, length-set, get_or-append}
use lib.Seq.{get_or-append-add, get_or-set_same, get_or-set_other, ext_get_or}
use borrow.Author.Count.{below_more}
use Rattle.model.specs.Counting.{joined}

module _ {A : Type 0} (f : ℕ → A) where
  abbrev pub singles : ℕ → List A
  singles k = joined k (λ r. f r ∷ [])

  pub singles_long : (k : ℕ) → length (singles k) ≡ k
  unfolding joined
  singles_long zero = refl
  singles_long (suc k) = omega (arith, length-append (singles k) (f k ∷ []), singles_long k)

  pub singles_at : (k r : ℕ) (d : A) → r < k → get_or (singles k) r d ≡ f r
  unfolding joined
  singles_at zero r d l = absurd (not-suc-le-zero l)
  singles_at (suc k) r d l = ⊎_elim
      (λ (e : r ≡ k). rw e
      (ap (λ z. get_or (singles k ++ (f k ∷ [])) z d)
      (let z : k ≡ length (singles k) + 0 = omega (arith, singles_long k) in z)
      ∙ get_or-append-add (singles k) (f k ∷ []) 0 d))
      (λ (h : r < k). get_or-append (singles k) (f k ∷ []) d r (omega (arith, singles_long k)) ∙ singles_at k r d h)
      (eq-or-lt_of_le (le_of_suc-le-suc l))

-- ---- a loop that stores f k at k, in a list of n

pub record Storing {A : Type 0} (d : A) (n : ℕ) (f : ℕ → A) (l : List A) (k : ℕ) : Type 0 where
  pub within : k ≤ n
  pub long : length l ≡ n
  pub done : (r : ℕ) → r < k → get_or l r d ≡ f r

module _ {A : Type 0} {d : A} {n : ℕ} {f : ℕ → A} {l : List A} where
  pub storing_turn : {k : ℕ} {v : A} → Storing d n f l k → k < n → v ≡ f k → Storing d n f (set l k v) (k + 1)
  storing_turn {k} {v} s h e = record {
    within = omega arith;
    long = length-set l k v ∙ s.long;
    done = below_more (λ r. get_or (set l k v) r d ≡ f r) k
        (λ r lr. get_or-set_other l k r v d (omega arith) ∙ s.done r lr)
        (get_or-set_same l k v d (omega (arith, s.long)) ∙ e);
  }

  pub storing_end : {k : ℕ} → Storing d n f l k → n ≤ k → l ≡ singles f n
  storing_end s h =
      ext_get_or d l (singles f n) (s.long ∙ sym (singles_long f n))
      (λ r lr. s.done r (omega (arith, s.long)) ∙ sym (singles_at f n r d (omega (arith, s.long))))
