-- Laws of writing into a buffer: nothing, one byte, one text after another, and the whole.
use Prim.Native.Nat.{ℕ, zero, suc, ◌+◌, ◌-◌, ◌<◌, ◌≤◌, min}
use mathlib.Core.List.{List, [], ◌∷◌, ◌++◌}
use mathlib.Core.Logic.{⊎_elim}
use mathlib.Core.Path.{◌≡◌, refl, sym, ap, ap₂, ◌∙◌}
use native.Mathlib.Nat.{zero-add, min-eq_left, min-eq_right, le_antisymm, le_of_suc-le-suc, eq-or-lt_of_le}
use native.Mathlib.Numerals.{add-one}
use native.Mathlib.Omega.{arith}
use lib.ListN.{get_or, length, set, take, drop, length-set, length-append, length-take, length-drop, get_or-append}
use lib.ListN.{drop_of_length-le}
use lib.Seq.{take_all, take-suc, get_or-set_same, get_or-set_other, get_or-append-add, get_or-take, get_or-drop}
use lib.Seq.{ext_get_or, paste}
use Rattle.model.specs.Counting.{joined}
use Rattle.model.proofs.Tests.{lt_or_le}
use Rattle.sheet.specs.Wrote.{Wrote}

pub wrote_none : (l : List ℕ) (p : ℕ) → Wrote l p [] l p
wrote_none l p =
    record
    { same = refl; here = λ k a b. absurd (omega arith); low = λ k a. refl; high = λ k a. refl; next = omega arith }

pub wrote_byte : (l : List ℕ) (p b : ℕ) → p < length l → Wrote l p (b ∷ []) (set l p b) (p + 1)
wrote_byte l p b h = record {
  same = length-set l p b;
  here = λ k a c.
      let e : k ≡ 0 = omega arith in
      let z : p + 0 ≡ p = omega arith in
      rw e (rw z (get_or-set_same l p b 0 h));
  low = λ k a. get_or-set_other l p k b 0 (λ e. omega arith);
  high = λ k a. get_or-set_other l p k b 0 (λ e. omega arith);
  next = refl;
}

pub wrote_past : (l : List ℕ) (p b : ℕ) → length l ≤ p → Wrote l p (b ∷ []) l (p + 1)
wrote_past l p b h =
    record { same = refl; here = λ k a c. absurd (omega arith); low = λ k a. refl; high = λ k a. refl; next = refl }

-- one text after another
pub wrote_then : {l l' l'' t u : List ℕ} {p q r : ℕ} → Wrote l p t l' q → Wrote l' q u l'' r → Wrote l p (t ++ u) l'' r
wrote_then {l} {l'} {l''} {t} {u} {p} {q} {r} a b = record {
  same = b.same ∙ a.same;
  here = λ k lk h. ⊎_elim
      (λ (c : k < length t). b.low (p + k) (omega (arith, a.next)) ∙ a.here k c h ∙ sym (get_or-append t u 0 k c))
      (λ (c : length t ≤ k).
      let e : p + k ≡ q + (k - length t) = omega (arith, a.next) in
      let f : length t + (k - length t) ≡ k = omega arith in
      rw e (b.here (k - length t) (omega (arith, length-append t u)) (omega (arith, a.same))
      ∙ sym (get_or-append-add t u (k - length t) 0) ∙ ap (λ x. get_or (t ++ u) x 0) f))
      (lt_or_le k (length t));
  low = λ k c. b.low k (omega (arith, a.next)) ∙ a.low k c;
  high = λ k c. b.high k (omega (arith, a.next, length-append t u)) ∙ a.high k (omega (arith, length-append t u));
  next = omega (arith, a.next, b.next, length-append t u);
}

-- where both have room, each has
pub room_for_first : (t u : List ℕ) (p : ℕ) {n : ℕ} → p + length (t ++ u) ≤ n → p + length t ≤ n
room_for_first t u p h = omega (arith, length-append t u)

pub room_for_second :
    {l l' t : List ℕ} (u : List ℕ) {p q : ℕ} → Wrote l p t l' q → p + length (t ++ u) ≤ length l
    → q + length u ≤ length l'
room_for_second {t = t} u w h = omega (arith, w.same, w.next, length-append t u)

pub wrote_none_joined : (f : ℕ → List ℕ) (l : List ℕ) (p : ℕ) → Wrote l p (joined 0 f) l p
unfolding joined
wrote_none_joined f l p = wrote_none l p

-- the first k of n lists, written one after the other
pub record Listing (n : ℕ) (f : ℕ → List ℕ) (l : List ℕ) (p k : ℕ) (l' : List ℕ) (q : ℕ) : Type 0 where
  pub within : k ≤ n
  pub wrote : Wrote l p (joined k f) l' q

module _ {n : ℕ} {f : ℕ → List ℕ} {l : List ℕ} {p : ℕ} where
  pub listing_none : Listing n f l p 0 l p
  listing_none = record { within = omega arith; wrote = wrote_none_joined f l p }

  pub listing_more :
      {l' l'' : List ℕ} {q r k : ℕ} → Listing n f l p k l' q → k < n → Wrote l' q (f k) l'' r
      → Listing n f l p (k + 1) l'' r
  unfolding joined
  listing_more a h w = record { within = omega arith; wrote = rw add-one (wrote_then a.wrote w) }

  pub listing_end : {l' : List ℕ} {q k : ℕ} → Listing n f l p k l' q → n ≤ k → Wrote l p (joined n f) l' q
  listing_end a h = rw (le_antisymm h a.within) a.wrote

-- where all of them have room, the next one has
pub joined_up : (f : ℕ → List ℕ) (n k : ℕ) → k ≤ n → length (joined k f) ≤ length (joined n f)
unfolding joined
joined_up f zero k h = let e : k ≡ 0 = omega arith in rw e (omega arith)
joined_up f (suc n) k h = ⊎_elim
    (λ (e : k ≡ suc n). rw e (omega arith))
    (λ (l : k < suc n). omega (arith, joined_up f n k (le_of_suc-le-suc l), length-append (joined n f) (f n)))
    (eq-or-lt_of_le h)

pub room_for_next :
    (f : ℕ → List ℕ) {l l' : List ℕ} {p q k n : ℕ} → Listing n f l p k l' q → k < n
    → p + length (joined n f) ≤ length l → q + length (f k) ≤ length l'
unfolding joined
room_for_next f {l} {l'} {p} {q} {k} {n} a h room =
    omega (arith, a.wrote.same, a.wrote.next, joined_up f n (suc k) h, length-append (joined k f) (f k))

-- a word, byte by byte
pub wrote_next :
    {l l' l'' : List ℕ} (w : List ℕ) {p q r : ℕ} (k : ℕ) → Wrote l p (take k w) l' q → k < length w
    → Wrote l' q (get_or w k 0 ∷ []) l'' r → Wrote l p (take (k + 1) w) l'' r
wrote_next w k a h b = rw (add-one, take-suc w k 0 h) (wrote_then a b)

pub wrote_word :
    {l l' : List ℕ} (w : List ℕ) {p q : ℕ} (k : ℕ) → Wrote l p (take k w) l' q → length w ≤ k → Wrote l p w l' q
wrote_word w k a h = rw (take_all k w h) at a

-- the whole text from the start
wrote_over : (l t l' : List ℕ) (q : ℕ) → Wrote l 0 t l' q → l' ≡ take (length l) t ++ drop (length t) l
wrote_over l t l' q w = ext_get_or 0 l' _ (w.same ∙ sym long) at
  where
    long : length (take (length l) t ++ drop (length t) l) ≡ length l
    long =
        omega (
          arith,
          length-append (take (length l) t) (drop (length t) l),
          length-take (length l) t,
          length-drop (length t) l,
        )

    at : (i : ℕ) → i < length l' → get_or l' i 0 ≡ get_or (take (length l) t ++ drop (length t) l) i 0
    at i h = ⊎_elim
        (λ (c : i < length t).
        let z : 0 + i ≡ i = omega arith in
        let e : get_or l' (0 + i) 0 ≡ get_or t i 0 = w.here i c (omega (arith, w.same)) in
        ap (λ x. get_or l' x 0) (sym z) ∙ e ∙ sym (get_or-take (length l) t i 0 (omega (arith, w.same)))
        ∙ sym (get_or-append (take (length l) t) (drop (length t) l) 0 i
        (omega (arith, w.same, length-take (length l) t))))
        (λ (c : length t ≤ i).
        let m : length (take (length l) t) ≡ length t = omega (arith, w.same, length-take (length l) t) in
        let f : length (take (length l) t) + (i - length t) ≡ i = omega arith in
        let g : length t + (i - length t) ≡ i = omega arith in
        w.high i (omega arith) ∙ ap (λ x. get_or l x 0) (sym g) ∙ sym (get_or-drop (length t) l (i - length t) 0)
        ∙ sym (get_or-append-add (take (length l) t) (drop (length t) l) (i - length t) 0)
        ∙ ap (λ x. get_or (take (length l) t ++ drop (length t) l) x 0) f)
        (lt_or_le i (length t))

-- by the kit's `paste`, as far as the buffer reaches
reaches : (l t : List ℕ) → take (length l) t ++ drop (length t) l ≡ paste l 0 t (min (length t) (length l))
reaches l t = ⊎_elim longer shorter (lt_or_le (length l) (length t))
  where
    longer : length l < length t → take (length l) t ++ drop (length t) l ≡ paste l 0 t (min (length t) (length l))
    longer g =
        let h : length l ≤ length t = omega arith in
        let all : length l ≤ 0 + min (length t) (length l) = omega (arith, min-eq_right h) in
        ap₂ ◌++◌ (ap (λ n. take n t) (sym (min-eq_right h)))
        (drop_of_length-le l h ∙ sym (drop_of_length-le l all))

    shorter : length t ≤ length l → take (length l) t ++ drop (length t) l ≡ paste l 0 t (min (length t) (length l))
    shorter h =
        let all : length t ≤ min (length t) (length l) = omega (arith, min-eq_left h) in
        ap₂ ◌++◌ (take_all (length l) t h ∙ sym (take_all _ t all))
        (ap (λ n. drop n l) (sym (zero-add _ ∙ min-eq_left h)))

pub wrote_all :
    (l t l' : List ℕ) (q : ℕ) → Wrote l 0 t l' q → l' ≡ paste l 0 t (min (length t) (length l))
wrote_all l t l' q w = wrote_over l t l' q w ∙ reaches l t

-- and where the buffer has room for it
pub wrote_whole :
    (l t l' : List ℕ) (q : ℕ) → Wrote l 0 t l' q → length t ≤ length l → l' ≡ paste l 0 t (length t)
wrote_whole l t l' q w h = wrote_all l t l' q w ∙ ap (paste l 0 t) (min-eq_left h)
