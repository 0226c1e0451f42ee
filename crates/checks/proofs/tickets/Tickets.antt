-- Laws of the scans over tickets.
use Prim.Native.Nat.{zero, ℕ, suc, ◌+◌, ◌-◌, ◌≤◌, ◌<◌}
use mathlib.Core.Bool.{Bool, true, false, not, ◌||◌}
use mathlib.Core.List.{List}
use mathlib.Core.Logic.{⊎_elim}
use mathlib.Core.Path.{◌≡◌, refl, sym, ap, ◌∙◌}
use native.Mathlib.Omega.{arith}
use lib.Dec.{leb, eqb}
use lib.ListN.{get_or, length, set, take, drop, length-set, length-take, length-drop}
use lib.Seq.{get_or-set_same, get_or-set_other, get_or-take, get_or-drop}
use Rattle.std.specs.List.{zip}
use Rattle.std.proofs.lemmas.Slice.Zip.{length-zip, get_or-zip}
use borrow.Author.Count.{below_none, below_more}
use borrow.Author.Tests.{not-true}
use Rattle.model.specs.Counting.{◌≤?◌, ◌=?◌, some}
use Rattle.model.specs.market.Faults.{repeats}
use Rattle.model.proofs.Tests.{clash, le_no, not_eq, eq_or_ne}
use Rattle.model.proofs.Counting.{some_no, none_some, some_cong}
use Rattle.model.proofs.Loops.{Folded, folded_end, some_none, some_turn}
use Rattle.model.specs.claims.Meaning.{Differ}
use Rattle.model.proofs.market.Acceptance.{no_repeats}
use Rattle.checks.specs.Tickets.{falls_after, rising, stands_before, slots, slot}

-- ---- lists that rise

pub rising_empty : (xs : List ℕ) → length xs ≡ 0 → true ≡ rising xs
unfolding rising some
rising_empty xs e = rw e refl

-- each beside the next
pub rising_next :
    (xs : List ℕ) → let next = zip xs (drop 1 xs) in
    not (some (length next) (λ k. let p = get_or next k (0, 0) in leb p.1 p.0)) ≡ rising xs
unfolding rising falls_after ◌≤?◌
rising_next xs = ap not (rw long (some_cong (length xs - 1) _ _ (λ k l.
    let here : k < length xs = omega arith in
    let there : k < length (drop 1 xs) = omega (arith, length-drop 1 xs) in
    let next : 1 + k ≡ suc k = omega arith in
    rw (get_or-zip xs (drop 1 xs) k (0, 0) here there, get_or-drop 1 xs k 0, next) refl)))
  where
    long : length (zip xs (drop 1 xs)) ≡ length xs - 1
    long = omega (arith, length-zip xs (drop 1 xs), length-drop 1 xs)

-- a ticket further on is higher
pub rises : (xs : List ℕ) → rising xs ≡ true → (i k : ℕ) → i < k → k < length xs → get_or xs i 0 < get_or xs k 0
unfolding rising falls_after
rises xs r i k l lk = go k l lk
  where
    next : (k : ℕ) → k + 1 < length xs → get_or xs k 0 < get_or xs (suc k) 0
    next k lk = le_no _ _ (some_no (length xs - 1) (falls_after xs) (not-true _ r) k (omega arith))

    go : (k : ℕ) → i < k → k < length xs → get_or xs i 0 < get_or xs k 0
    go zero l lk = elim l [ ]
    go (suc k) l lk = ⊎_elim
        (λ (e : i ≡ k). rw e (next k (omega arith)))
        (λ (n : i ≡ k → ⊥). omega (arith, go k (omega arith) (omega arith), next k (omega arith)))
        (eq_or_ne i k)

pub rising_differ : (xs : List ℕ) → rising xs ≡ true → Differ xs
rising_differ xs r i k l lk e = omega (arith, rises xs r i k l lk)

pub rising_no_repeat : (xs : List ℕ) → rising xs ≡ true → false ≡ repeats xs
rising_no_repeat xs r = sym (no_repeats xs (rising_differ xs r))

-- ---- two that are the same

pub stands_among :
    (xs : List ℕ) (k : ℕ) → k < length xs
    → some (length (take k xs)) (λ i. eqb (get_or (take k xs) i 0) (get_or xs k 0)) ≡ stands_before xs k
unfolding stands_before ◌=?◌
stands_among xs k l =
    let long : length (take k xs) ≡ k = omega (arith, length-take k xs) in
    rw long
    (some_cong k _ _ (λ i h. ap (λ x. eqb x (get_or xs k 0)) (get_or-take k xs i 0 h)))

-- after k tickets: whether one of them stands before itself, and the table of the places that they take
pub record Scanned (xs : List ℕ) (seen : List Bool) (found : Bool) (k : ℕ) : Type 0 where
  pub scanned : Folded some (length xs) (stands_before xs) found k
  pub long : length seen ≡ slots
  pub seen_all : (i : ℕ) → i < k → get_or seen (slot (get_or xs i 0)) false ≡ true

pub scanned_none : {xs : List ℕ} {seen : List Bool} → length seen ≡ slots → Scanned xs seen false 0
scanned_none {xs} {seen} e = record {
  scanned = some_none;
  long = e;
  seen_all = below_none (λ i. get_or seen (slot (get_or xs i 0)) false ≡ true);
}

-- whoever's place is free stands nowhere before
pub unseen :
    {xs : List ℕ} {seen : List Bool} {found : Bool} {k s : ℕ} → Scanned xs seen found k → s ≡ slot (get_or xs k 0)
    → get_or seen s false ≡ false → stands_before xs k ≡ false
unfolding stands_before
unseen {xs} {seen} {k = k} {s} h q z =
    none_some k _ (λ i l. not_eq _ _ (λ e. clash (rw (q, ← e) (h.seen_all i l)) z))

pub scanned_turn :
    {xs : List ℕ} {seen : List Bool} {found again : Bool} {k s : ℕ} → Scanned xs seen found k → k < length xs
    → s ≡ slot (get_or xs k 0) → s < slots → again ≡ stands_before xs k
    → Scanned xs (set seen s true) (found || again) (k + 1)
scanned_turn {xs} {seen} {k = k} {s} h l q few e = record {
  scanned = some_turn h.scanned l e;
  long = length-set seen s true ∙ h.long;
  seen_all = below_more (λ i. get_or (set seen s true) (slot (get_or xs i 0)) false ≡ true) k
      (λ i li. ⊎_elim
      (λ (z : slot (get_or xs i 0) ≡ s). rw z here)
      (λ n. get_or-set_other seen s (slot (get_or xs i 0)) true false n ∙ h.seen_all i li)
      (eq_or_ne (slot (get_or xs i 0)) s))
      (rw (← q) here);
}
  where
    here : get_or (set seen s true) s false ≡ true
    here = get_or-set_same seen s true false (omega (arith, h.long))

pub scanned_end :
    {xs : List ℕ} {seen : List Bool} {found : Bool} {k : ℕ}
    → Scanned xs seen found k → length xs ≤ k → found ≡ repeats xs
unfolding repeats stands_before
scanned_end h l = folded_end h.scanned l
