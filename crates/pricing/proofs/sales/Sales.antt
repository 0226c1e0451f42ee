-- Laws of sales by station number: what the first i guests take.
use Prim.Native.Nat.{ℕ, zero, suc, ◌+◌, ◌*◌, ◌%◌, ◌≤◌, ◌<◌}
use mathlib.Core.List.{List}
use mathlib.Core.Logic.{⊎_elim}
use mathlib.Core.Path.{◌≡◌, refl, sym, ap, ◌∙◌}
use native.Mathlib.Nat.{add-zero}
use native.Mathlib.Omega.{arith}
use lib.ListN.{get_or, length, set, length-set}
use lib.Seq.{get_or-set_same, get_or-set_other}
use Rattle.model.specs.Limits.{max_stations, max_amount}
use Rattle.model.specs.Counting.{◌=?◌, only, sum, list}
use Rattle.model.proofs.Tests.{only_yes, only_no, only_le, is_eq, not_eq, eq_or_ne}
use Rattle.model.proofs.Counting.{sum_cong, length_list, get_d_list, list_cong}
use Rattle.model.proofs.Loops.{Folded, folded_end, sum_none, sum_turn, sum_low, is_list, element}
use Rattle.pricing.specs.Sales.{kwh_at, slots, slot_of, kwh_in, PaidOut}

-- a station number keeps its place, and nobody else has it
pub slot_some : (s i : ℕ) → 0 < s → s ≡ slot_of s i
unfolding slot_of
slot_some zero i l = absurd (omega arith)
slot_some (suc s) i l = refl

pub slot_none : (s i : ℕ) → s ≤ 0 → max_stations + 1 + i % 4 ≡ slot_of s i
unfolding slot_of
slot_none zero i l = refl
slot_none (suc s) i l = absurd (omega arith)

own_slot : (s i p : ℕ) → 0 < p → p ≤ max_stations → (slot_of s i =? p) ≡ (s =? p)
unfolding slot_of
own_slot zero i p a b = not_eq _ _ (λ e. omega arith) ∙ sym (not_eq _ _ (λ e. omega arith))
own_slot (suc s) i p a b = refl

pub kwh_in_lem :
    (stations amounts : List ℕ) (s : ℕ) → 0 < s → s ≤ max_stations
    → kwh_in stations amounts s ≡ kwh_at stations amounts s
unfolding kwh_in kwh_at
kwh_in_lem stations amounts s p l =
    sum_cong (length amounts) _ _
    (λ k _. ap (λ b. only b (get_or amounts k 0)) (own_slot (get_or stations k 0) k s p l))

-- the table after the first i guests
pub record Tallying (stations amounts : List ℕ) (i : ℕ) (kwh : List ℕ) : Type 0 where
  pub within : i ≤ length amounts
  pub long : length kwh ≡ slots
  pub is :
      (p : ℕ) → p < slots
      → Folded sum (length amounts) (λ k. only (slot_of (get_or stations k 0) k =? p) (get_or amounts k 0))
      (get_or kwh p 0) i

pub tallied_none : {stations amounts kwh : List ℕ} → kwh ≡ list slots (λ _. 0) → Tallying stations amounts 0 kwh
tallied_none {kwh = kwh} e =
    record {
      within = omega arith;
      long = ap length e ∙ length_list slots (λ _. 0);
      is = λ p l. rw (ap (λ l. get_or l p 0) e ∙ get_d_list slots (λ _. 0) p l) sum_none;
    }

-- no place holds more than the greatest amount for each guest
pub tallied_low :
    {stations amounts : List ℕ} {i : ℕ} {kwh : List ℕ} (p : ℕ) → Tallying stations amounts i kwh → p < slots
    → ((k : ℕ) → k < length amounts → get_or amounts k 0 ≤ max_amount) → get_or kwh p 0 ≤ max_amount * i
tallied_low p h l low = sum_low max_amount (h.is p l) (λ k lk. only_le _ _ _ (λ _. low k lk))

-- guest i's kWh are added at its place r
pub tallied_more :
    {stations amounts : List ℕ} {i : ℕ} {kwh : List ℕ} {r v : ℕ}
    → Tallying stations amounts i kwh → i < length amounts → (r < slots) × (r ≡ slot_of (get_or stations i 0) i)
    → v ≡ get_or kwh r 0 + get_or amounts i 0
    → Tallying stations amounts (i + 1) (set kwh r v)
tallied_more {stations} {amounts} {i} {kwh} {r} {v} h li (l, e) q = record {
  within = omega arith;
  long = length-set kwh r v ∙ h.long;
  is = λ p lp. ⊎_elim
      (λ (z : p ≡ r). sum_turn (h.is p lp) li (sym (only_yes _ _ (is_eq _ _ (sym e ∙ sym z))))
      (ap (λ p. get_or (set kwh r v) p 0) z ∙ get_or-set_same kwh r v 0 (omega (arith, h.long)) ∙ q
      ∙ ap (λ x. get_or kwh x 0 + get_or amounts i 0) (sym z)))
      (λ (z : p ≡ r → ⊥). sum_turn {x = 0} (h.is p lp) li (sym (only_no _ _ (not_eq _ _ (λ y. z (sym y ∙ sym e)))))
      (get_or-set_other kwh r p v 0 z ∙ sym (add-zero _)))
      (eq_or_ne p r);
}

pub tallied_end :
    {stations amounts : List ℕ} {i : ℕ} {kwh : List ℕ} → Tallying stations amounts i kwh
    → length amounts ≤ i → kwh ≡ list slots (kwh_in stations amounts)
unfolding kwh_in
tallied_end h b = is_list slots _ _ h.long (λ p l. folded_end (h.is p l) b)

pub sells :
    (stations amounts : List ℕ) {cut m : ℕ} {kwh sold paid : List ℕ} → kwh ≡ list slots (kwh_in stations amounts)
    → m ≤ max_stations → PaidOut (λ s. get_or kwh s 0) cut m sold paid
    → PaidOut (kwh_at stations amounts) cut m sold paid
sells stations amounts {cut} {m} {kwh} t l h = record {
  sold_are = h.sold_are ∙ list_cong m _ _ here;
  paid_are = h.paid_are ∙ list_cong m _ _ (λ j lj. ap (λ x. cut * x) (here j lj));
}
  where
    here : (j : ℕ) → j < m → get_or kwh (j + 1) 0 ≡ kwh_at stations amounts (j + 1)
    here j lj = element slots _ t (j + 1) (omega arith)
        ∙ kwh_in_lem stations amounts (j + 1) (omega arith) (omega arith)
