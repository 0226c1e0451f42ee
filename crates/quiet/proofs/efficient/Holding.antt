-- Seats that are given and taken keep what is known of the holders.
use Rattle.std.proofs.Common.{◌≡◌, ℕ, suc, ◌+◌, ◌<◌, ◌≤◌, true, false, ◌⊎◌, sym, refl, ap, ◌∙◌, inl, inr, ⊎_elim, arith}
use Rattle.model.specs.Counting.{◌=?◌, ◌and◌, only}
use Rattle.model.specs.market.Market.{Screened}
use Rattle.model.specs.market.Stable.{sooner}
use Rattle.model.proofs.Tests.{both, first, second, or_no, only_yes, only_no, only_le, le_only, is_eq, not_eq, eq_yes}
use Rattle.model.proofs.Tests.{eq_or_ne, lt_no, and_no, and_false, same_test}
use Rattle.model.proofs.Counting.{count_mono, count_strict, count_cong}
use Rattle.model.proofs.market.Truthful.{Keys}
use Rattle.quiet.specs.Efficient.{holders, holders_before, IsLast, Holding, takes, Seatable}
use Rattle.quiet.proofs.efficient.Order.{Put, put_count, sooner_trans, sooner_self, sooner_total}

-- 0 is no station's number
pub zero_is_no_station : (j : ℕ) → (0 =? suc j) ≡ false
zero_is_no_station j = not_eq 0 (suc j) (λ q. omega arith)

-- holders as one place changes: at station j, and those of them that stand before i there
module _ (S : Screened) {a a' : ℕ → ℕ} {x v : ℕ} (p : Put a x v a') (l : x < S.guest_count) where
  pub put_holders : (j : ℕ) → holders S a' j + only (a x =? suc j) 1 ≡ holders S a j + only (v =? suc j) 1
  unfolding holders
  put_holders j = put_count S.guest_count (λ k s. s =? suc j) p l

  pub put_before :
      (i j : ℕ)
      → holders_before S a' i j + only (a x =? suc j and sooner S x j i j) 1
      ≡ holders_before S a i j + only (v =? suc j and sooner S x j i j) 1
  unfolding holders_before
  put_before i j = put_count S.guest_count (λ k s. s =? suc j and sooner S k j i j) p l

-- who stands last stays so while the holders are the same
pub same_last :
    {S : Screened} {a a' : ℕ → ℕ} {j y : ℕ} → ((k : ℕ) → k < S.guest_count → a' k ≡ suc j → a k ≡ suc j)
    → a' y ≡ suc j → IsLast S a j y → IsLast S a' j y
same_last f h w = record { guest = w.guest; holds = h; last = λ k l e. w.last k l (f k l e) }

module _ (S : Screened) (K : Keys S.key S.guest_count) where
  -- all holders stand before whoever the last one stands before
  pub last_before :
      {a : ℕ → ℕ} {j y : ℕ} (i : ℕ) → IsLast S a j y → sooner S y j i j ≡ true → holders S a j ≤ holders_before S a i j
  unfolding holders holders_before
  last_before {a} {j} {y} i w e = count_mono S.guest_count _ _ (λ k lk p. both p (⊎_elim
      (λ (q : k ≡ y). rw q e)
      (λ (q : sooner S k j y j ≡ true). sooner_trans S j k y i q e)
      (w.last k lk (eq_yes _ _ p))))

  -- a station that would not take a guest without a seat refuses it for good
  pub not_taken_is_refused :
      {a held last : ℕ → ℕ} → Holding S a held last → (x j : ℕ) → x < S.guest_count → a x ≡ 0
      → j < S.station_count → takes S held last x j ≡ false → S.bays j ≤ holders_before S a x j
  unfolding takes
  not_taken_is_refused {a} {held} {last} h x j lx w lj e =
      let full : S.bays j ≤ held j = lt_no _ _ (or_no _ _ e).0 in
      let y = h.lasts j lj full in
      let differ : x ≡ last j → ⊥ = λ q. let z : ◌≡◌ {A = ℕ} 0 (suc j) = sym w ∙ ap a q ∙ y.holds in omega arith in
      omega (
        arith,
        h.counted j lj,
        last_before x y (sooner_total S K j x (last j) lx y.guest differ (or_no _ _ e).1),
      )

-- a' is a with guest x at station j; who held a bay elsewhere still does, and nobody else is new
pub record Reseated (a : ℕ → ℕ) (x j : ℕ) (a' : ℕ → ℕ) : Type 0 where
  pub new : (i l : ℕ) → a' i ≡ suc l → (a i ≡ suc l) ⊎ ((i ≡ x) × (l ≡ j))
  pub old : (i l : ℕ) → (l ≡ j → ⊥) → a i ≡ suc l → a' i ≡ suc l

-- a guest without a seat is nobody's holder
pub no_seat : (a : ℕ → ℕ) {x i l : ℕ} → a x ≡ 0 → a i ≡ suc l → i ≡ x → ⊥
no_seat a {x} {i} {l} w e q = let z : ◌≡◌ {A = ℕ} 0 (suc l) = sym w ∙ ap a (sym q) ∙ e in omega arith

pub filled : {a a' : ℕ → ℕ} {x j : ℕ} → a x ≡ 0 → Put a x (suc j) a' → Reseated a x j a'
filled {a} {a'} {x} {j} w p = record {
  new = λ i l e. ⊎_elim
      (λ (q : i ≡ x). inr (q, let z : suc l ≡ suc j = sym e ∙ ap a' q ∙ p.placed in omega arith))
      (λ (q : i ≡ x → ⊥). inl (sym (p.kept i q) ∙ e))
      (eq_or_ne i x);
  old = λ i l _ e. p.kept i (no_seat a w e) ∙ e;
}

pub replaced :
    {a a₁ a' : ℕ → ℕ} {x y j : ℕ} → a x ≡ 0 → a y ≡ suc j → Put a y 0 a₁ → Put a₁ x (suc j) a' → Reseated a x j a'
replaced {a} {a₁} {a'} {x} {y} {j} w h p₁ p = record {
  new = λ i l e. ⊎_elim
      (λ (q : i ≡ x). inr (q, let z : suc l ≡ suc j = sym e ∙ ap a' q ∙ p.placed in omega arith))
      (λ (q : i ≡ x → ⊥). let still : a₁ i ≡ suc l = sym (p.kept i q) ∙ e in
      inl (sym (p₁.kept i (no_seat a₁ p₁.placed still)) ∙ still))
      (eq_or_ne i x);
  old = λ i l ne e. p.kept i (no_seat a w e)
      ∙ p₁.kept i (λ q. ne (let z : suc l ≡ suc j = sym e ∙ ap a q ∙ h in omega arith)) ∙ e;
}

module _ {S : Screened} {a a' held last : ℕ → ℕ} {x j : ℕ} (h : Holding S a held last)
    (s : Seatable S a x j) (r : Reseated a x j a') where
  other_holders : (l : ℕ) → (l ≡ j → ⊥) → holders S a l ≡ holders S a' l
  unfolding holders
  other_holders l ne = count_cong S.guest_count _ _ (λ k _. same_test _ _
      (λ p. is_eq _ _ (r.old k l ne (eq_yes _ _ p)))
      (λ p. is_eq _ _ (⊎_elim (λ e. e) (λ (_, q). absurd (ne q)) (r.new k l (eq_yes _ _ p)))))

  -- where the count of station j and its last holder are right, so is all that is known
  pub holding_after :
      (held' last' : ℕ → ℕ) → held' j ≡ holders S a' j → held' j ≤ S.bays j
      → ((l : ℕ) → (l ≡ j → ⊥) → held' l ≡ held l)
      → ((l : ℕ) → l < S.station_count → (l ≡ j → ⊥) → last' l ≡ last l)
      → (S.bays j ≤ held' j → IsLast S a' j (last' j))
      → Holding S a' held' last'
  holding_after held' last' c f hk lk w = record {
    candidates = λ i l li e. ⊎_elim
        (λ (o : a i ≡ suc l). h.candidates i l li o)
        (λ (i_is, l_is). rw (i_is, l_is) (s.station, s.candidate))
        (r.new i l e);
    counted = λ l ll. ⊎_elim
        (λ (e : l ≡ j). rw e c)
        (λ (ne : l ≡ j → ⊥). hk l ne ∙ h.counted l ll ∙ other_holders l ne)
        (eq_or_ne l j);
    fits = λ l ll. ⊎_elim
        (λ (e : l ≡ j). rw e f)
        (λ (ne : l ≡ j → ⊥). rw (hk l ne) (h.fits l ll))
        (eq_or_ne l j);
    lasts = λ l ll full. ⊎_elim
        (λ (e : l ≡ j). rw e (w (rw e at full)))
        (λ (ne : l ≡ j → ⊥).
        let y = h.lasts l ll (rw (hk l ne) at full) in
        rw (lk l ll ne) (same_last
        (λ k _ q. ⊎_elim (λ o. o) (λ (_, z). absurd (ne z)) (r.new k l q)) (r.old (last l) l ne y.holds) y))
        (eq_or_ne l j);
  }

-- the count of station j after a bay is filled, or its holder replaced
module _ (S : Screened) {a a' : ℕ → ℕ} {x j : ℕ} (s : Seatable S a x j) where
  pub one_holder_more : Put a x (suc j) a' → holders S a' j ≡ holders S a j + 1
  one_holder_more p =
      omega (
        arith,
        put_holders S p s.guest j,
        only_yes (suc j =? suc j) 1 (is_eq (suc j) (suc j) refl),
        only_no (a x =? suc j) 1 (rw s.waits (zero_is_no_station j)),
      )

  module _ {a₁ : ℕ → ℕ} {y : ℕ} (w : IsLast S a j y) (p₁ : Put a y 0 a₁) (p : Put a₁ x (suc j) a') where
    differ : x ≡ y → ⊥
    differ q = no_seat a s.waits w.holds (sym q)

    still_waits : a₁ x ≡ 0
    still_waits = p₁.kept x differ ∙ s.waits

    pub as_many_holders : holders S a' j ≡ holders S a j
    as_many_holders =
        omega (
          arith,
          put_holders S p₁ w.guest j,
          only_yes (a y =? suc j) 1 (is_eq _ _ w.holds),
          only_no (0 =? suc j) 1 (zero_is_no_station j),
          put_holders S p s.guest j,
          only_yes (suc j =? suc j) 1 (is_eq (suc j) (suc j) refl),
          only_no (a₁ x =? suc j) 1 (rw still_waits (zero_is_no_station j)),
        )

    pub replaced_no_fewer :
        sooner S x j y j ≡ true → (i l : ℕ) → holders_before S a i l ≤ holders_before S a' i l
    replaced_no_fewer t i l =
        omega (
          arith,
          put_before S p₁ w.guest i l,
          only_no (0 =? suc l and sooner S y l i l) 1 (and_no _ _ (zero_is_no_station l)),
          put_before S p s.guest i l,
          only_no (a₁ x =? suc l and sooner S x l i l) 1 (and_no _ _ (rw still_waits (zero_is_no_station l))),
          only_le (a y =? suc l and sooner S y l i l) 1 (only (suc j =? suc l and sooner S x l i l) 1) (λ q.
              let number : suc j ≡ suc l = sym w.holds ∙ eq_yes _ _ (first _ _ q) in
              let l_is : j ≡ l = omega arith in
              le_only _ _ (both (is_eq _ _ number)
              (sooner_trans S l x y i (rw l_is at t) (second _ _ q)))),
        )

    -- all holders now stand before the one put out
    pub all_before : sooner S x j y j ≡ true → holders S a' j ≤ holders_before S a' y j
    unfolding holders holders_before
    all_before t = count_mono S.guest_count _ _ (λ k lk q. both q (⊎_elim
        (λ (o : a k ≡ suc j). ⊎_elim
        (λ (z : k ≡ y).
        absurd (no_seat a' (p.kept y (λ e. differ (sym e)) ∙ p₁.placed) (eq_yes _ _ q) z))
        (λ z. z)
        (w.last k lk o))
        (λ (k_is, _). rw k_is t)
        ((replaced s.waits w.holds p₁ p).new k j (eq_yes _ _ q))))

-- fewer than all holders stand before the last one
pub last_not_before : (S : Screened) {a : ℕ → ℕ} {j y : ℕ} → IsLast S a j y → holders_before S a y j < holders S a j
unfolding holders holders_before
last_not_before S {a} {j} {y} w = count_strict S.guest_count _ _ (λ k _ q. first _ _ q) y w.guest
    (ap (λ b. a y =? suc j and b) (sooner_self S j y) ∙ and_false _) (is_eq _ _ w.holds)

pub filled_no_fewer :
    (S : Screened) {a a' : ℕ → ℕ} {x j : ℕ} → Seatable S a x j → Put a x (suc j) a'
    → (i l : ℕ) → holders_before S a i l ≤ holders_before S a' i l
filled_no_fewer S {a} {a'} {x} s p i l =
    omega (
      arith,
      put_before S p s.guest i l,
      only_no (a x =? suc l and sooner S x l i l) 1 (and_no _ _ (rw s.waits (zero_is_no_station l))),
    )
