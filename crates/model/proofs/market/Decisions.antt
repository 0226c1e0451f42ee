-- What holds of every decision that assigns only candidates, whichever mechanism made it.
use Prim.Native.Nat.{ℕ, zero, suc, ◌+◌, ◌*◌, ◌-◌, ◌≤◌, ◌<◌, max}
use mathlib.Core.Bool.{true, false}
use mathlib.Core.Logic.{⊎_elim}
use mathlib.Core.Path.{◌≡◌, refl, sym, ap, ◌∙◌}
use native.Mathlib.Nat.{mul-le-mul_right}
use native.Mathlib.Omega.{arith}
use Rattle.model.specs.Counting.{◌=?◌, only, sum, list}
use Rattle.model.specs.market.Market.{Market, cut, opens, Screened, screen}
use Rattle.model.specs.market.Mechanism.{Decision, at, charge, charged, served, sold, paid, margin}
use Rattle.model.specs.market.Outcome.{outcome_by}
use Rattle.model.proofs.Tests.{decide, clash, first, second, lt_yes, le_yes, is_eq, not_eq, only_yes, only_no}
use Rattle.model.proofs.Counting.{sum_zero, sum_cong, sum_add, sum_scale, sum_single, sum_swap, list_cong}

-- only candidates are assigned
abbrev pub Candidates : Screened → Decision → Type 0
Candidates S D =
    (i j : ℕ) → i < S.guest_count → D.assigned i ≡ suc j → (j < S.station_count) × (S.candidate i j ≡ true)

-- and no more than a station has bays, each at a total no lower than the critical total
pub record Fair (S : Screened) (D : Decision) : Type 0 where
  pub candidates : Candidates S D
  pub fits : (j : ℕ) → served S D j ≤ S.bays j
  pub under : (i j : ℕ) → i < S.guest_count → D.assigned i ≡ suc j → D.critical j ≤ S.total i j

module _ (S : Screened) (D : Decision) (C : Candidates S D) where
  -- what station j sells to guest i
  part : ℕ → ℕ → ℕ
  part i j = only (D.assigned i =? suc j) (S.amount i)

  -- a guest's charge is the cut for its kWh, which one station sells, and its part of the margin
  charge_parts :
      (i : ℕ) → i < S.guest_count
      → charged S D i
      ≡ S.cut * sum S.station_count (part i) + at (λ j. charge S D i j - S.cut * S.amount i) (D.assigned i)
  unfolding charged charge at part
  charge_parts i li = go (D.assigned i) refl
    where
      go :
          (r : ℕ) → D.assigned i ≡ r
          → at (charge S D i) r
          ≡ S.cut * sum S.station_count (λ j. only (r =? suc j) (S.amount i))
          + at (λ j. charge S D i j - S.cut * S.amount i) r
      go zero e =
          rw (sum_zero S.station_count _ (λ j lj. only_no _ _ (not_eq 0 (suc j) (λ q. omega arith)))) (omega arith)
      go (suc k) e =
          rw (
            sum_single S.station_count _ k (C i k li e).0
                (λ j lj n. only_no _ _ (not_eq (suc k) (suc j) (λ q. n (omega arith)))),
            only_yes _ (S.amount i) (is_eq (suc k) (suc k) refl),
          ) (omega arith)

  -- the charges are the payments and the margin
  pub balance : sum S.guest_count (charged S D) ≡ sum S.station_count (paid S D) + margin S D
  unfolding paid sold margin part
  balance =
      let payments : sum S.station_count (paid S D)
      ≡ sum S.guest_count (λ i. S.cut * sum S.station_count (part i)) =
      sum_scale S.station_count S.cut (sold S D)
      ∙ ap (λ x. S.cut * x) (sym (sum_swap S.guest_count S.station_count part))
      ∙ sym (sum_scale S.guest_count S.cut (λ i. sum S.station_count (part i))) in
      sum_cong S.guest_count _ _ charge_parts ∙ sum_add S.guest_count _ _ ∙ ap (λ x. x + margin S D) (sym payments)

pub candidate_open : (M : Market) (i j : ℕ) → (screen M).candidate i j ≡ true → opens M j ≡ true
unfolding screen
candidate_open M i j c = first _ _ c

pub candidate_bid : (M : Market) (i j : ℕ) → (screen M).candidate i j ≡ true → cut M ≤ M.bid i j
unfolding screen
candidate_bid M i j c = le_yes _ _ (second _ _ c)

module _ (M : Market) (D : Decision) (C : Candidates (screen M) D) where
  -- a station that is not open sells nothing
  pub closed_sells_nothing : (j : ℕ) → opens M j ≡ false → sold (screen M) D j ≡ 0
  unfolding sold screen
  closed_sells_nothing j o =
      sum_zero M.guest_count _
      (λ i li. only_no _ _ (not_eq _ _ (λ e. clash (candidate_open M i j (C i j li e).1) o)))

  -- a station is paid at least what it asks for what it sold
  pub payment_covers_ask : (j : ℕ) → M.ask j * sold (screen M) D j ≤ paid (screen M) D j
  unfolding paid opens screen
  payment_covers_ask j = ⊎_elim
      (λ (o : opens M j ≡ true). mul-le-mul_right (sold (screen M) D j)
      (let l : M.ask j < cut M = lt_yes _ _ o in omega arith))
      (λ (o : opens M j ≡ false). rw (closed_sells_nothing j o) (omega arith))
      (decide (opens M j))

-- no guest is charged more than its bid comes to
pub charged_within_bid :
    (M : Market) (D : Decision) → Fair (screen M) D → (i j : ℕ) → i < M.guest_count → D.assigned i ≡ suc j
    → charged (screen M) D i ≤ M.bid i j * M.amount i
unfolding charged at charge screen
charged_within_bid M D F i j li e =
    rw e
    (omega (arith, mul-le-mul_right (M.amount i) (candidate_bid M i j (F.candidates i j li e).1), F.under i j li e))

-- two decisions that assign alike, with the same critical totals where they assign, come to the same
module _ (S : Screened) (D E : Decision) (same : (i : ℕ) → i < S.guest_count → D.assigned i ≡ E.assigned i)
    (level : (i j : ℕ) → i < S.guest_count → D.assigned i ≡ suc j → D.critical j ≡ E.critical j) where
  same_at : (f g : ℕ → ℕ) (i : ℕ) → i < S.guest_count → ((j : ℕ) → D.assigned i ≡ suc j → f j ≡ g j)
      → at f (D.assigned i) ≡ at g (E.assigned i)
  unfolding at
  same_at f g i li h = rw (← same i li) (go (D.assigned i) refl)
    where
      go : (s : ℕ) → D.assigned i ≡ s → at f s ≡ at g s
      go zero e = refl
      go (suc j) e = h j e

  same_charge : (i j : ℕ) → i < S.guest_count → D.assigned i ≡ suc j → charge S D i j ≡ charge S E i j
  unfolding charge
  same_charge i j li e = ap (max (S.cut * S.amount i)) (level i j li e)

  same_sold : (j : ℕ) → sold S D j ≡ sold S E j
  unfolding sold
  same_sold j = sum_cong S.guest_count _ _ (λ i li. ap (λ s. only (s =? suc j) (S.amount i)) (same i li))

  pub outcome_same : outcome_by S D ≡ outcome_by S E
  unfolding outcome_by charged paid margin
  outcome_same =
      let margins : margin S D ≡ margin S E = sum_cong S.guest_count _ _ (λ i li.
      same_at _ _ i li (λ j e. ap (λ x. x - S.cut * S.amount i) (same_charge i j li e))) in
      let stations : list S.guest_count D.assigned ≡ list S.guest_count E.assigned =
      list_cong S.guest_count _ _ same in
      let charges : list S.guest_count (charged S D) ≡ list S.guest_count (charged S E) =
      list_cong S.guest_count _ _ (λ i li. same_at _ _ i li (λ j e. same_charge i j li e)) in
      let sales : list S.station_count (sold S D) ≡ list S.station_count (sold S E) =
      list_cong S.station_count _ _ (λ j lj. same_sold j) in
      let payments : list S.station_count (paid S D) ≡ list S.station_count (paid S E) =
      list_cong S.station_count _ _ (λ j lj. ap (λ x. S.cut * x) (same_sold j)) in
      λ x. record {
        cut = S.cut;
        margin = margins x;
        results = record { stations = stations x; charges = charges x; sold = sales x; paid = payments x };
      }
