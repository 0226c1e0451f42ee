-- Where a place is lost. The bar of a guest that holds a place is the total that stands before the first candidate
-- without one: the critical total where the guest has the lower key, and else one above it.
use Prim.Native.Nat.{ℕ, ◌*◌, ◌≤◌, ◌<◌, max}
use mathlib.Core.Bool.{true}
use mathlib.Core.Logic.{inl, inr, ⊎_elim}
use mathlib.Core.Path.{◌≡◌, sym, ap, ◌∙◌}
use native.Mathlib.Nat.{le_refl, le_antisymm, mul-pos, eq-or-lt_of_le}
use native.Mathlib.Omega.{arith}
use Rattle.model.specs.Counting.{◌<?◌, ◌≤?◌, ◌and◌, only}
use Rattle.model.specs.market.Market.{Market, cut, opens, screen, Queue, queue, before, rank, provisional}
use Rattle.model.specs.market.Market.{first_out, critical}
use Rattle.model.specs.market.Mechanism.{charge, truthful}
use Rattle.model.specs.market.Menus.{menu_of}
use Rattle.model.proofs.Tests.{only_le, le_only, only_no, lt_yes, le_yes, is_lt, not_lt, is_le, lt_or_le}
use Rattle.model.proofs.market.Queues.{Distinct, is_before, provisional_rank, rank_lt, first_out_lem}
use Rattle.model.proofs.market.FirstOut.{first_out_candidate, first_out_rank, some_first_out}
use Rattle.model.proofs.market.Pivots.{past, bar, left_out_candidate, past_le_bar, bar_le, bar_le_pivot}
use Rattle.model.proofs.market.Pivots.{left_out_rank, is_left_out_beside, critical_pivot, bar_is}
use Rattle.model.proofs.market.Decisions.{candidate_open}
use Rattle.model.proofs.market.Truthful.{Keys, candidate_held}
use Rattle.model.proofs.market.Menus.{menu_below, menu_near, rebid, menu_provisional}

-- ---- one station

-- whoever does not stand before k takes no more to stand before
past_order : (Q : Queue) (i l k : ℕ) → (before Q l k ≡ true → ⊥) → past Q i l ≤ past Q i k
unfolding past
past_order Q i l k n = ⊎_elim
    (λ (q : Q.total l < Q.total k). omega (arith, only_le (Q.key l <? Q.key i) 1 1 (λ _. le_refl 1)))
    (λ (q : Q.total k ≤ Q.total l). ⊎_elim
    (λ (e : Q.total k ≡ Q.total l). ⊎_elim
    (λ (u : Q.key l < Q.key k). absurd (n (is_before Q l k (inr (e, u)))))
    (λ (u : Q.key k ≤ Q.key l). omega (
      arith,
      only_le (Q.key l <? Q.key i) 1 (only (Q.key k <? Q.key i) 1) (λ p.
          le_only _ 1 (is_lt _ _ (omega (arith, lt_yes _ _ p)))),
    ))
    (lt_or_le (Q.key l) (Q.key k)))
    (λ (u : Q.total k < Q.total l). absurd (n (is_before Q l k (inl u))))
    (eq-or-lt_of_le q))
    (lt_or_le (Q.total l) (Q.total k))

-- i holds a place, and k is the first candidate without one
module _ (Q : Queue) (D : Distinct Q) (i : ℕ) (li : i < Q.guest_count) (h : provisional Q i ≡ true) (k : ℕ)
    (lk : k < Q.guest_count) (o : first_out Q k ≡ true) where
  rank_is : rank Q k ≡ Q.bays
  rank_is = first_out_rank Q k o

  bar_past : bar Q i ≡ past Q i k
  bar_past = le_antisymm
      (bar_le Q i _ (λ l ll e. past_order Q i l k (λ b.
      omega (arith, rank_is, left_out_rank Q D i li h l ll e, rank_lt Q l k ll (left_out_candidate Q i l e) b))))
      (past_le_bar Q i k lk (is_left_out_beside Q D i li h k (first_out_candidate Q k o) (omega (arith, rank_is))))

  bar_by_key : Q.key i < Q.key k → bar Q i ≤ critical Q
  unfolding past
  bar_by_key l =
      let later : Q.key i ≤ Q.key k = omega arith in
      omega (arith, bar_past, first_out_lem Q D k lk o, only_no (Q.key k <? Q.key i) 1 (not_lt _ _ later))

  key_by_bar : bar Q i ≤ critical Q → Q.key i < Q.key k
  unfolding past
  key_by_bar l = ⊎_elim
      (λ (q : Q.key k < Q.key i). absurd (omega (arith, bar_past, first_out_lem Q D k lk o, le_only _ 1 (is_lt _ _ q))))
      (λ (q : Q.key i ≤ Q.key k). ⊎_elim
      (λ (e : Q.key i ≡ Q.key k).
      let same : rank Q i ≡ rank Q k = ap (rank Q) (D i k li lk e) in
      absurd (omega (arith, rank_is, provisional_rank Q i h)))
      (λ s. s)
      (eq-or-lt_of_le q))
      (lt_or_le (Q.key k) (Q.key i))

-- ---- the market

-- guest i's charge at station j; with the bids b it keeps its place there
abbrev price : Market → (i j : ℕ) → ℕ
price M i j = charge (screen M) (truthful (screen M)) i j

abbrev Kept : Market → (b : ℕ → ℕ → ℕ) (i j : ℕ) → Type 0
Kept M b i j = provisional (queue (screen (rebid M b)) j) i ≡ true

-- i's key is lower than that of the first candidate without a place
abbrev Sooner : Market → (i j : ℕ) → Type 0
Sooner M i j = (k : ℕ) × (k < M.guest_count) × (first_out (queue (screen M) j) k ≡ true) × (M.key i < M.key k)

-- where the place is kept, by i's total with the bids b: above the charge, not below it, at the charge where the
-- critical total is lower, and where it is not exactly by the key
pub record Marks (M : Market) (b : ℕ → ℕ → ℕ) (i j : ℕ) : Type 0 where
  pub above : price M i j < b i j * M.amount i → Kept M b i j
  pub below : b i j * M.amount i < price M i j → Kept M b i j → ⊥
  pub over_critical : b i j * M.amount i ≡ price M i j → critical (queue (screen M) j) < price M i j → Kept M b i j
  pub kept_sooner :
      b i j * M.amount i ≡ price M i j → price M i j ≤ critical (queue (screen M) j) → Kept M b i j → Sooner M i j
  pub sooner_kept : b i j * M.amount i ≡ price M i j → Sooner M i j → Kept M b i j

-- guest i holds a place at station j, and the others' bids there stay
module _ (M : Market) (K : Keys M.key M.guest_count) (i : ℕ) (li : i < M.guest_count) (some : 1 ≤ M.amount i)
    (b : ℕ → ℕ → ℕ) (j : ℕ) (bays : 1 ≤ M.bays j)
    (alike : (k : ℕ) → k < M.guest_count → (k ≡ i → ⊥) → b k j ≡ M.bid k j)
    (h : provisional (queue (screen M) j) i ≡ true) where
  abbrev Q : Queue
  Q = queue (screen M) j

  is_open : opens M j ≡ true
  is_open = candidate_open M i j (candidate_held (screen M) i j h)

  by_bar : provisional (queue (screen (rebid M b)) j) i ≡ ((menu_of M i).bar j ≤? b i j * M.amount i)
  unfolding menu_of ◌and◌
  by_bar = menu_provisional M K i li some b j bays alike ∙ rw is_open

  price_is : price M i j ≡ (menu_of M i).price j
  unfolding menu_of charge truthful queue screen
  price_is = ap (max (cut M * M.amount i)) (critical_pivot Q K i li h)

  price_positive : 0 < price M i j
  unfolding opens charge screen
  price_positive =
      let open_ask : M.ask j < cut M = lt_yes _ _ is_open in
      let positive : 0 < cut M * M.amount i = mul-pos (let c : 0 < cut M = omega arith in c) some in
      omega arith

  over : b i j * M.amount i ≡ price M i j → critical Q < price M i j → Kept M b i j
  unfolding menu_of charge truthful queue screen
  over e q = by_bar ∙ is_le _ _ (omega (arith, bar_is Q K i, bar_le_pivot Q i, critical_pivot Q K i li h))

  sooner : b i j * M.amount i ≡ price M i j → price M i j ≤ critical Q → Kept M b i j → Sooner M i j
  unfolding menu_of charge truthful queue screen
  sooner e q k =
      let (f, lf, o) = some_first_out Q K (omega (arith, price_positive)) in
      (f, lf, o, key_by_bar Q K i li h f lf o (omega (arith, le_yes _ _ (sym by_bar ∙ k), bar_is Q K i)))

  kept : b i j * M.amount i ≡ price M i j → Sooner M i j → Kept M b i j
  unfolding menu_of charge truthful queue screen
  kept e (f, lf, o, s) = by_bar ∙ is_le _ _ (omega (arith, bar_is Q K i, bar_by_key Q K i li h f lf o s))

  pub marks : Marks M b i j
  marks = record {
    above = λ l. by_bar ∙ is_le _ _ (omega (arith, price_is, menu_near M i j));
    below = λ l k. omega (arith, price_is, menu_below M i j, le_yes _ _ (sym by_bar ∙ k));
    over_critical = over;
    kept_sooner = sooner;
    sooner_kept = kept;
  }
