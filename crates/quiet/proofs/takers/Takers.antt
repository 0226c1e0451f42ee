-- Laws of bars and choices: who passes a bar is taken, and the greatest choice is the best.
use Rattle.std.proofs.Common.{◌≡◌, ℕ, zero, suc, ◌+◌, ◌-◌, ◌*◌, ◌/◌, ◌%◌, ◌^◌, ◌<◌, ◌≤◌, max, true, false, List, length}
use Rattle.std.proofs.Common.{sym, refl, ap, ◌∙◌, ap₂, inl, inr, ⊎_elim, le_refl, mul-le-mul, arith}
use Rattle.model.specs.Counting.{◌<?◌, ◌≤?◌, ◌and◌, only}
use Rattle.model.specs.clauses.Rows.{row_of}
use Rattle.model.specs.market.Market.{Tables, Screened, bid_at}
use Rattle.allocation.specs.Screens.{screened_at}
use Rattle.model.proofs.Tests.{decide, clash, both, first, second, only_yes, only_no, only_le, same_test, or_left}
use Rattle.model.proofs.Tests.{or_skip}
use Rattle.model.proofs.Tests.{lt_yes, le_yes, is_lt, not_lt, is_le, not_le, lt_or_le, not_eq}
use Rattle.model.proofs.Counting.{none_some}
use Rattle.model.proofs.market.Choice.{best_holds, best_best, best_lowest, best_cong}
use Rattle.allocation.specs.Totals.{max_total}
use Rattle.quiet.specs.Efficient.{Priced, of, takes, best_taker}
use Rattle.allocation.specs.Ties.{last_ticket}
use Rattle.quiet.specs.Seating.{priority, Opened, Bars, passes, best_past, choice, no_choice}
use Rattle.quiet.specs.Seating.{IsChoice, TopChoice, station_in, bar_of, Seating, HeldIn}
use Rattle.quiet.proofs.standing.Standing.{total_low, priority_sooner, priority_low}
use Rattle.quiet.proofs.seats.Listing.{row_shows}

-- ---- bars

-- the code's test
pub passed_is :
    (priority bar x : ℕ) → priority < 2 ^ 63 → bar ≤ 2 ^ 63
    → (priority + 2 ^ 63 - bar) / 2 ^ 63 * x ≡ only (bar ≤? priority) x
passed_is p b x lp lb = ⊎_elim
    (λ (l : p < b). let none : (p + 2 ^ 63 - b) / 2 ^ 63 ≡ 0 = omega arith in
    ap (λ k. k * x) none ∙ omega arith ∙ sym (only_no _ _ (not_le _ _ l)))
    (λ (l : b ≤ p). let one : (p + 2 ^ 63 - b) / 2 ^ 63 ≡ 1 = omega arith in
    ap (λ k. k * x) one ∙ omega arith ∙ sym (only_yes _ _ (is_le _ _ l)))
    (lt_or_le p b)

pub passed_low : (priority bar x : ℕ) → priority < 2 ^ 63 → bar ≤ 2 ^ 63 → (priority + 2 ^ 63 - bar) / 2 ^ 63 * x ≤ x
passed_low p b x lp lb = rw (passed_is p b x lp lb) (only_le _ _ _ (λ _. le_refl x))

suc_le : (a b : ℕ) → (suc a ≤? b) ≡ (a <? b)
suc_le a b = same_test _ _ (λ p. is_lt _ _ (le_yes _ _ p)) (λ p. is_le _ _ (lt_yes _ _ p))

-- a guest passes the bar of a station that would take it, and no other
pub bar_takes :
    (S : Screened) (held last : ℕ → ℕ) (x j : ℕ) → ((i : ℕ) → S.key i ≤ last_ticket)
    → (bar_of S held last j ≤? priority S x j) ≡ takes S held last x j
unfolding bar_of takes
bar_takes S held last x j low = ⊎_elim
    (λ (free : held j < S.bays j). ap (λ b. b ≤? priority S x j) (only_no _ _ (not_le _ _ free))
    ∙ is_le _ _ (omega arith) ∙ sym (or_left _ _ (is_lt _ _ free)))
    (λ (full : S.bays j ≤ held j). ap (λ b. b ≤? priority S x j) (only_yes _ _ (is_le _ _ full))
    ∙ suc_le _ _ ∙ priority_sooner S x (last j) j (low x) (low (last j)) ∙ sym (or_skip _ (not_lt _ _ full)))
    (lt_or_le (held j) (S.bays j))

module _ (t : Tables) {c : ℕ} (p : Priced t c) {R : Seating} (h : HeldIn t c R)
    (low : (i : ℕ) → of t.tickets i ≤ last_ticket) where
  pub best_past_takes :
      (x : ℕ) {s : ℕ} → best_past (screened_at t c) (of R.bars) x ≡ s
      → best_taker (screened_at t c) (of R.held) (of R.lasts) x ≡ s
  unfolding best_past best_taker screened_at
  best_past_takes x e = best_cong (length t.asks) _ _ _ _
      (λ j lj. ap (λ b. (screened_at t c).candidate x j and b) (sym (bar_takes (screened_at t c) _ _ x j low)
      ∙ ap (λ b. b ≤? priority (screened_at t c) x j) (sym (h.bars_are j lj))))
      (λ _ _ _. refl) ∙ e

  pub bars_low : Bars (length t.asks) R.bars
  unfolding bar_of screened_at bid_at
  bars_low = record {
    long = h.sized.bars_long;
    low = λ j lj. rw (h.bars_are j lj) (⊎_elim
        (λ (free : of R.held j < of t.bays j). rw (only_no _ (suc (priority (screened_at t c) (of R.lasts j) j))
        (not_le _ _ free)) (omega arith))
        (λ (full : of t.bays j ≤ of R.held j).
        rw (only_yes _ (suc (priority (screened_at t c) (of R.lasts j) j)) (is_le _ _ full))
        (priority_low t p.within c (h.holding.lasts j lj full).guest lj))
        (lt_or_le (of R.held j) (of t.bays j)));
  }

-- ---- choices

-- the number of a choice's station
low_byte : (total k : ℕ) → k < 256 → (total * 2 ^ 32 + k) % 256 ≡ k
low_byte total k l = omega arith

pub choice_station : (S : Screened) (x j : ℕ) → j < 64 → (choice S x j % 256 ≤ 64) × (suc j ≡ station_in (choice S x j))
unfolding choice station_in
choice_station S x j l =
    let byte = low_byte (S.total x j) (64 - j) (omega arith) in (
      omega arith,
      let number : suc j ≡ 65 - choice S x j % 256 = omega arith in
          number ∙ sym (only_yes _ _ (is_lt _ _ (omega arith))),
    )

pub no_station : (S : Screened) (x : ℕ) → (no_choice S x % 256 ≤ 64) × (0 ≡ station_in (no_choice S x))
unfolding no_choice station_in
no_station S x =
    let byte : no_choice S x % 256 ≡ 0 = omega arith in
    (omega arith, sym (only_no _ _ (not_lt _ _ (omega arith))))

-- of the choices, the greatest is the best
module _ (S : Screened) {bar : ℕ → ℕ} {x top : ℕ} (m : S.station_count < 64)
    (above : (j : ℕ) → S.candidate x j ≡ true → S.cut * S.amount x ≤ S.total x j) (h : TopChoice S bar x top) where
  none_past : top ≡ no_choice S x → (s : ℕ) → best_past S bar x ≡ s → s ≡ 0
  unfolding best_past no_choice choice
  none_past e zero q = refl
  none_past e (suc j) q =
      let (lj, past) = best_holds _ _ _ j q in
      absurd (omega (arith, h.greatest j lj past, above j (first _ _ past)))

  one_past : (j : ℕ) → j < S.station_count → passes S bar x j ≡ true → top ≡ choice S x j → best_past S bar x ≡ suc j
  unfolding best_past choice
  one_past j lj past e =
      let (k, q, more) = best_best S.station_count (passes S bar x) (S.total x) j lj past in
      let (lk, past_k) = best_holds _ _ _ k q in
      let least : S.total x k * 2 ^ 32 + (64 - k) ≤ S.total x j * 2 ^ 32 + (64 - j) =
      omega (arith, h.greatest k lk past_k) in
      let no_later : k ≤ j = ⊎_elim
      (λ (l : j < k). absurd (omega (arith, best_lowest _ _ _ k j q l past)))
      (λ l. l)
      (lt_or_le j k) in
      let same : k ≡ j = omega arith in
      q ∙ ap suc same

  pub top_station : (top % 256 ≤ 64) × (best_past S bar x ≡ station_in top)
  top_station = ⊎_elim
      (λ (e : top ≡ no_choice S x). rw e ((no_station S x).0, none_past e _ refl ∙ (no_station S x).1))
      (λ (j, lj, past, e). rw e (
        (choice_station S x j (omega arith)).0,
        one_past j lj past e ∙ (choice_station S x j (omega arith)).1,
      ))
      h.is_choice

-- ---- the loop over the open stations

-- the greatest choice at the first q of them
pub record BestSoFar (S : Screened) (bar : ℕ → ℕ) (x : ℕ) (opened : List ℕ) (top q : ℕ) : Type 0 where
  pub within : q ≤ length opened
  pub is_choice : IsChoice S bar x top
  pub least : no_choice S x ≤ top
  pub so_far : (p : ℕ) → p < q → passes S bar x (of opened p) ≡ true → choice S x (of opened p) ≤ top

pub best_start : {S : Screened} {bar : ℕ → ℕ} {x top : ℕ} {opened : List ℕ} → top ≡ no_choice S x
    → BestSoFar S bar x opened top 0
best_start e = record {
  within = omega arith;
  is_choice = inl e;
  least = rw e (le_refl _);
  so_far = λ p l. absurd (omega arith);
}

module _ {S : Screened} {bar : ℕ → ℕ} {x top q : ℕ} {opened : List ℕ} (h : BestSoFar S bar x opened top q)
    (l : q < length opened) (lj : of opened q < S.station_count) where
  abbrev j : ℕ
  j = of opened q

  more_so_far :
      {top' : ℕ} → IsChoice S bar x top' → top ≤ top' → (passes S bar x j ≡ true → choice S x j ≤ top')
      → BestSoFar S bar x opened top' (q + 1)
  more_so_far i le new = record {
    within = omega arith;
    is_choice = i;
    least = omega (arith, h.least);
    so_far = λ p lp past. ⊎_elim
        (λ (e : p < q). omega (arith, h.so_far p e past))
        (λ (e : q ≤ p). let p_is : p ≡ q = omega arith in
        let past_q : passes S bar x j ≡ true = rw p_is at past in
        let less : choice S x j ≤ _ = new past_q in
        rw p_is less)
        (lt_or_le p q);
  }

  kept : {top' : ℕ} → top' ≡ top → (passes S bar x j ≡ true → ⊥) → BestSoFar S bar x opened top' (q + 1)
  kept e other = rw e (more_so_far h.is_choice (le_refl _) (λ past. absurd (other past)))

  pub best_turn :
      {top' : ℕ} → (S.candidate x j ≡ false → choice S x j < no_choice S x)
      → top' ≡ max top (only (bar j ≤? priority S x j) (choice S x j)) → BestSoFar S bar x opened top' (q + 1)
  best_turn {top'} below e = ⊎_elim
      (λ (past : (bar j ≤? priority S x j) ≡ true).
      let top_is : top' ≡ max top (choice S x j) = e ∙ ap (max top) (only_yes _ _ past) in
      ⊎_elim
      (λ (c : S.candidate x j ≡ true). ⊎_elim
      (λ (more : top < choice S x j).
      let new : top' ≡ choice S x j = omega arith in
      more_so_far (inr (j, lj, both c past, new)) (omega arith) (λ _. omega arith))
      (λ (less : choice S x j ≤ top). more_so_far (rw (let same : top' ≡ top = omega arith in same) h.is_choice)
      (omega arith) (λ _. omega arith))
      (lt_or_le top (choice S x j)))
      (λ (c : S.candidate x j ≡ false). kept (omega (arith, below c, h.least)) (λ p. clash (first _ _ p) c))
      (decide (S.candidate x j)))
      (λ (short : (bar j ≤? priority S x j) ≡ false).
      kept (let top_is : top' ≡ max top 0 = e ∙ ap (max top) (only_no _ _ short) in omega arith)
      (λ p. clash (second _ _ p) short))
      (decide (bar j ≤? priority S x j))

-- ---- in a market

module _ (t : Tables) {c : ℕ} (p : Priced t c) {x : ℕ} (lx : x < length t.amounts) where
  -- the code's numbers
  pub no_choice_is :
      {scale top : ℕ} → scale ≡ of t.amounts x * 2 ^ 32 → top ≡ c * scale → top ≡ no_choice (screened_at t c) x
  unfolding no_choice screened_at
  no_choice_is {scale} e q = q ∙ ap (λ y. c * y) e ∙ omega arith

  -- the row that the view shows is as long as there are stations
  pub in_row : {row : List ℕ} → row ≡ row_of t.bids (length t.asks) (x + 1) → length row ≡ length t.asks
  in_row shown = ap length shown ∙ (row_shows t p.within x lx).0

  module _ {row : List ℕ} {j scale : ℕ} (shown : row ≡ row_of t.bids (length t.asks) (x + 1))
      (lj : j < length t.asks) (e : scale ≡ of t.amounts x * 2 ^ 32) where
    scaled : of row j * scale ≡ bid_at t x j * of t.amounts x * 2 ^ 32
    scaled = ap₂ ◌*◌ (ap (λ l. of l j) shown ∙ (row_shows t p.within x lx).1 j lj) e ∙ omega arith

    pub scaled_low : of row j * scale ≤ max_total * 2 ^ 32
    unfolding screened_at
    scaled_low =
        let low : bid_at t x j * of t.amounts x ≤ max_total = total_low t p.within c lx lj in
        omega (arith, scaled)

    pub choice_here : {low : ℕ} (bar top : ℕ) {r : ℕ} → low ≡ last_ticket - of t.tickets x
        → r ≡ max top (only (bar ≤? of row j * scale + low) (of row j * scale + (64 - j)))
        → r ≡ max top (only (bar ≤? priority (screened_at t c) x j) (choice (screened_at t c) x j))
    unfolding priority choice screened_at
    choice_here bar top f q =
        q ∙ ap₂ (λ y z. max top (only (bar ≤? y) z)) (ap₂ ◌+◌ scaled f) (ap (λ y. y + (64 - j)) scaled)

  -- where the station is open, who is no candidate has no choice
  pub below_cut : (j : ℕ) → of t.asks j < c → (screened_at t c).candidate x j ≡ false
      → choice (screened_at t c) x j < no_choice (screened_at t c) x
  unfolding choice no_choice screened_at
  below_cut j ask none = ⊎_elim
      (λ (l : bid_at t x j < c).
      let less : suc (bid_at t x j) * of t.amounts x ≤ c * of t.amounts x = mul-le-mul l (le_refl _) in
      omega (arith, p.within.amount_least x lx))
      (λ (l : c ≤ bid_at t x j). absurd (clash (both (is_lt _ _ ask) (is_le _ _ l)) none))
      (lt_or_le (bid_at t x j) c)

  pub best_end :
      {bar : ℕ → ℕ} {top q : ℕ} {opened : List ℕ} → Opened t.asks c opened
      → BestSoFar (screened_at t c) bar x opened top q → length opened ≤ q → TopChoice (screened_at t c) bar x top
  unfolding screened_at
  best_end {top = top} o h l = record {
    is_choice = h.is_choice;
    greatest = λ j lj past.
        let ask : of t.asks j < c = lt_yes _ _ (first _ _ (first _ _ past)) in
        ⊎_elim
        (λ (less : top < choice (screened_at t c) x j). absurd (clash (o.all j lj ask) (none_some _ _
        (λ r lr. not_eq _ _ (λ j_is. let past_r = rw (← j_is) at past in
        let low = rw j_is at (h.so_far r (omega arith) past_r) in omega (arith, low))))))
        (λ low. low)
        (lt_or_le top (choice (screened_at t c) x j));
  }

  pub best_is :
      {bar : ℕ → ℕ} {top : ℕ} → TopChoice (screened_at t c) bar x top
      → (top % 256 ≤ 64) × (best_past (screened_at t c) bar x ≡ station_in top)
  unfolding screened_at bid_at
  best_is h = top_station (screened_at t c) (omega (arith, p.within.shape.stations_most))
      (λ j past. mul-le-mul (le_yes _ _ (second _ _ past)) (le_refl _)) h
