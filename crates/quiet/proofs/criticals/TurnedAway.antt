-- A bid's rank is not below its row's least exactly where its candidacy was turned away.
use Rattle.std.proofs.Common.{◌≡◌, ℕ, zero, suc, ◌+◌, ◌*◌, ◌<◌, ◌≤◌, Bool, true, false, List, length, sym, refl, ap}
use Rattle.std.proofs.Common.{◌∙◌, ap₂, ⊎_elim, le_refl, arith}
use Rattle.model.specs.Counting.{◌<?◌, ◌≤?◌, ◌=?◌, ◌and◌, ◌or◌, only}
use Rattle.model.specs.clauses.Rows.{row_of}
use Rattle.model.specs.market.Market.{Tables, Screened}
use Rattle.allocation.specs.Screens.{screened_at}
use Rattle.model.specs.market.Stable.{sooner, before_seat, turned_away}
use Rattle.model.proofs.Tests.{both, second, and_no, and_true, and_false, or_skip, only_yes, only_no, le_yes}
use Rattle.model.proofs.Tests.{is_lt, not_lt, is_le, is_eq, lt_or_le}
use Rattle.quiet.specs.Efficient.{Priced, of, Seats}
use Rattle.quiet.specs.Criticals.{rank, least_rank, total_from, passed_at}
use Rattle.quiet.proofs.criticals.Ranks.{ranked, reaches}
use Rattle.quiet.proofs.seats.Listing.{row_shows}

-- a guest's own candidacies: its ticket is the same at all
own_order :
    (S : Screened) (i j l : ℕ)
    → sooner S i j i l ≡ (S.total i l <? S.total i j or (S.total i l =? S.total i j and j <? l))
unfolding sooner ◌and◌
own_order S i j l = ap (λ b. S.total i l <? S.total i j or (S.total i l =? S.total i j and b))
    (or_skip _ (not_lt _ _ (le_refl (S.key i))) ∙ ap (λ b. b and j <? l) (is_eq (S.key i) (S.key i) refl))

true_and : (b : Bool) → (true and b) ≡ b
unfolding ◌and◌
true_and b = refl

only_where : (a b : Bool) → (b ≡ true → a ≡ true) → b ≡ (a and b)
unfolding ◌and◌
only_where a true h = sym (and_true a ∙ h refl)
only_where a false h = sym (and_false a)

module _ (t : Tables) {c : ℕ} (p : Priced t c) {chosen : List ℕ} (seats : Seats t c chosen) {i j : ℕ}
    (li : i < length t.amounts) (lj : j < length t.asks) where
  abbrev row : List ℕ
  row = row_of t.bids (length t.asks) (i + 1)

  abbrev bid : ℕ → ℕ
  bid = of row

  candidate_is :
      (k : ℕ) → k < length t.asks → (screened_at t c).candidate i k ≡ (of t.asks k <? c and c ≤? bid k)
  unfolding screened_at
  candidate_is k lk = rw ((row_shows t p.within i li).1 k lk) refl

  total_is : (k : ℕ) → k < length t.asks → (screened_at t c).total i k ≡ bid k * of t.amounts i
  unfolding screened_at
  total_is k lk = rw ((row_shows t p.within i li).1 k lk) refl

  seated_order :
      (l : ℕ) → l < length t.asks → (rank (bid l) l + 1 ≤? rank (bid j) j) ≡ sooner (screened_at t c) i j i l
  seated_order l ll =
      ranked (bid j) (bid l) (of t.amounts i) (p.within.amount_least i li)
      (omega (arith, p.within.shape.stations_most)) (omega (arith, p.within.shape.stations_most))
      ∙ sym (own_order (screened_at t c) i j l ∙ rw (total_is j lj, total_is l ll) refl)

  -- what stands before a candidacy of the guest reaches the cut
  seat_reaches :
      (l : ℕ) → l < length t.asks → (screened_at t c).candidate i l ≡ true → of t.asks j < c
      → rank (bid l) l + 1 ≤ rank (bid j) j → (screened_at t c).candidate i j ≡ true
  unfolding rank
  seat_reaches l ll k opened h =
      let own : c ≤ bid l = le_yes _ _ (second _ _ (sym (candidate_is l ll) ∙ k)) in
      candidate_is j lj ∙ both (is_lt _ _ opened) (is_le _ _ (omega arith))

  by_seat :
      (seat : ℕ) → of chosen i ≡ seat → of t.asks j < c
      → (least_rank row c seat ≤? rank (bid j) j)
      ≡ ((screened_at t c).candidate i j and before_seat (screened_at t c) i j seat)
  unfolding least_rank before_seat
  by_seat zero e opened =
      let few : j < 64 = omega (arith, p.within.shape.stations_most) in
      reaches c (bid j) few
      ∙ sym (and_true _ ∙ candidate_is j lj ∙ ap (λ b. b and c ≤? bid j) (is_lt _ _ opened) ∙ true_and _)
  by_seat (suc l) e opened =
      let (ll, k) = seats.candidates i l li e in
      only_where _ _ (λ q. seat_reaches l ll k opened (le_yes _ _ q))
      ∙ ap (λ b. (screened_at t c).candidate i j and b) (seated_order l ll)

  -- guest i's total at station j, where it was turned away there
  pub turned_is :
      only (of t.asks j <? c) (passed_at t.amounts t.bids chosen (length t.asks) c i j)
      ≡ only (turned_away (screened_at t c) (of chosen) i j) ((screened_at t c).total i j)
  unfolding passed_at total_from turned_away
  turned_is = ⊎_elim
      (λ (opened : of t.asks j < c).
      only_yes _ _ (is_lt _ _ opened) ∙ ap₂ only (by_seat (of chosen i) refl opened) (sym (total_is j lj)))
      (λ (closed : c ≤ of t.asks j).
      only_no _ _ (not_lt _ _ closed)
      ∙ sym (only_no _ _ (and_no _ _ (candidate_is j lj ∙ and_no _ _ (not_lt _ _ closed)))))
      (lt_or_le (of t.asks j) c)
