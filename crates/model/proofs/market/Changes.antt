-- Laws of markets with other bids: what the bids are, and that the market is accepted.
use Prim.Native.Nat.{ℕ, ◌≤◌, ◌<◌}
use mathlib.Core.Bool.{true, false, cond}
use mathlib.Core.List.{List}
use mathlib.Core.Logic.{⊎_elim}
use mathlib.Core.Path.{◌≡◌, refl, sym, ◌∙◌}
use native.Mathlib.Nat.{mul-le-mul_right}
use native.Mathlib.Omega.{arith}
use lib.ListN.{get_or, length}
use Rattle.model.specs.Limits.{max_price}
use Rattle.model.specs.Counting.{◌=?◌}
use Rattle.model.specs.market.Market.{Tables, bid_at}
use Rattle.model.specs.market.Faults.{Accepted}
use Rattle.model.specs.market.Changes.{bid_table, with_bids, bids_with_row, row_with_bid, with_bid}
use Rattle.model.specs.claims.ChargeMarks.{WithBidReplacesBid}
use Rattle.model.specs.claims.OtherRows.{WithRowReplacesRow, WithRowAccepted}
use Rattle.model.proofs.Tests.{decide, is_eq, not_eq, eq_or_ne}
use Rattle.model.proofs.Counting.{length_list, get_d_list}
use Rattle.model.proofs.sheet.Joined.{joined_length, get_d_joined, joined_most}
use Rattle.model.proofs.market.Acceptance.{accepted_iff_within_limits, exchanged}

pub bid_with :
    (t : Tables) (bid : ℕ → ℕ → ℕ) (i j : ℕ) → i < length t.amounts → j < length t.asks
    → bid_at (with_bids t bid) i j ≡ bid i j
unfolding bid_at bid_table
bid_with t bid i j li lj = get_d_joined (length t.amounts) (length t.asks) bid i j li lj

pub with_bids_accepted :
    (t : Tables) (bid : ℕ → ℕ → ℕ) → Accepted t
    → ((i j : ℕ) → i < length t.amounts → j < length t.asks → bid i j ≤ max_price) → Accepted (with_bids t bid)
unfolding bid_table
with_bids_accepted t bid a most =
    exchanged t _
    (joined_length (length t.amounts) (length t.asks) bid
    ∙ sym ((accepted_iff_within_limits t).0 a).shape.bids_length)
    (joined_most (length t.amounts) (length t.asks) bid max_price most) a

-- a bid of an accepted market is within its limit
pub bid_at_most :
    (t : Tables) → Accepted t → (i j : ℕ) → i < length t.amounts → j < length t.asks → bid_at t i j ≤ max_price
unfolding bid_at
bid_at_most t a i j li lj =
    let w = (accepted_iff_within_limits t).0 a in
    w.bid_most _ (omega (arith, w.shape.bids_length, mul-le-mul_right (length t.asks) li))

-- ---- one row

row_here : (t : Tables) (i : ℕ) (row : List ℕ) (j : ℕ) → bids_with_row t i row i j ≡ get_or row j 0
unfolding bids_with_row
row_here t i row j = rw (is_eq i i refl)

row_elsewhere :
    (t : Tables) (i : ℕ) (row : List ℕ) (k j : ℕ) → (k ≡ i → ⊥) → bids_with_row t i row k j ≡ bid_at t k j
unfolding bids_with_row
row_elsewhere t i row k j n = rw (not_eq k i n)

pub with_row_replaces_row : WithRowReplacesRow
with_row_replaces_row t i row li = record {
  replaced = λ j lj. bid_with t (bids_with_row t i row) i j li lj ∙ row_here t i row j;
  alike = record {
    same_asks = refl;
    same_bays = refl;
    same_amounts = refl;
    same_tickets = refl;
    same_bids = λ k j lk lj n. bid_with t (bids_with_row t i row) k j lk lj ∙ row_elsewhere t i row k j n;
  };
}

pub with_row_accepted : WithRowAccepted
unfolding bids_with_row
with_row_accepted t i row a w = with_bids_accepted t (bids_with_row t i row) a (λ k j lk lj. ⊎_elim
    (λ (e : (k =? i) ≡ true). rw e (w.row_most j (omega (arith, w.row_length))))
    (λ (e : (k =? i) ≡ false). rw e (bid_at_most t a k j lk lj))
    (decide (k =? i)))

-- ---- one bid

module _ (t : Tables) (i j bid : ℕ) where
  row_at_lem : (l : ℕ) → l < length t.asks → get_or (row_with_bid t i j bid) l 0 ≡ cond (l =? j) bid (bid_at t i l)
  unfolding row_with_bid
  row_at_lem l ll = get_d_list (length t.asks) _ l ll

  bid_here : j < length t.asks → get_or (row_with_bid t i j bid) j 0 ≡ bid
  bid_here lj = row_at_lem j lj ∙ rw (is_eq j j refl)

  bid_beside : (l : ℕ) → l < length t.asks → (l ≡ j → ⊥) → get_or (row_with_bid t i j bid) l 0 ≡ bid_at t i l
  bid_beside l ll n = row_at_lem l ll ∙ rw (not_eq l j n)

  pub with_bid_accepted : Accepted t → i < length t.amounts → bid ≤ max_price → Accepted (with_bid t i j bid)
  unfolding row_with_bid
  with_bid_accepted a li most =
      let long : length (row_with_bid t i j bid) ≡ length t.asks = length_list (length t.asks) _ in
      with_row_accepted t i (row_with_bid t i j bid) a record {
        row_length = long;
        row_most = λ l ll. ⊎_elim
            (λ (e : l ≡ j). rw (e, bid_here (omega arith)) most)
            (λ (n : l ≡ j → ⊥). rw (bid_beside l (omega arith) n) (bid_at_most t a i l li (omega arith)))
            (eq_or_ne l j);
      }

pub with_bid_replaces_bid : WithBidReplacesBid
with_bid_replaces_bid t i j bid li lj =
    let w = with_row_replaces_row t i (row_with_bid t i j bid) li in
    record {
      replaced = w.replaced j lj ∙ bid_here t i j bid lj;
      same_elsewhere = λ k l lk ll n. ⊎_elim
          (λ (e : k ≡ i). rw e (w.replaced l ll ∙ bid_beside t i j bid l ll (λ q. n (e, q))))
          (λ (m : k ≡ i → ⊥). w.alike.same_bids k l lk ll m)
          (eq_or_ne k i);
      alike = w.alike;
    }
