-- Laws of codes and outcomes: each code with its fact.
use Prim.Native.Nat.{ℕ, ◌≤◌, ◌<◌}
use mathlib.Core.Bool.{true, false}
use mathlib.Core.Logic.{⊎_elim}
use mathlib.Core.Path.{◌≡◌, refl}
use native.Mathlib.Omega.{arith}
use lib.ListN.{length}
use Rattle.model.specs.Counting.{◌<?◌, ◌=?◌, ◌and◌, only}
use Rattle.model.specs.Verdicts.{first_fault, number_of}
use Rattle.model.specs.market.Market.{Tables, bid_at, market_by, market, cut, opens, screen, queue, provisional}
use Rattle.model.specs.market.Outcome.{screened, decision}
use Rattle.model.specs.market.Reasons.{conditions, code, highest_code, loss}
use Rattle.model.specs.claims.Reasons.{NoBid, NotOpen, BelowCut, Outbid, PlaceHeld, CodeTells}
use Rattle.model.specs.declared.rule.Rule.{Rule}
use Rattle.model.proofs.Tests.{decide, clash, both, first, second, lt_yes, lt_no, le_yes, is_le, eq_yes, eq_no}
use Rattle.model.proofs.Tests.{only_le, only_yes, is_eq, eq_or_ne}
use Rattle.model.proofs.Counting.{le_greatest, greatest_le}
use Rattle.model.proofs.market.Queues.{provisional_candidate}
use Rattle.model.proofs.market.Truthful.{zero_bid_is_no_candidate, assigned_at_best_place}

-- the code, with its fact and those before it
data Decided (rule : Rule) (t : Tables) (i j : ℕ) : Type 0 where
  no_bid : NoBid t i j → code (market rule t) i j ≡ 1 → Decided rule t i j
  not_open : (NoBid t i j → ⊥) → NotOpen rule t j → code (market rule t) i j ≡ 2 → Decided rule t i j
  below_cut :
      (NoBid t i j → ⊥) → opens (market rule t) j ≡ true → BelowCut rule t i j → code (market rule t) i j ≡ 3
      → Decided rule t i j
  outbid : Outbid rule t i j → code (market rule t) i j ≡ 4 → Decided rule t i j
  held : PlaceHeld rule t i j → code (market rule t) i j ≡ 0 → Decided rule t i j

module _ (rule : Rule) (t : Tables) (i j : ℕ) where
  -- a candidate has bid at least the cut at an open station
  is_open : (screened rule t).candidate i j ≡ true → opens (market rule t) j ≡ true
  unfolding screened screen
  is_open c = first _ _ c

  reaches : (screened rule t).candidate i j ≡ true → cut (market rule t) ≤ bid_at t i j
  unfolding screened screen market market_by
  reaches c = le_yes _ _ (second _ _ c)

  has_bid : (screened rule t).candidate i j ≡ true → NoBid t i j → ⊥
  has_bid c n = clash c (zero_bid_is_no_candidate rule t i j n)

  candidate : PlaceHeld rule t i j → (screened rule t).candidate i j ≡ true
  unfolding queue
  candidate h = provisional_candidate (queue (screened rule t) j) i h

  is_candidate :
      opens (market rule t) j ≡ true → cut (market rule t) ≤ bid_at t i j → (screened rule t).candidate i j ≡ true
  unfolding screened screen market market_by
  is_candidate o r = both o (is_le _ _ r)

  decided : Decided rule t i j
  unfolding code conditions first_fault number_of screened screen market market_by ◌and◌
  decided = ⊎_elim
      (λ (n : (bid_at t i j =? 0) ≡ true). no_bid (eq_yes _ _ n) (rw n refl))
      (λ (n : (bid_at t i j =? 0) ≡ false). ⊎_elim
      (λ (o : opens (market rule t) j ≡ true). ⊎_elim
      (λ (b : (bid_at t i j <? cut (market rule t)) ≡ true).
      below_cut (eq_no _ _ n) o (lt_yes _ _ b) (rw (n, o, b) refl))
      (λ (b : (bid_at t i j <? cut (market rule t)) ≡ false).
      let r = is_le _ _ (lt_no _ _ b) in
      ⊎_elim
      (λ (h : PlaceHeld rule t i j). held h (rw (n, o, b, r, h) refl))
      (λ (h : provisional (queue (screened rule t) j) i ≡ false).
      outbid (is_candidate o (lt_no _ _ b), h) (rw (n, o, b, r, h) refl))
      (decide (provisional (queue (screened rule t) j) i)))
      (decide (bid_at t i j <? cut (market rule t))))
      (λ (o : NotOpen rule t j). not_open (eq_no _ _ n) o (rw (n, o) refl))
      (decide (opens (market rule t) j)))
      (decide (bid_at t i j =? 0))

  tells : Decided rule t i j → CodeTells rule t i j (code (market rule t) i j)
  tells (no_bid n e) = record {
    no_bid = (λ _. n, λ _. e);
    not_open = (λ q. absurd (omega (arith, e)), λ (x, _). absurd (x n));
    below_cut = (λ q. absurd (omega (arith, e)), λ (x, _, _). absurd (x n));
    outbid = (λ q. absurd (omega (arith, e)), λ (c, _). absurd (has_bid c n));
    place_held = (λ q. absurd (omega (arith, e)), λ h. absurd (has_bid (candidate h) n));
    most = omega (arith, e);
  }
  tells (not_open x o e) = record {
    no_bid = (λ q. absurd (omega (arith, e)), λ n. absurd (x n));
    not_open = (λ _. (x, o), λ _. e);
    below_cut = (λ q. absurd (omega (arith, e)), λ (_, y, _). absurd (y o));
    outbid = (λ q. absurd (omega (arith, e)), λ (c, _). absurd (clash (is_open c) o));
    place_held = (λ q. absurd (omega (arith, e)), λ h. absurd (clash (is_open (candidate h)) o));
    most = omega (arith, e);
  }
  tells (below_cut x o b e) = record {
    no_bid = (λ q. absurd (omega (arith, e)), λ n. absurd (x n));
    not_open = (λ q. absurd (omega (arith, e)), λ (_, y). absurd (clash o y));
    below_cut = (λ _. (x, λ y. clash o y, b), λ _. e);
    outbid = (λ q. absurd (omega (arith, e)), λ (c, _). absurd (omega (arith, reaches c)));
    place_held = (λ q. absurd (omega (arith, e)), λ h. absurd (omega (arith, reaches (candidate h))));
    most = omega (arith, e);
  }
  tells (outbid (c, h) e) = record {
    no_bid = (λ q. absurd (omega (arith, e)), λ n. absurd (has_bid c n));
    not_open = (λ q. absurd (omega (arith, e)), λ (_, y). absurd (clash (is_open c) y));
    below_cut = (λ q. absurd (omega (arith, e)), λ (_, _, b). absurd (omega (arith, reaches c)));
    outbid = (λ _. (c, h), λ _. e);
    place_held = (λ q. absurd (omega (arith, e)), λ y. absurd (clash y h));
    most = omega (arith, e);
  }
  tells (held h e) = record {
    no_bid = (λ q. absurd (omega (arith, e)), λ n. absurd (has_bid (candidate h) n));
    not_open = (λ q. absurd (omega (arith, e)), λ (_, y). absurd (clash (is_open (candidate h)) y));
    below_cut = (λ q. absurd (omega (arith, e)), λ (_, _, b). absurd (omega (arith, reaches (candidate h))));
    outbid = (λ q. absurd (omega (arith, e)), λ (_, y). absurd (clash h y));
    place_held = (λ _. h, λ _. e);
    most = omega (arith, e);
  }

  pub code_tells : CodeTells rule t i j (code (market rule t) i j)
  code_tells = tells decided

-- ---- reasons

module _ (rule : Rule) (t : Tables) (i : ℕ) where
  pub highest_most : highest_code rule t i ≤ 4
  unfolding highest_code
  highest_most = greatest_le (length t.asks) _ 4 (λ j _. (code_tells rule t i j).most)

  pub loss_most : loss rule t i ≤ 4
  unfolding loss
  loss_most = only_le _ _ _ (λ _. highest_most)

  -- whoever has a loss is not assigned
  pub lost_unassigned : 0 < loss rule t i → (decision rule t).assigned i ≡ 0
  unfolding loss only
  lost_unassigned p = ⊎_elim
      (λ (e : ((decision rule t).assigned i =? 0) ≡ true). eq_yes _ _ e)
      (λ (e : ((decision rule t).assigned i =? 0) ≡ false). absurd (omega (arith, rw e at p)))
      (decide ((decision rule t).assigned i =? 0))

  pub loss_is : (decision rule t).assigned i ≡ 0 → loss rule t i ≡ highest_code rule t i
  unfolding loss
  loss_is e = only_yes _ _ (is_eq _ _ e)

  -- it holds no place, so that each of its codes is 1 or more
  pub highest_least : 1 ≤ length t.asks → (decision rule t).assigned i ≡ 0 → 1 ≤ highest_code rule t i
  unfolding highest_code screened screen market market_by
  highest_least m e =
      let free = (assigned_at_best_place rule t i).nowhere e 0 m in
      ⊎_elim
      (λ (z : code (market rule t) i 0 ≡ 0). absurd (clash ((code_tells rule t i 0).place_held.0 z) free))
      (λ (n : code (market rule t) i 0 ≡ 0 → ⊥).
      omega (arith, le_greatest (length t.asks) (code (market rule t) i) 0 m))
      (eq_or_ne (code (market rule t) i 0) 0)
