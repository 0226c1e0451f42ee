-- The statements over calls at work, on case G of document 01: guest 2 overbids, then station 1
-- asks more than its cost; the latter by the efficient mechanism too. All under rule 1.
use Prim.Native.Nat.{ℕ, zero, suc, ◌<◌}
use mathlib.Core.List.{[], ◌∷◌}
use mathlib.Core.Path.{◌≡◌, refl}
use native.Mathlib.Omega.{arith}
use lib.ListN.{get_or}
use lib.IntN.{pos, negsuc}
use lib.Signed.{◌≤ℤ◌}
use Rattle.model.specs.market.Market.{Tables, tables, bid_at}
use Rattle.model.specs.market.Mechanism.{at}
use Rattle.model.specs.market.Outcome.{Results, Outcome, results}
use Rattle.model.specs.claims.Truth.{AlikeButForGuest, AlikeButForStation}
use Rattle.model.specs.declared.rule.Rule.{Rule}
use Rattle.model.specs.clauses.EntryPoints.{clearing, Clears}
use Rattle.model.specs.Numbers.{answer_of_clearing}
use Rattle.model.specs.declared.answers.Figures.{Figures}
use Rattle.model.specs.declared.refusal.Refusal.{Refusal}
use Rattle.model.specs.claims.Calls.{ClearedCallBy, ClearedCall, EfficientCall, guest_gain_in, station_gain_in}
use Rattle.model.specs.claims.Calls.{CallWithin}
use Rattle.std.specs.Prelude.{Result, Ok}
use Rattle.model.proofs.cases.Computing.{clearing_computes, efficient_computes}
use Rattle.model.proofs.claims.Calls.{guest_truthful_calls, station_truthful_calls, call_limits}
use Rattle.model.proofs.claims.Calls.{efficient_station_truthful_calls, efficient_call_limits}

abbrev lists : Results
lists = results (9 ∷ 9 ∷ []) (9 ∷ 9 ∷ []) (9 ∷ 9 ∷ []) (9 ∷ 9 ∷ [])

-- case G: asks 2 and 6, one bay each, amounts 3 and 2, bids 9 and 10 at station 1
abbrev pub honest : Tables
honest = tables (2 ∷ 6 ∷ []) (1 ∷ 1 ∷ []) (3 ∷ 2 ∷ []) (1 ∷ 2 ∷ []) (9 ∷ 0 ∷ 10 ∷ 0 ∷ []) 2

-- guest 2 states 14 where its worth is 10
abbrev pub overbid : Tables
overbid = tables (2 ∷ 6 ∷ []) (1 ∷ 1 ∷ []) (3 ∷ 2 ∷ []) (1 ∷ 2 ∷ []) (9 ∷ 0 ∷ 14 ∷ 0 ∷ []) 2

-- station 1 asks 7 where its cost is 2
abbrev pub overask : Tables
overask = tables (7 ∷ 6 ∷ []) (1 ∷ 1 ∷ []) (3 ∷ 2 ∷ []) (1 ∷ 2 ∷ []) (9 ∷ 0 ∷ 10 ∷ 0 ∷ []) 2

abbrev cleared : (cut margin : ℕ) → Result Figures Refusal
cleared cut margin = Ok (record { cut = record { 0 = cut }; margin = record { 0 = margin } })

-- the three calls, by computation
abbrev pub called :
    {made : Rule → Tables → Outcome} (t : Tables) (cut margin : ℕ) (exit : Results)
    → Clears made 1 t lists (cleared cut margin) exit → ClearedCallBy made 1 t
unfolding answer_of_clearing
called t cut margin exit c =
    record {
      entry = lists;
      answer = cleared cut margin;
      cut = cut;
      margin = margin;
      exit = exit;
      call = c;
      cleared = refl;
    }

pub calls : ClearedCall 1 honest × ClearedCall 1 overbid × ClearedCall 1 overask
unfolding clearing_computes clearing
calls = (
  called honest 6 2 (results (1 ∷ 0 ∷ []) (20 ∷ 0 ∷ []) (3 ∷ 0 ∷ []) (18 ∷ 0 ∷ []))
      (record { answered = refl; left = refl }),
  called overbid 6 15 (results (0 ∷ 1 ∷ []) (0 ∷ 27 ∷ []) (2 ∷ 0 ∷ []) (12 ∷ 0 ∷ []))
      (record { answered = refl; left = refl }),
  called overask 7 0 (results (0 ∷ 0 ∷ []) (0 ∷ 0 ∷ []) (0 ∷ 0 ∷ []) (0 ∷ 0 ∷ []))
      (record { answered = refl; left = refl }),
)

-- the overbid loses guest 2 seven mills, where the truth gains it nothing
alike_guest : AlikeButForGuest honest overbid 1
unfolding bid_at
alike_guest =
    record { same_asks = refl; same_bays = refl; same_amounts = refl; same_tickets = refl; same_bids = same }
  where
    same : (k j : ℕ) → k < 2 → j < 2 → (k ≡ 1 → ⊥) → bid_at overbid k j ≡ bid_at honest k j
    same zero zero lk lj n = refl
    same zero (suc zero) lk lj n = refl
    same zero (suc (suc j)) lk lj n = absurd (omega arith)
    same (suc zero) j lk lj n = absurd (n refl)
    same (suc (suc k)) j lk lj n = absurd (omega arith)

pub guest_worked : negsuc 6 ≤ℤ pos 0
unfolding calls guest_gain_in at bid_at
guest_worked = guest_truthful_calls 1 honest overbid calls.0 calls.1 1 (omega arith) alike_guest

-- the higher ask costs station 1 the twelve mills that the truth gains it
alike_station : AlikeButForStation honest overask 0
alike_station =
    record {
      same_count = refl;
      same_asks = same;
      same_bays = refl;
      same_amounts = refl;
      same_tickets = refl;
      same_bids = refl;
    }
  where
    same : (k : ℕ) → k < 2 → (k ≡ 0 → ⊥) → get_or overask.asks k 0 ≡ get_or honest.asks k 0
    same zero l n = absurd (n refl)
    same (suc k) l n = refl

pub station_worked : pos 0 ≤ℤ pos 12
unfolding calls station_gain_in
station_worked = station_truthful_calls 1 honest overask calls.0 calls.2 0 (omega arith) alike_station

-- in case G the charges, 20, are the payments, 18, and the margin, 2
pub limits_worked : CallWithin honest 2 (results (1 ∷ 0 ∷ []) (20 ∷ 0 ∷ []) (3 ∷ 0 ∷ []) (18 ∷ 0 ∷ []))
unfolding calls
limits_worked = call_limits 1 honest calls.0

-- the same of calls of `clear_efficient`
pub efficient_calls : EfficientCall 1 honest × EfficientCall 1 overask
unfolding efficient_computes clearing
efficient_calls = (
  called honest 6 2 (results (1 ∷ 0 ∷ []) (20 ∷ 0 ∷ []) (3 ∷ 0 ∷ []) (18 ∷ 0 ∷ []))
      (record { answered = refl; left = refl }),
  called overask 7 0 (results (0 ∷ 0 ∷ []) (0 ∷ 0 ∷ []) (0 ∷ 0 ∷ []) (0 ∷ 0 ∷ []))
      (record { answered = refl; left = refl }),
)

pub efficient_station_worked : pos 0 ≤ℤ pos 12
unfolding efficient_calls station_gain_in
efficient_station_worked =
    efficient_station_truthful_calls 1 honest overask efficient_calls.0 efficient_calls.1 0 (omega arith)
    alike_station

pub efficient_limits_worked : CallWithin honest 2 (results (1 ∷ 0 ∷ []) (20 ∷ 0 ∷ []) (3 ∷ 0 ∷ []) (18 ∷ 0 ∷ []))
unfolding efficient_calls
efficient_limits_worked = efficient_call_limits 1 honest efficient_calls.0
