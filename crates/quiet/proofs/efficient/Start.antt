-- Before the first guest is called up.
use Rattle.std.proofs.Common.{◌≡◌, ℕ, suc, ◌<◌, List, length, take, replicate, sym, ap, ◌∙◌, arith}
use Rattle.model.specs.Limits.{max_guests, max_stations}
use Rattle.model.specs.Counting.{list}
use Rattle.model.specs.market.Market.{Tables}
use Rattle.allocation.specs.Screens.{screened_at}
use Rattle.model.specs.claims.Meaning.{WithinLimits}
use Rattle.model.proofs.Tests.{eq_yes}
use Rattle.model.proofs.Counting.{count_none}
use Rattle.model.proofs.Loops.{long, element, zeros_are, zeros_long}
use Rattle.quiet.specs.Efficient.{of, holders}
use Rattle.quiet.specs.Seating.{link, Seating, seating, HeldIn, Called}
use Rattle.quiet.proofs.efficient.Moves.{serving_none}
use Rattle.quiet.proofs.seats.Seats.{bar_free}

-- the lists, with all zeros in them
abbrev pub empty : (t : Tables) (chosen : List ℕ) → Seating
empty t chosen =
    let guests = take (length t.amounts) (replicate {A = ℕ} max_guests 0) in
    let stations = take (length t.asks) (replicate {A = ℕ} max_stations 0) in
    seating chosen stations stations guests stations stations stations

-- nobody holds a bay
module _ (t : Tables) (w : WithinLimits t) {chosen : List ℕ} (e : chosen ≡ list (length t.amounts) (λ _. 0)) where
  none_holds : (i j : ℕ) → i < length t.amounts → of chosen i ≡ suc j → ⊥
  none_holds i j li q = let z : ◌≡◌ {A = ℕ} 0 (suc j) = sym (element _ _ e i li) ∙ q in omega arith

  zero_at : (j : ℕ) → j < length t.asks → of (take (length t.asks) (replicate {A = ℕ} max_stations 0)) j ≡ 0
  zero_at = element _ _ (zeros_are max_stations (length t.asks) w.shape.stations_most)

  none_held : (c : ℕ) → HeldIn t c (empty t chosen)
  unfolding holders link screened_at
  none_held c =
      let n = sym (zeros_long max_stations (length t.asks) w.shape.stations_most) in
      record {
        sized = record {
          chosen_long = long _ _ e;
          held_long = n;
          firsts_long = n;
          nexts_long = sym (zeros_long max_guests (length t.amounts) w.shape.guests_most);
          lasts_long = n;
          befores_long = n;
          bars_long = n;
        };
        holding = record {
          candidates = λ i j li q. absurd (none_holds i j li q);
          counted = λ j lj. zero_at j lj
              ∙ sym (count_none (length t.amounts) _ (λ k lk q. none_holds k j lk (eq_yes _ _ q)));
          fits = λ j lj. rw (zero_at j lj) (omega arith);
          lasts = λ j lj full. absurd (omega (arith, w.bays_least j lj, rw (zero_at j lj) at full));
        };
        slot = λ _ _. 0;
        slotted = record {
          holds = λ j q lj l. absurd (omega (arith, rw (zero_at j lj) at l));
          found = λ i j li q. absurd (none_holds i j li q);
          once = λ j q p lj l. absurd (omega (arith, rw (zero_at j lj) at l));
        };
        chains = λ j lj. record {
          first_is = zero_at j lj ∙ sym (ap (link (λ _. 0)) (zero_at j lj));
          next_is = λ q l. absurd (omega (arith, rw (zero_at j lj) at l));
          guests = λ q l. absurd (omega (arith, rw (zero_at j lj) at l));
        };
        lasts_at = λ j lj full. absurd (omega (arith, w.bays_least j lj, rw (zero_at j lj) at full));
        bars_are = λ j lj. zero_at j lj ∙ sym (bar_free (screened_at t c) _ _ j
            (rw (zero_at j lj) (w.bays_least j lj)));
      }

  pub none_called : (c : ℕ) → Called t c (take (length t.amounts) (replicate {A = ℕ} max_guests 0)) (empty t chosen)
  unfolding screened_at
  none_called c =
      let most = w.shape.guests_most in
      record {
        called_long = sym (zeros_long max_guests (length t.amounts) most);
        held_in = none_held c;
        serving = serving_none (element _ _ (zeros_are max_guests (length t.amounts) most)) (element _ _ e);
      }
