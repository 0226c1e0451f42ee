-- Laws of the loops over guests: a turn of each.
use Rattle.std.proofs.Common.{◌≡◌, ℕ, suc, ◌<◌, ◌≤◌, List, length, ◌∙◌}
use Rattle.std.proofs.Common.{arith}
use Rattle.model.specs.market.Market.{Tables}
use Rattle.allocation.specs.Screens.{screened_at}
use Rattle.model.specs.market.Stable.{Stable}
use Rattle.quiet.specs.Efficient.{Priced, of, best_taker, Moved, Served}
use Rattle.quiet.specs.Seating.{Seating, HeldIn, Waits, Called}
use Rattle.quiet.proofs.efficient.Moves.{nowhere, serving_moved, served_stable}
use Rattle.quiet.proofs.seats.Listing.{keys}

pub no_taker :
    (t : Tables) {c : ℕ} {R : Seating} {x s : ℕ} → Priced t c → HeldIn t c R
    → Waits t R.chosen x → best_taker (screened_at t c) (of R.held) (of R.lasts) x ≡ s → s ≡ 0
    → HeldIn t c R × Moved (screened_at t c) x (of R.chosen) 0 (of R.chosen)
unfolding screened_at
no_taker t {c} p h w e z = (h, nowhere (screened_at t c) (keys t c p.within) h.holding w.0 w.1 (e ∙ z))

-- the guest in hand while guest x is served; the seats were a before
pub record InHand (t : Tables) (c : ℕ) (x hand : ℕ) (a : ℕ → ℕ) (R : Seating) : Type 0 where
  pub held_in : HeldIn t c R
  pub waits : (y : ℕ) → hand ≡ suc y → Waits t R.chosen y
  pub served : Served (screened_at t c) x a hand (of R.chosen)

-- guest y was served, and r is the number of the one put out
pub in_hand_turn :
    (t : Tables) {c x y r : ℕ} {a : ℕ → ℕ} {R R' : Seating} → InHand t c x (suc y) a R
    → HeldIn t c R' × Moved (screened_at t c) y (of R.chosen) r (of R'.chosen) → InHand t c x r a R'
unfolding screened_at
in_hand_turn t h (h', m) = record {
  held_in = h';
  waits = λ y q. ((m.put_out y q).0, (m.put_out y q).1);
  served = λ c s. serving_moved (h.served c s) m;
}

-- ---- calling up

module _ (t : Tables) {c : ℕ} {called : List ℕ} {R : Seating} (h : Called t c called R) where
  pub call_waits : {x : ℕ} → x < length t.amounts → of called x ≡ 0 → Waits t R.chosen x
  unfolding screened_at
  call_waits {x} lx z = (lx, h.serving.waiting x lx z)

-- the first g guests are called up
pub record AllCalled (t : Tables) (c : ℕ) (g : ℕ) (called : List ℕ) (R : Seating) : Type 0 where
  pub within : g ≤ length t.amounts
  pub calling : Called t c called R
  pub so_far : (k : ℕ) → k < g → of called k ≡ 0 → ⊥

pub all_called_end :
    {t : Tables} {c g : ℕ} {called : List ℕ} {R : Seating} → AllCalled t c g called R
    → length t.amounts ≤ g → HeldIn t c R × Stable (screened_at t c) (of R.chosen)
unfolding screened_at
all_called_end h b = (
  h.calling.held_in,
  served_stable h.calling.held_in.holding (λ i li. h.so_far i (omega arith)) h.calling.serving,
)
