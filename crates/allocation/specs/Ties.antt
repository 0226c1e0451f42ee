-- Who wins a tie at the critical total.
use Rattle.std.specs.Prelude.{ℕ, ◌+◌, ◌<◌, ◌≤◌, Bool, List, ◌≡◌, get_or, length}
use Rattle.model.specs.Limits.{max_guests}
use Rattle.model.specs.Counting.{◌<?◌, ◌=?◌, ◌and◌, count}
use Rattle.model.specs.claims.Meaning.{Differ}
use Rattle.checks.specs.Tickets.{rising as rising_of}
use Rattle.allocation.specs.Totals.{max_total}

-- how many of the first i are t
unfoldable pub ties : List ℕ → (t i : ℕ) → ℕ
ties l t i = count i (λ k. get_or l k 0 =? t)

-- how many at t have a ticket below x
unfoldable pub ties_below : (l tickets : List ℕ) (t x : ℕ) → ℕ
ties_below l tickets t x = count (length l) (λ k. get_or l k 0 =? t and get_or tickets k 0 <? x)

-- the greatest ticket of 32 bits
abbrev pub last_ticket : ℕ
last_ticket = 4_294_967_295

-- guests at t, of whom some have a place, and not all
pub record Tied (l tickets : List ℕ) (t places : ℕ) : Type 0 where
  pub few : length l ≤ max_guests
  pub as_long : length tickets ≡ length l
  pub low : t ≤ max_total
  pub crowded : places < ties l t (length l)

-- what is asked of a station's totals l, the guests' tickets, its critical total t, the a totals
-- above it and its b bays
pub record Tying (l tickets : List ℕ) (rising : Bool) (t a b : ℕ) : Type 0 where
  pub few : length l ≤ max_guests
  pub as_long : length tickets ≡ length l
  pub differ : Differ tickets
  pub rise : rising ≡ rising_of tickets
  pub low : t ≤ max_total
  pub above_few : a ≤ b
  pub crowded : 0 < t → b < a + ties l t (length l)

-- of those at t, the ones with a ticket below e are those with fewer than b before them: a above t, and the ones at t
-- with a lower ticket; at 0 there is none
pub record TieBound (l tickets : List ℕ) (t a b e : ℕ) : Type 0 where
  pub none : t ≡ 0 → e ≡ 0
  pub bound : 0 < t → (i : ℕ) → i < length l → get_or l i 0 ≡ t
      → (get_or tickets i 0 <? e) ≡ (a + ties_below l tickets t (get_or tickets i 0) <? b)
