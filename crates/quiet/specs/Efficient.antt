-- Serving guests one at a time, on the way to a stable assignment. Document 02, request 4.
use Rattle.std.specs.Prelude.{◌≡◌, ℕ, suc, ◌+◌, ◌<◌, ◌≤◌, Bool, true, not, ◌⊎◌, List, length, ◌≢◌, slice_index}
use Rattle.model.specs.Limits.{max_stations, max_price}
use Rattle.model.specs.Counting.{◌<?◌, ◌≤?◌, ◌=?◌, ◌and◌, ◌or◌, sum, count, list, only}
use Rattle.model.specs.market.Market.{Tables, Screened}
use Rattle.model.specs.market.Mechanism.{at, best}
use Rattle.model.specs.market.Stable.{sooner, turned_away, Stable, turned_away_at}
use Rattle.allocation.specs.Screens.{screened_at}
use Rattle.model.specs.claims.Meaning.{WithinLimits}

-- a market within the limits, and a cut
pub record Priced (t : Tables) (c : ℕ) : Type 0 where
  pub within : WithinLimits t
  pub cut_low : c ≤ max_price

-- the element at an index, 0 beyond
abbrev pub of : List ℕ → ℕ → ℕ
of l k = slice_index l k

-- how many hold a bay of station j, and how many of them stand before guest i there
unfoldable pub holders : Screened → (a : ℕ → ℕ) → ℕ → ℕ
holders S a j = count S.guest_count (λ k. a k =? suc j)

unfoldable pub holders_before : Screened → (a : ℕ → ℕ) → (i j : ℕ) → ℕ
holders_before S a i j = count S.guest_count (λ k. a k =? suc j and sooner S k j i j)

-- station j refuses guest i for good: those that stand before it hold all bays
unfoldable pub refuses : Screened → (a : ℕ → ℕ) → (i j : ℕ) → Bool
refuses S a i j = S.bays j ≤? holders_before S a i j

-- how many guests and stations are not so far
unfoldable pub hopes : Screened → (a : ℕ → ℕ) → ℕ
hopes S a = sum S.guest_count (λ i. count S.station_count (λ j. not (refuses S a i j)))

-- y holds a bay of station j, and every other holder stands before it
pub record IsLast (S : Screened) (a : ℕ → ℕ) (j y : ℕ) : Type 0 where
  pub guest : y < S.guest_count
  pub holds : a y ≡ suc j
  pub last : (k : ℕ) → k < S.guest_count → a k ≡ suc j → (k ≡ y) ⊎ (sooner S k j y j ≡ true)

-- candidates hold bays, no more than there are, they are counted, and the last holder of a full station is known
pub record Holding (S : Screened) (a held last : ℕ → ℕ) : Type 0 where
  pub candidates :
      (i j : ℕ) → i < S.guest_count → a i ≡ suc j → (j < S.station_count) × (S.candidate i j ≡ true)
  pub counted : (j : ℕ) → j < S.station_count → held j ≡ holders S a j
  pub fits : (j : ℕ) → j < S.station_count → held j ≤ S.bays j
  pub lasts : (j : ℕ) → j < S.station_count → S.bays j ≤ held j → IsLast S a j (last j)

-- station j would take guest x: it has a bay left, or its last holder stands after x
unfoldable pub takes : Screened → (held last : ℕ → ℕ) → (x j : ℕ) → Bool
takes S held last x j = held j <? S.bays j or sooner S x j (last j) j

-- the best of guest x's candidacies at stations that would take it: the station's number, 0 for none
unfoldable pub best_taker : Screened → (held last : ℕ → ℕ) → (x : ℕ) → ℕ
best_taker S held last x =
    best S.station_count (λ j. S.candidate x j and takes S held last x j) (S.total x)

-- guest x, who has no seat, may have one at station j
pub record Seatable (S : Screened) (a : ℕ → ℕ) (x j : ℕ) : Type 0 where
  pub guest : x < S.guest_count
  pub waits : a x ≡ 0
  pub station : j < S.station_count
  pub candidate : S.candidate x j ≡ true

-- a guest x was served: it has the best seat there is for it, or none, and r is the number of the guest put out for it
pub record Moved (S : Screened) (x : ℕ) (a : ℕ → ℕ) (r : ℕ) (a' : ℕ → ℕ) : Type 0 where
  pub put_out : (y : ℕ) → r ≡ suc y → (y < S.guest_count) × (a' y ≡ 0) × (a y ≢ 0)
  pub others : (i : ℕ) → i < S.guest_count → (i ≢ x) → (r ≢ suc i) → a' i ≡ a i
  pub no_fewer : (i j : ℕ) → j < S.station_count → holders_before S a i j ≤ holders_before S a' i j
  pub settled :
      (j : ℕ) → j < S.station_count → turned_away S a' x j ≡ true → S.bays j ≤ holders_before S a' x j
  pub falls : (y : ℕ) → r ≡ suc y → hopes S a' < hopes S a

-- guests are called up, where c is not 0; all of them but the one in hand (its number from 1, 0 for none) are settled
pub record Serving (S : Screened) (c : ℕ → ℕ) (hand : ℕ) (a : ℕ → ℕ) : Type 0 where
  pub in_hand : (x : ℕ) → hand ≡ suc x → c x ≢ 0
  pub waiting : (i : ℕ) → i < S.guest_count → c i ≡ 0 → a i ≡ 0
  pub settled :
      (i j : ℕ) → i < S.guest_count → (c i ≢ 0) → (hand ≢ suc i) → j < S.station_count
      → turned_away S a i j ≡ true → S.bays j ≤ holders_before S a i j

-- while x is served, whoever was called up stays settled
abbrev pub Served : Screened → (x : ℕ) (a : ℕ → ℕ) (hand : ℕ) (a' : ℕ → ℕ) → Type 0
Served S x a hand a' = (c : ℕ → ℕ) → Serving S c (suc x) a → Serving S c hand a'

-- those called up stay so, and x is one of them
abbrev pub CalledToo : (n x : ℕ) (called called' : List ℕ) → Type 0
CalledToo n x called called' = (k : ℕ) → k < n → (k ≡ x) ⊎ (of called k ≢ 0) → of called' k ≢ 0

-- each guest has a seat at a station where it is a candidate, or none
pub record Seats (t : Tables) (c : ℕ) (chosen : List ℕ) : Type 0 where
  pub long : length chosen ≡ length t.amounts
  pub candidates :
      (i j : ℕ) → i < length t.amounts → of chosen i ≡ suc j
      → (j < length t.asks) × ((screened_at t c).candidate i j ≡ true)

-- the critical total of station number s where it is among the first j, else 0; number 0 is no station
abbrev pub critical_of : Screened → (a : ℕ → ℕ) → (j s : ℕ) → ℕ
critical_of S a j s = only (s <? suc j) (at (turned_away_at S a) s)

-- the stable assignment, and each station number's critical total
pub record StablyAssigned (t : Tables) (c : ℕ) (chosen criticals : List ℕ) : Type 0 where
  pub chosen_long : length chosen ≡ length t.amounts
  pub stable : Stable (screened_at t c) (of chosen)
  pub criticals_are : criticals ≡ list (max_stations + 1) (critical_of (screened_at t c) (of chosen) (length t.asks))
