-- The lists that serving guests keeps: seats, slots, last holders and bars. Document 02, request 4.
use Rattle.std.specs.Prelude.{◌≡◌, ℕ, zero, suc, ◌+◌, ◌-◌, ◌*◌, ◌%◌, ◌^◌, ◌<◌, ◌≤◌, Bool, true, ◌⊎◌, List, length, ◌≢◌}
use Rattle.std.specs.Prelude.{slice_set, Option, Some, None}
use Rattle.model.specs.Counting.{◌<?◌, ◌≤?◌, ◌=?◌, ◌and◌, only, some}
use Rattle.model.specs.market.Market.{Tables, Screened}
use Rattle.model.specs.market.Mechanism.{best}
use Rattle.allocation.specs.Screens.{screened_at}
use Rattle.allocation.specs.Ties.{last_ticket}
use Rattle.model.specs.market.Stable.{sooner}
use Rattle.quiet.specs.Efficient.{of, Holding, Serving}

-- guest i's priority at station j: its total, and below that how low its ticket is
unfoldable pub priority : Screened → (i j : ℕ) → ℕ
priority S i j = S.total i j * 2 ^ 32 + (last_ticket - S.key i)

-- ---- the line

-- n guests in a line: each place has the index of one
pub record GuestLine (n : ℕ) (line : List ℕ) : Type 0 where
  pub long : length line ≡ n
  pub guests : (r : ℕ) → r < n → of line r < n

-- ---- the choice of a station

-- the open stations
pub record Opened (asks : List ℕ) (c : ℕ) (opened : List ℕ) : Type 0 where
  pub stations : (q : ℕ) → q < length opened → (of opened q < length asks) × (of asks (of opened q) < c)
  pub all : (j : ℕ) → j < length asks → of asks j < c → some (length opened) (λ q. of opened q =? j) ≡ true

-- the bars of m stations
pub record Bars (m : ℕ) (bars : List ℕ) : Type 0 where
  pub long : length bars ≡ m
  pub low : (j : ℕ) → j < m → of bars j ≤ 2 ^ 63

-- guest x passes the bar of station j, where it is a candidate
abbrev pub passes : Screened → (bar : ℕ → ℕ) → (x j : ℕ) → Bool
passes S bar x j = S.candidate x j and bar j ≤? priority S x j

-- the best of guest x's candidacies that pass: the station's number, 0 for none
unfoldable pub best_past : Screened → (bar : ℕ → ℕ) → (x : ℕ) → ℕ
best_past S bar x = best S.station_count (passes S bar x) (S.total x)

-- a choice: a total and, below it, how low its station is
unfoldable pub choice : Screened → (x j : ℕ) → ℕ
choice S x j = S.total x j * 2 ^ 32 + (64 - j)

-- the choice where there is none
unfoldable pub no_choice : Screened → (x : ℕ) → ℕ
no_choice S x = S.cut * S.amount x * 2 ^ 32

-- top is a choice of guest x that passes, or none
abbrev pub IsChoice : (S : Screened) (bar : ℕ → ℕ) (x top : ℕ) → Type 0
IsChoice S bar x top =
    (top ≡ no_choice S x) ⊎ ((j : ℕ) × (j < S.station_count) × (passes S bar x j ≡ true) × (top ≡ choice S x j))

-- the greatest of guest x's choices that pass
pub record TopChoice (S : Screened) (bar : ℕ → ℕ) (x top : ℕ) : Type 0 where
  pub is_choice : IsChoice S bar x top
  pub greatest : (j : ℕ) → j < S.station_count → passes S bar x j ≡ true → choice S x j ≤ top

-- the number of a choice's station
unfoldable pub station_in : ℕ → ℕ
station_in top = only (0 <? top % 256) (65 - top % 256)

-- ---- holders

-- guests in slots, linked from the last slot down: the number, from 1, of the guest in the slot below q; 0 for none
unfoldable pub link : (slot : ℕ → ℕ) → ℕ → ℕ
link slot zero = 0
link slot (suc q) = suc (slot q)

-- h of n guests in a chain: the first one's number, and the next one's after each
pub record Chain (n h : ℕ) (slot : ℕ → ℕ) (first : ℕ) (nexts : List ℕ) : Type 0 where
  pub first_is : first ≡ link slot h
  pub next_is : (q : ℕ) → q < h → of nexts (slot q) ≡ link slot q
  pub guests : (q : ℕ) → q < h → slot q < n

-- there is such a chain
abbrev pub Linked : (n h first : ℕ) (nexts : List ℕ) → Type 0
Linked n h first nexts = (slot : ℕ → ℕ) × Chain n h slot first nexts

-- a guest, and the number of the one before it in the chain, 0 for none
pub record At (slot : ℕ → ℕ) (h guest before : ℕ) : Type 0 where
  pub place : ℕ
  pub within : place < h
  pub guest_is : guest ≡ slot place
  pub before_is : before ≡ only (suc place <? h) (suc (slot (suc place)))

-- of guests y and i at station j, the one that stands later, with the one before it
abbrev pub LaterOf : (S : Screened) (j y before_y i before_i guest before : ℕ) → Type 0
LaterOf S j y before_y i before_i guest before =
    ((guest ≡ i) × (before ≡ before_i) × (sooner S y j i j ≡ true))
    ⊎ ((guest ≡ y) × (before ≡ before_y) × ((i ≡ y) ⊎ (sooner S i j y j ≡ true)))

-- of the h guests in a chain, the one that stands last at station j
pub record LastOf (S : Screened) (j n h first : ℕ) (nexts : List ℕ) (guest before : ℕ) : Type 0 where
  pub slot : ℕ → ℕ
  pub chain : Chain n h slot first nexts
  pub at : At slot h guest before
  pub last : (q : ℕ) → q < h → (slot q ≡ guest) ⊎ (sooner S (slot q) j guest j ≡ true)

-- the holders of each station are the guests of its first slots, each in one
pub record Slotted (S : Screened) (a held : ℕ → ℕ) (slot : ℕ → ℕ → ℕ) : Type 0 where
  pub holds : (j q : ℕ) → j < S.station_count → q < held j → (slot j q < S.guest_count) × (a (slot j q) ≡ suc j)
  pub found : (i j : ℕ) → i < S.guest_count → a i ≡ suc j → (q : ℕ) × (q < held j) × (slot j q ≡ i)
  pub once : (j q p : ℕ) → j < S.station_count → q < held j → p < held j → slot j q ≡ slot j p → q ≡ p

-- ---- all lists

-- each guest's seat by its station's number, 0 for none; how many hold a bay of each station; the first one's number,
-- and each one's next; a full station's last holder, and the number of the one before it in the chain; the least
-- priority that each station takes
pub record Seating : Type 0 where
  pub chosen : List ℕ
  pub held : List ℕ
  pub firsts : List ℕ
  pub nexts : List ℕ
  pub lasts : List ℕ
  pub befores : List ℕ
  pub bars : List ℕ

abbrev pub seating : (chosen held firsts nexts lasts befores bars : List ℕ) → Seating
seating chosen held firsts nexts lasts befores bars = record {
  chosen = chosen;
  held = held;
  firsts = firsts;
  nexts = nexts;
  lasts = lasts;
  befores = befores;
  bars = bars;
}

-- station j of n guests' market is full: its last holder, the one before it and its bar are entered
pub record Closed (S : Screened) (n j : ℕ) (R R' : Seating) : Type 0 where
  pub guest : ℕ
  pub before : ℕ
  pub last : LastOf S j n (of R.held j) (of R.firsts j) R.nexts guest before
  pub becomes : R' ≡ seating R.chosen R.held R.firsts R.nexts (slice_set R.lasts j guest)
      (slice_set R.befores j before) (slice_set R.bars j (suc (priority S guest j)))

-- guest x is in the chain of station j in the place of its last holder: after the guest before that, or first
pub record Relinked (j x : ℕ) (R R' : Seating) : Type 0 where
  pub links :
      ((of R.befores j ≡ 0) × (R' ≡ seating R.chosen R.held (slice_set R.firsts j (suc x))
      (slice_set R.nexts x (of R.nexts (of R.lasts j))) R.lasts R.befores R.bars))
      ⊎ ((of R.befores j ≢ 0) × (R' ≡ seating R.chosen R.held R.firsts
      (slice_set (slice_set R.nexts x (of R.nexts (of R.lasts j))) (of R.befores j - 1) (suc x)) R.lasts
      R.befores R.bars))

-- the least priority that station j takes: any while it has a bay left, else more than its last holder's
unfoldable pub bar_of : Screened → (held last : ℕ → ℕ) → ℕ → ℕ
bar_of S held last j = only (S.bays j ≤? held j) (suc (priority S (last j) j))

-- the lists are as long as there are guests or stations
pub record Sized (t : Tables) (R : Seating) : Type 0 where
  pub chosen_long : length R.chosen ≡ length t.amounts
  pub held_long : length R.held ≡ length t.asks
  pub firsts_long : length R.firsts ≡ length t.asks
  pub nexts_long : length R.nexts ≡ length t.amounts
  pub lasts_long : length R.lasts ≡ length t.asks
  pub befores_long : length R.befores ≡ length t.asks
  pub bars_long : length R.bars ≡ length t.asks

-- candidates hold bays, as the lists have them
pub record HeldIn (t : Tables) (c : ℕ) (R : Seating) : Type 0 where
  pub sized : Sized t R
  pub holding : Holding (screened_at t c) (of R.chosen) (of R.held) (of R.lasts)
  pub slot : ℕ → ℕ → ℕ
  pub slotted : Slotted (screened_at t c) (of R.chosen) (of R.held) slot
  pub chains : (j : ℕ) → j < length t.asks
      → Chain (length t.amounts) (of R.held j) (slot j) (of R.firsts j) R.nexts
  pub lasts_at : (j : ℕ) → j < length t.asks → of t.bays j ≤ of R.held j
      → At (slot j) (of R.held j) (of R.lasts j) (of R.befores j)
  pub bars_are : (j : ℕ) → j < length t.asks
      → of R.bars j ≡ bar_of (screened_at t c) (of R.held) (of R.lasts) j

-- guest x has no seat
abbrev pub Waits : Tables → (chosen : List ℕ) → ℕ → Type 0
Waits t chosen x = (x < length t.amounts) × (of chosen x ≡ 0)

-- nobody is in hand
pub record Called (t : Tables) (c : ℕ) (called : List ℕ) (R : Seating) : Type 0 where
  pub called_long : length called ≡ length t.amounts
  pub held_in : HeldIn t c R
  pub serving : Serving (screened_at t c) (of called) 0 (of R.chosen)

-- tickets are numbers of 32 bits
abbrev pub TicketsFit : List ℕ → Type 0
TicketsFit tickets = (i : ℕ) → of tickets i ≤ last_ticket

-- a number from 1, as the tables have it, 0 for none
abbrev pub number_of : Option ℕ → ℕ
number_of None = 0
number_of (Some k) = suc k
