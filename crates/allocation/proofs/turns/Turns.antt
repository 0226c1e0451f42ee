-- One station's turn: what its offers leave is what the mechanism's choice leaves.
use Prim.Native.Nat.{ℕ, zero, suc, ◌+◌, ◌*◌, ◌-◌, ◌≤◌, ◌<◌, max}
use mathlib.Core.Bool.{Bool, true, false}
use mathlib.Core.List.{List}
use mathlib.Core.Logic.{⊎_elim}
use mathlib.Core.Path.{◌≡◌, refl, sym, ap, ap₂, ◌∙◌}
use native.Mathlib.Nat.{le_antisymm, mul-le-mul, mul-le-mul_right}
use native.Mathlib.Numerals.{add-one}
use native.Mathlib.Omega.{arith}
use lib.ListN.{get_or, length, set, length-set}
use lib.Seq.{get_or-set_same, get_or-set_other}
use Rattle.model.specs.Limits.{max_guests, max_stations}
use Rattle.model.specs.Counting.{◌<?◌, ◌≤?◌, ◌and◌, only, list}
use Rattle.model.specs.market.Market.{Tables, bid_at, Screened}
use Rattle.model.specs.market.Market.{Queue, queue, provisional, critical}
use Rattle.model.specs.claims.Meaning.{WithinLimits}
use Rattle.model.specs.market.Mechanism.{at, better, best, surplus}
use Rattle.allocation.specs.Screens.{screened_at}
use Rattle.model.proofs.Tests.{clash, first, and_no, only_yes, only_no, only_le, le_yes, le_no, is_lt, not_lt, lt_or_le}
use Rattle.model.proofs.Tests.{lt_yes, lt_no}
use Rattle.model.proofs.Tests.{eq_or_ne, only_cong}
use Rattle.model.proofs.Counting.{greatest_le, list_cong}
use Rattle.model.proofs.market.Queues.{provisional_candidate}
use Rattle.model.proofs.Loops.{long, element, is_list, relist}
use Rattle.checks.specs.Tickets.{rising as rising_of}
use Rattle.allocation.specs.Ties.{TieBound, Tying}
use Rattle.allocation.specs.Totals.{max_total, Totals, total_for, total_at, Gathered, GatheredAt}
use Rattle.allocation.proofs.totals.Totals.{total_yes, total_no, as_many, total_at_low}
use Rattle.model.proofs.market.Acceptance.{same_place}
use Rattle.model.proofs.market.Limits.{product}
use Rattle.allocation.specs.Selection.{above, LeastFew, Selected}
use Rattle.allocation.proofs.selection.Selection.{above_greatest, selected_low}
use Rattle.allocation.specs.Offers.{picked, won_by, gain_for, charge_at, gain_at, taken, Offerable, Offered}
use Rattle.allocation.proofs.offers.Offers.{gain_low}
use Rattle.allocation.specs.Stages.{AtCut, station_by, gain_by, critical_by, After, AfterIn, Bounded, BoundedIn}
use Rattle.allocation.specs.Stages.{gathered_if, turn_totals}
use Rattle.allocation.proofs.ties.Ties.{crowded}
use Rattle.allocation.proofs.selection.Winners.{Shows, critical_is, provisional_is}

-- ---- one guest's choice: gains are kept as one more, so that 0 is no station

take_at :
    (f : ℕ → ℕ) (h : Bool) (g : ℕ → ℕ) (j r : ℕ)
    → picked (at (λ k. g k + 1) r <? only h (g j + 1)) (f j) (at f r) ≡ at f (better h g j r)
unfolding at better only picked
take_at f false g j r = rw (not_lt (at (λ k. g k + 1) r) 0 (omega arith)) refl
take_at f true g j zero = rw (is_lt 0 (g j + 1) (omega arith)) refl
take_at f true g j (suc k) = ⊎_elim
    (λ (l : g k < g j). rw (is_lt (g k) (g j) l, is_lt (g k + 1) (g j + 1) (omega arith)) refl)
    (λ (l : g j ≤ g k). rw (not_lt (g k) (g j) l, not_lt (g k + 1) (g j + 1) (omega arith)) refl)
    (lt_or_le (g k) (g j))

take_gain :
    (h : Bool) (g : ℕ → ℕ) (j r : ℕ)
    → picked (at (λ k. g k + 1) r <? only h (g j + 1)) (only h (g j + 1)) (at (λ k. g k + 1) r)
    ≡ at (λ k. g k + 1) (better h g j r)
unfolding better only picked
take_gain true g j r = take_at (λ k. g k + 1) true g j r
take_gain false g j r = rw (not_lt (at (λ k. g k + 1) r) 0 (omega arith)) refl

at_suc : (r : ℕ) → at suc r ≡ r
unfolding at
at_suc zero = refl
at_suc (suc r) = refl

station_step :
    (S : Screened) (j i : ℕ)
    → station_by S (j + 1) i ≡ better (provisional (queue S j) i) (surplus S i) j (station_by S j i)
unfolding station_by best
station_step S j i = rw add-one refl

-- ---- the lists after a station

-- the critical totals with one more, at number j + 1
critical_own : (S : Screened) (j : ℕ) → critical_by S (j + 1) (suc j) ≡ critical (queue S j)
unfolding critical_by
critical_own S j = only_yes _ _ (is_lt _ _ (omega arith))

critical_later : (S : Screened) (j : ℕ) → critical_by S j (suc j) ≡ 0
unfolding critical_by
critical_later S j = only_no _ _ (not_lt _ _ (omega arith))

critical_other : (S : Screened) (j s : ℕ) → (s ≡ suc j → ⊥) → critical_by S (j + 1) s ≡ critical_by S j s
unfolding critical_by
critical_other S j zero n = refl
critical_other S j (suc k) n = ap (λ b. only b (critical (queue S k))) (⊎_elim
    (λ (l : k < j). is_lt _ _ (omega arith) ∙ sym (is_lt _ _ l))
    (λ (l : j ≤ k). not_lt _ _ (omega arith) ∙ sym (not_lt _ _ l))
    (lt_or_le k j))

set_critical :
    (S : Screened) (j : ℕ) {s v : ℕ} {criticals : List ℕ} → criticals ≡ list (max_stations + 1) (critical_by S j)
    → j < max_stations → s ≡ j + 1 → v ≡ critical (queue S j)
    → set criticals s v ≡ list (max_stations + 1) (critical_by S (j + 1))
set_critical S j {s} {v} {criticals} h l es e =
    is_list _ _ _ (length-set criticals s v ∙ long _ _ h) (λ k lk. ⊎_elim
    (λ (z : k ≡ s). rw (z, get_or-set_same criticals s v 0 (omega (arith, long _ _ h)), es ∙ add-one j)
    (e ∙ sym (critical_own S j)))
    (λ (z : k ≡ s → ⊥). get_or-set_other criticals s k v 0 z ∙ element _ _ h k lk
    ∙ sym (critical_other S j k (λ y. z (y ∙ sym (es ∙ add-one j)))))
    (eq_or_ne k s))

picked_le : (b : Bool) (x y m : ℕ) → x ≤ m → y ≤ m → picked b x y ≤ m
unfolding picked
picked_le true x y m p q = p
picked_le false x y m p q = q

module _ (S : Screened) (n j : ℕ) (totals tickets least : List ℕ) (t e s : ℕ) (chosen₀ gains₀ criticals : List ℕ)
    (as_long : length totals ≡ n) (es : s ≡ j + 1) (few : j < max_stations)
    (gain_is : (k : ℕ) → k < n
    → gain_at totals tickets least t e k ≡ only (provisional (queue S j) k) (surplus S k j + 1))
    (critical_is : t ≡ critical (queue S j)) (totals_low : Totals totals)
    (h : After S n j chosen₀ gains₀ criticals) where
  chosen_step :
      (k : ℕ) → k < n → taken gains₀ (gain_at totals tickets least t e) (λ _. s) chosen₀ k ≡ station_by S (j + 1) k
  unfolding taken gain_by
  chosen_step k lk =
      rw (
        es ∙ add-one j,
        element n (station_by S j) h.chosen_are k lk ∙ sym (at_suc _),
        gain_is k lk,
        element _ _ h.gains_are k lk,
        station_step S j k,
      )
      (take_at suc (provisional (queue S j) k) (surplus S k) j (station_by S j k) ∙ at_suc _)

  gain_step :
      (k : ℕ) → k < n
      → taken gains₀ (gain_at totals tickets least t e) (gain_at totals tickets least t e)
      gains₀ k ≡ gain_by S (j + 1) k
  unfolding taken gain_by
  gain_step k lk =
      rw (gain_is k lk, element n (gain_by S j) h.gains_are k lk, station_step S j k)
      (take_gain (provisional (queue S j) k) (surplus S k) j (station_by S j k))

  -- a gain is the new one or the old one
  gain_stays_low :
      (k : ℕ) → k < n
      → taken gains₀ (gain_at totals tickets least t e) (gain_at totals tickets least t e) gains₀ k ≤ max_total + 1
  unfolding taken gain_at
  gain_stays_low k lk = picked_le _ _ _ _ (gain_low _ _ _ (totals_low k (omega arith)) refl) (h.gains_low k lk)

  after_offers :
      {chosen gains : List ℕ} → Offered totals tickets least t e s chosen₀ gains₀ chosen gains
      → After S n (j + 1) chosen gains (set criticals s t)
  after_offers o = record {
    chosen_are = relist _ n _ _ o.chosen_are as_long chosen_step;
    gains_are = relist _ n _ _ o.gains_are as_long gain_step;
    gains_low =
        λ k lk. rw (element _ _ (relist _ n _ _ o.gains_are as_long (λ _ _. refl)) k lk) (gain_stays_low k lk);
    criticals_are = set_critical S j h.criticals_are few es critical_is;
  }

-- nobody has a place at a station that is not open, so that its turn changes nothing
module _ (t : Tables) (c j : ℕ) (h : c ≤ get_or t.asks j 0) where
  abbrev S : Screened
  S = screened_at t c

  closed : (i : ℕ) → provisional (queue S j) i ≡ false
  unfolding provisional queue screened_at
  closed i = and_no _ _ (and_no _ _ (not_lt _ _ h))

  stays : (i : ℕ) → station_by S j i ≡ station_by S (j + 1) i
  unfolding better
  stays i = sym (station_step S j i ∙ ap (λ b. better b (surplus S i) j (station_by S j i)) (closed i))

  -- and its critical total is 0
  closed_critical : 0 ≡ critical (queue S j)
  unfolding critical queue screened_at
  closed_critical =
      le_antisymm (omega arith)
      (greatest_le (length t.amounts) _ 0
      (λ k _. only_le _ _ _ (λ p. absurd (clash (first _ _ p) (and_no _ _ (not_lt _ _ h))))))

  pub after_closed :
      (n : ℕ) {chosen gains criticals : List ℕ} → After S n j chosen gains criticals
      → After S n (j + 1) chosen gains criticals
  unfolding gain_by
  after_closed n a = record {
    chosen_are = a.chosen_are ∙ list_cong n _ _ (λ k lk. stays k);
    gains_low = a.gains_low;
    gains_are = a.gains_are ∙ list_cong n _ _ (λ k lk. ap (at (λ i. surplus S k i + 1)) (stays k));
    criticals_are = a.criticals_are ∙ list_cong _ _ _ (λ s _. ⊎_elim
        (λ (z : s ≡ suc j). rw z (critical_later S j ∙ closed_critical ∙ sym (critical_own S j)))
        (λ (z : s ≡ suc j → ⊥). sym (critical_other S j s z))
        (eq_or_ne s (suc j)));
  }

  -- nobody is a candidate there
  pub bounded_closed : (n : ℕ) {bounds : List ℕ} → Bounded S n j bounds → Bounded S n (j + 1) bounds
  unfolding screened_at
  bounded_closed n b = record {
    bounds_long = b.bounds_long;
    wins = λ i k li lk q. ⊎_elim
        (λ (z : k ≡ j). absurd (clash q (rw z (and_no _ _ (not_lt _ _ h)))))
        (λ (z : k ≡ j → ⊥). b.wins i k li (omega arith) q)
        (eq_or_ne k j);
  }

-- ---- the queue of an open station, and the totals that the code gathers

module _ (t : Tables) (c : ℕ) (least : List ℕ) (w : WithinLimits t) (A : AtCut t c least) (j : ℕ)
    (lj : j < length t.asks) (op : get_or t.asks j 0 < c) where
  abbrev Q : Queue
  Q = queue (screened_at t c) j

  candidate_is : (k : ℕ) → Q.candidate k ≡ (c ≤? bid_at t k j)
  unfolding queue screened_at ◌and◌
  candidate_is k = rw (is_lt _ _ op) refl

  module _ (totals : List ℕ)
      (gathered : totals ≡ list (length t.amounts) (total_at t.bids t.amounts (length t.asks) j c)) where
    shows : Shows Q totals t.tickets
    unfolding queue screened_at bid_at
    shows = record {
      long = long _ _ gathered;
      some = λ k lk q. element _ _ gathered k lk ∙ sym (total_yes _ _ c (le_yes _ _ (sym (candidate_is k) ∙ q)));
      none = λ k lk q. element _ _ gathered k lk ∙ sym (total_no _ _ c (le_no _ _ (sym (candidate_is k) ∙ q)));
      real = λ k lk q. let b : c ≤ bid_at t k j = le_yes _ _ (sym (candidate_is k) ∙ q) in
          positive _ _ (omega arith) (w.amount_least k lk);
      ticket = λ k. refl;
      distinct = λ k i lk li e. same_place t.tickets w.tickets_differ k i
          (omega (arith, w.shape.tickets_length)) (omega (arith, w.shape.tickets_length)) e;
    }
      where
        positive : (x y : ℕ) → 1 ≤ x → 1 ≤ y → 0 < x * y
        positive x y a b = mul-le-mul a b

    pub all_low : Totals totals
    all_low k lk =
        let l : k < length t.amounts = omega (arith, long _ _ gathered) in
        rw (element _ _ gathered k l) (total_at_low c k j w l lj)

    module _ (f b e : ℕ) (eb : b ≡ get_or t.bays j 0) (few : LeastFew totals b f)
        (tied : TieBound totals t.tickets f (above totals f) b e) where
      capacity_is : Q.bays ≡ b
      unfolding queue screened_at
      capacity_is = sym eb

      critical_here : f ≡ critical Q
      critical_here = critical_is Q totals t.tickets shows f (rw capacity_is few)

      won_here :
          (k : ℕ) → k < length t.amounts → won_by (get_or totals k 0) f (get_or t.tickets k 0) e ≡ provisional Q k
      unfolding queue screened_at
      won_here k lk = provisional_is Q totals t.tickets shows k f e lk (rw capacity_is few) (rw capacity_is tied)

      charge_here :
          (k : ℕ) → k < length t.amounts
          → charge_at least f k ≡ max ((screened_at t c).cut * (screened_at t c).amount k) (critical Q)
      unfolding charge_at screened_at
      charge_here k lk =
          ap₂ max (element _ _ A.least_are k lk) critical_here

      total_here :
          (k : ℕ) → k < length t.amounts → provisional Q k ≡ true → get_or totals k 0 ≡ (screened_at t c).total k j
      unfolding queue screened_at
      total_here k lk p = shows.some k lk (provisional_candidate Q k p)

      surplus_here :
          (k : ℕ) → k < length t.amounts → provisional Q k ≡ true
          → get_or totals k 0 - charge_at least f k ≡ surplus (screened_at t c) k j
      unfolding surplus
      surplus_here k lk p = ap₂ ◌-◌ (total_here k lk p) (charge_here k lk)

      gain_here :
          (k : ℕ) → k < length t.amounts
          → gain_at totals t.tickets least f e k ≡ only (provisional Q k) (surplus (screened_at t c) k j + 1)
      unfolding gain_at gain_for
      gain_here k lk = rw (won_here k lk) (only_cong _ _ _ (λ p. ap (λ x. x + 1) (surplus_here k lk p)))

      pub after_open_turn : (s : ℕ) {chosen₀ gains₀ criticals chosen gains : List ℕ} → s ≡ j + 1
          → After (screened_at t c) (length t.amounts) j chosen₀ gains₀ criticals
          → Offered totals t.tickets least f e s chosen₀ gains₀ chosen gains
          → After (screened_at t c) (length t.amounts) (j + 1) chosen gains (set criticals s f)
      after_open_turn s es h o =
          after_offers (screened_at t c) (length t.amounts) j totals t.tickets least f e s _ _ _
          (long _ _ gathered) es (omega (arith, w.shape.stations_most)) gain_here critical_here all_low h o

      -- the bound is stored at the station's number
      won_there :
          (i : ℕ) → i < length t.amounts → Q.candidate i ≡ true
          → won_by (Q.total i) (critical Q) (Q.key i) e ≡ provisional Q i
      unfolding queue screened_at
      won_there i li q = rw (← shows.some i li q, ← critical_here) (won_here i li)

      pub bounded_open : {s : ℕ} {bounds : List ℕ} → s ≡ j + 1 → j < max_stations
          → Bounded (screened_at t c) (length t.amounts) j bounds
          → Bounded (screened_at t c) (length t.amounts) (j + 1) (set bounds s e)
      unfolding queue
      bounded_open {s} {bounds} es few_stations h =
          let at : get_or (set bounds s e) s 0 ≡ e
          = get_or-set_same bounds s e 0 (omega (arith, h.bounds_long)) in
          record {
            bounds_long = length-set bounds s e ∙ h.bounds_long;
            wins = λ i k li lk q. ⊎_elim
                (λ (y : k ≡ j). rw (y, ← add-one j, ← es, at) (won_there i li (rw y at q)))
                (λ (y : k ≡ j → ⊥). rw (get_or-set_other bounds s (suc k) e 0 (omega arith))
                (h.wins i k li (omega arith) q))
                (eq_or_ne k j);
          }

-- what `offer` asks of its lists
total_covers : (bid amount cut : ℕ) → 0 < total_for bid amount cut → cut * amount ≤ total_for bid amount cut
total_covers bid amount cut p = ⊎_elim
    (λ (a : bid < cut). absurd (omega (arith, total_no bid amount cut a)))
    (λ (a : cut ≤ bid). omega (arith, total_yes bid amount cut a, mul-le-mul_right amount a))
    (lt_or_le bid cut)

pub offerable :
    (t : Tables) (c j : ℕ) {f a b e : ℕ} {least totals chosen gains criticals : List ℕ}
    → WithinLimits t → AtCut t c least → j < length t.asks
    → totals ≡ list (length t.amounts) (total_at t.bids t.amounts (length t.asks) j c) → Totals totals
    → f ≤ max_total → TieBound totals t.tickets f a b e
    → After (screened_at t c) (length t.amounts) j chosen gains criticals
    → Offerable totals t.tickets least f e chosen gains
offerable t c j {least = least} {totals} w A lj g low fl tied a =
    let n : length totals ≡ length t.amounts = long _ _ g in
    let m : length least ≡ length t.amounts = long _ _ A.least_are in
    record {
      few = omega (arith, w.shape.guests_most);
      tickets_long = w.shape.tickets_length ∙ sym n;
      least_long = m ∙ sym n;
      chosen_long = long _ _ a.chosen_are ∙ sym n;
      gains_long = long _ _ a.gains_are ∙ sym n;
      totals_low = low;
      least_low = λ k lk. let l : k < length t.amounts = omega arith in
          rw (element _ _ A.least_are k l) (product _ _ A.cut_low (w.amount_most k l));
      gains_low = λ k lk. a.gains_low k (omega (arith, long _ _ a.gains_are));
      critical_low = fl;
      covers = λ k lk p. let l : k < length t.amounts = omega arith in
          rw (element _ _ g k l, element _ _ A.least_are k l) (total_covers _ _ c (rw (element _ _ g k l) at p));
      no_tie = tied.none;
    }

-- no total is above the greatest, which is within the limits, and so is the critical total
module _ {n : ℕ} {f : ℕ → ℕ} {totals : List ℕ} {top : ℕ} (g : Gathered n f totals top) where
  pub none_above : above totals top ≡ 0
  none_above = rw g.greatest_is (above_greatest _ _ _ g.totals_are)

  module _ (low : Totals totals) where
    pub top_low : top ≤ max_total
    top_low =
        rw g.greatest_is (greatest_le n f max_total
        (λ k lk. omega (arith, element _ _ g.totals_are k lk, low k (omega (arith, long _ _ g.totals_are)))))

    pub critical_low : {b t a : ℕ} → Selected totals b t a → t ≤ max_total
    critical_low s = omega (arith, selected_low {top = top} s none_above, top_low)

-- a station that is open, and the totals that are gathered for it. The market is u by its lists and t by its view
pub record Opened (u : Tables) (c : ℕ) (least : List ℕ) (j : ℕ) (totals : List ℕ) (top : ℕ) : Type 0 where
  pub within : WithinLimits u
  pub at_cut : AtCut u c least
  pub number : j < length u.asks
  pub opens : get_or u.asks j 0 < c
  pub gathered : GatheredAt u j c totals top
  pub low : Totals totals

pub opened :
    {t u : Tables} {c : ℕ} {least : List ℕ} {j : ℕ} {totals : List ℕ} {top : ℕ} → u ≡ t → WithinLimits u
    → AtCut t c least → j < length t.asks → (get_or u.asks j 0 <? c) ≡ true → GatheredAt u j c totals top
    → Opened u c least j totals top
opened {t} {u} {c} {least} {j} e w A lj o g =
    let lu : j < length u.asks = omega (arith, as_many e) in
    let A' : AtCut u c least = rw (e) A in
    record {
      within = w;
      at_cut = A';
      number = lu;
      opens = lt_yes _ _ o;
      gathered = g;
      low = all_low u c least w A' j lu (lt_yes _ _ o) _ g.totals_are;
    }

module _ {u : Tables} {c : ℕ} {least : List ℕ} {j : ℕ} {totals : List ℕ} {top : ℕ}
    (o : Opened u c least j totals top) where
  pub few : length totals ≤ max_guests
  few = omega (arith, long _ _ o.gathered.totals_are, o.within.shape.guests_most)

  module _ {b t a : ℕ} (s : Selected totals b t a) where
    pub total_low : t ≤ max_total
    total_low = critical_low o.gathered o.low s

    pub tying :
        {v : Tables} (rising : Bool) → u ≡ v → rising ≡ rising_of v.tickets
        → Tying totals u.tickets rising t a b
    tying rising v r = record {
      few = few;
      as_long = o.within.shape.tickets_length ∙ sym (long _ _ o.gathered.totals_are);
      differ = o.within.tickets_differ;
      rise = rw (v) r;
      low = total_low;
      above_few = rw s.counted s.least_few.few;
      crowded = crowded _ s;
    }

    module _ {e : ℕ} (tied : TieBound totals u.tickets t a b e) where
      pub offered :
          {v : Tables} {chosen gains criticals : List ℕ} → u ≡ v → AfterIn v c j chosen gains criticals
          → Offerable totals u.tickets least t e chosen gains
      offered {chosen = chosen} {gains} {criticals} v after =
          let a : AfterIn u c j chosen gains criticals = rw (v) after in
          offerable u c j o.within o.at_cut o.number o.gathered.totals_are o.low total_low tied a

      pub turned :
          {v : Tables} {chosen₀ gains₀ criticals chosen gains bounds : List ℕ} (entry : List ℕ) (n x : ℕ) → u ≡ v
          → n ≡ j + 1 → b ≡ get_or u.bays j 0 → x ≡ t → AfterIn v c j chosen₀ gains₀ criticals
          → BoundedIn v c j bounds → Offered totals u.tickets least t e n chosen₀ gains₀ chosen gains
          → AfterIn v c (j + 1) chosen gains (set criticals n x)
          × (totals ≡ turn_totals v c j entry) × BoundedIn v c (j + 1) (set bounds n e)
      unfolding turn_totals gathered_if
      turned entry n x v en eb ex after bounded of = rw (← v) (
        rw ex (after_open_turn u c least o.within o.at_cut j o.number o.opens totals o.gathered.totals_are t b e eb
            s.least_few (rw (← s.counted) tied) n en (rw (v) after) of),
        rw (is_lt _ _ o.opens) o.gathered.totals_are,
        bounded_open u c least o.within o.at_cut j o.number o.opens totals o.gathered.totals_are t b e eb s.least_few
            (rw (← s.counted) tied) en (omega (arith, o.number, o.within.shape.stations_most)) (rw (v) bounded),
      )

-- a station that is not
pub left :
    {t u : Tables} (c j : ℕ) (entry : List ℕ) {chosen gains criticals bounds : List ℕ} → u ≡ t
    → (get_or u.asks j 0 <? c) ≡ false → AfterIn t c j chosen gains criticals → BoundedIn t c j bounds
    → AfterIn t c (j + 1) chosen gains criticals × (entry ≡ turn_totals t c j entry) × BoundedIn t c (j + 1) bounds
unfolding turn_totals gathered_if
left {t} {u} c j entry e o after bounded = rw (← e) (
  after_closed u c j (lt_no _ _ o) _ (rw (e) after),
  rw o refl,
  bounded_closed u c j (lt_no _ _ o) _ (rw (e) bounded),
)
