-- The price list of a guest, proved: the menu of proofs/market/Menus as lists, and a row by them.
use Prim.Native.Nat.{ℕ, ◌+◌, ◌*◌, ◌-◌, ◌/◌, ◌%◌, ◌≤◌, ◌<◌}
use mathlib.Core.List.{List}
use mathlib.Core.Path.{◌≡◌, refl, sym, ap, ap₂, subst, ◌∙◌}
use native.Mathlib.Nat.{mul-le-mul_right, mul-mod_left, mul-div_cancel, div-add-mod'}
use native.Mathlib.Omega.{arith}
use mathlib.Core.Bool.{true, false, cond}
use lib.IntN.{ℤ, pos, sub_ℕ}
use lib.ListN.{get_or, length, replicate, length-replicate}
use Rattle.model.specs.Counting.{◌<?◌, ◌≤?◌, ◌=?◌, ◌or◌, only}
use Rattle.model.specs.Promises.{RepliesOut}
use Rattle.model.specs.Verdicts.{accepted, first_fault}
use Rattle.model.specs.Limits.{max_price}
use Rattle.model.specs.market.Market.{Tables, bid_at, Market, market_by, market, cut, opens, screen}
use Rattle.model.specs.market.Market.{queue, provisional}
use Rattle.model.specs.market.Outcome.{screened, decision, outcome, outcome_by}
use Rattle.model.specs.market.Mechanism.{at, charge, charged, obtained, truthful}
use Rattle.model.specs.market.Faults.{Accepted, unknown_rule, verdict, market_faults}
use Rattle.model.specs.market.Marking.{round_of}
use Rattle.model.specs.market.Gains.{guest_gain}
use Rattle.model.specs.market.Rules.{position, rule_of}
use Rattle.model.specs.market.Changes.{with_row, gain}
use Rattle.model.specs.market.Menus.{Menu, choice, menu_of, no_bar, PriceList, price_list, listed, price_list_by}
use Rattle.model.specs.market.Menus.{station_from, charge_from, gain_from, row_in, gains_from, list_faults}
use Rattle.model.specs.market.Menus.{listing_faults, gain_faults, gaining_faults}
use Rattle.model.specs.claims.Truth.{screened_by, AlikeButForGuest}
use Rattle.model.specs.claims.OtherRows.{RowFits, assigned_by, gain_by}
use Rattle.model.specs.clauses.EntryPoints.{listing, gaining}
use Rattle.model.specs.claims.Marking.{FullyCleared}
use Rattle.model.specs.claims.Menus.{PriceListStays, PriceListStaysUnder, ListsRead, ListsReadUnder}
use Rattle.model.specs.claims.Menus.{PlacesByList, PlacesByListUnder}
use Rattle.model.specs.claims.Menus.{RowsByList, RowsByListUnder, WorthsGainMost, WorthsGainMostUnder}
use Rattle.model.specs.claims.Menus.{ListingWithinLimits, ListingAcceptedIffWithinLimits, RowsFit}
use Rattle.model.specs.claims.Menus.{GainingWithinLimits, GainingAcceptedIffWithinLimits, ListedIffWithinLimits}
use Rattle.model.specs.claims.Menus.{GainedIffWithinLimits, ListedCall, GainedCall, ListedCallExists}
use Rattle.model.specs.claims.Menus.{GainedCallExists, PriceListStaysCalls, PlacesByListCalls}
use Rattle.model.specs.claims.Menus.{GainsAreSecondGains, GainedRowsTriable, NoGainAboveWorths}
use Rattle.model.proofs.Tests.{or_no, neither, only_yes, only_no, lt_no, not_lt, le_yes, is_le, eq_no, not_eq}
use Rattle.model.proofs.Counting.{none_any, length_list, get_d_list}
use Rattle.model.proofs.Singles.{singles_long, singles_at}
use Rattle.model.proofs.Promises.{keeps_zero}
use Rattle.model.proofs.Verdicts.{fault_none, no_fault, no_faults, fault_second, fault_free, number_accepted}
use Rattle.model.proofs.market.Acceptance.{accepted_iff_within_limits, equal, not_unequal, not_outside, known}
use Rattle.model.proofs.market.Acceptance.{is_known, all_inside}
use Rattle.model.proofs.market.Changes.{with_row_replaces_row, bid_at_most}
use Rattle.model.proofs.market.Decisions.{candidate_open, candidate_bid}
use Rattle.model.proofs.market.Truthful.{tickets_single, candidate_held}
use Rattle.model.proofs.market.Menus.{choice_truth, menu_below, menu_near, rebid, menu_provisional, menu_charge}
use Rattle.model.proofs.market.Menus.{listed_bar, listed_at, listed_test, listed_price, listed_choice}
use Rattle.model.proofs.market.Menus.{listed_charge, choice_cong, listed_stays}
use Rattle.model.proofs.claims.Truth.{rebid_market, by_menu, signed_iff_unsigned}
use Rattle.model.proofs.claims.Promises.{zero_is_accepted, faults_numbered_from_one}
use Rattle.model.proofs.claims.Marking.{given_is, cleared_within, fully_cleared_shows}
use Rattle.model.proofs.claims.OtherRows.{second_gave, tried_call_exists}

-- ---- the list stays

abbrev ListIs : Tables → (i : ℕ) → PriceList → Market → Type 0
ListIs t i L N = listed (length t.asks) (menu_of N i) ≡ L

rebid_list :
    (rule : ℕ → ℕ) (t t' : Tables) (i : ℕ) → AlikeButForGuest t t' i
    → ListIs t i (price_list_by rule t i) (rebid (market_by rule t) (bid_at t'))
unfolding price_list_by market_by
rebid_list rule t t' i A = listed_stays (market_by rule t) i (bid_at t') A.same_bids

pub price_list_stays : PriceListStays
unfolding price_list_by
price_list_stays rule t t' i A =
    ap (λ x. listed (length x) (menu_of (market_by rule t') i)) A.same_asks
    ∙ subst (ListIs t i (price_list_by rule t i)) (rebid_market t t' i A rule) (rebid_list rule t t' i A)

pub price_list_stays_under : PriceListStaysUnder
price_list_stays_under rule = price_list_stays (position rule)

pub lists_read : ListsRead
unfolding price_list_by menu_of market_by
lists_read rule t i j lj =
    let M = market_by rule t in
    let bar = listed_bar (length t.asks) (menu_of M i) j lj in
    let price = listed_at (length t.asks) (menu_of M i) j lj in
    record {
      closed = λ o. (bar ∙ rw o refl, price ∙ only_no _ _ o);
      covers_cut = λ o. omega (arith, price, only_yes (opens M j) ((menu_of M i).price j) o);
      near = λ o.
          let b : cond (opens M j) ((menu_of M i).bar j) no_bar ≡ (menu_of M i).bar j = rw o refl in
          let p : only (opens M j) ((menu_of M i).price j) ≡ (menu_of M i).price j = only_yes _ _ o in
          (omega (arith, bar, price, menu_below M i j), omega (arith, bar, price, menu_near M i j));
    }

pub lists_read_under : ListsReadUnder
lists_read_under rule = lists_read (position rule)

-- ---- places, and rows

module _ (rule : ℕ → ℕ) (t : Tables) (i : ℕ) (a : Accepted t) (li : i < length t.amounts) where
  abbrev M : Market
  M = market_by rule t

  abbrev U : Menu
  U = menu_of M i

  -- no total comes to the bar of a station that is not open
  total_low : (bid : ℕ) → bid ≤ max_price → bid * get_or t.amounts i 0 < no_bar
  total_low bid h =
      let w = (accepted_iff_within_limits t).0 a in
      omega (arith, mul-le-mul_right (get_or t.amounts i 0) h, w.amount_most i li)

  -- with other bids of its own guest i holds a place where its total reaches the bar, and is charged the price
  module _ (b : ℕ → ℕ → ℕ) (j : ℕ) (lj : j < length t.asks) (most : b i j ≤ max_price)
      (alike : (k : ℕ) → k < length t.amounts → (k ≡ i → ⊥) → b k j ≡ bid_at t k j) where
    place_by_bar :
        provisional (queue (screen (rebid M b)) j) i
        ≡ (get_or (price_list_by rule t i).bars j 0 ≤? b i j * get_or t.amounts i 0)
    unfolding price_list_by market_by
    place_by_bar =
        let w = (accepted_iff_within_limits t).0 a in
        menu_provisional M (tickets_single t a) i li (w.amount_least i li) b j (w.bays_least j lj) alike
        ∙ sym (listed_test (length t.asks) U j lj _ (total_low (b i j) most))

    charge_by_price :
        provisional (queue (screen (rebid M b)) j) i ≡ true
        → charge (screen (rebid M b)) (truthful (screen (rebid M b))) i j ≡ get_or (price_list_by rule t i).prices j 0
    unfolding price_list_by market_by menu_of opens cut
    charge_by_price h =
        let w = (accepted_iff_within_limits t).0 a in
        menu_charge M (tickets_single t a) i li (w.amount_least i li) b j (w.bays_least j lj) alike h
        ∙ sym (listed_price (length t.asks) U j lj
        (candidate_open (rebid M b) i j (candidate_held (screen (rebid M b)) i j h)))

  -- the list's choice and charge for a row are the menu's
  module _ (row : List ℕ) (w : RowFits t row) where
    abbrev total : ℕ → ℕ
    total j = get_or row j 0 * get_or t.amounts i 0

    row_low : (j : ℕ) → j < length t.asks → total j < no_bar
    row_low j lj = total_low (get_or row j 0) (w.row_most j (omega (arith, w.row_length)))

    station_by_menu : station_from (price_list_by rule t i) (get_or t.amounts i 0) row ≡ choice (length t.asks) U total
    unfolding station_from price_list_by listed
    station_by_menu =
        rw (length_list (length t.asks))
        (listed_choice (length t.asks) U total (λ j lj. row_low j lj))

    charge_by_menu :
        charge_from (price_list_by rule t i) (get_or t.amounts i 0) row
        ≡ at U.price (choice (length t.asks) U total)
    unfolding charge_from price_list_by
    charge_by_menu =
        ap (at (λ j. get_or (price_list_by rule t i).prices j 0)) station_by_menu
        ∙ listed_charge (length t.asks) U total (λ j lj. row_low j lj)

    abbrev t' : Tables
    t' = with_row t i row

    totals_are : choice (length t.asks) U ((screened_by rule t').total i) ≡ choice (length t.asks) U total
    unfolding screen market_by
    totals_are = choice_cong (length t.asks) U _ _
        (λ j lj. ap (λ x. x * get_or t.amounts i 0) ((with_row_replaces_row t i row li).replaced j lj))

    station_by_list : assigned_by rule t' i ≡ station_from (price_list_by rule t i) (get_or t.amounts i 0) row
    station_by_list =
        (by_menu rule t i a li t' (with_row_replaces_row t i row li).alike).0 ∙ totals_are ∙ sym station_by_menu

    charge_by_list :
        charged (screened_by rule t') (truthful (screened_by rule t')) i
        ≡ charge_from (price_list_by rule t i) (get_or t.amounts i 0) row
    charge_by_list =
        (by_menu rule t i a li t' (with_row_replaces_row t i row li).alike).1 ∙ ap (at U.price) totals_are
        ∙ sym charge_by_menu

    gain_by_list :
        (worths : List ℕ)
        → gain_from (price_list_by rule t i) (get_or t.amounts i 0) worths row ≡ gain_by rule t' i worths
    unfolding gain_from guest_gain obtained screen market_by
    gain_by_list worths =
        ap₂ sub_ℕ (ap (at (λ j. get_or worths j 0 * get_or t.amounts i 0)) (sym station_by_list)) (sym charge_by_list)

pub places_by_list : PlacesByList
unfolding market_by
places_by_list rule t i j a li lj =
    let most = bid_at_most t a i j li lj in
    let held = place_by_bar rule t i a li (bid_at t) j lj most (λ k lk n. refl) in
    record {
      by_bar = held;
      in_words = (
        λ h. let c = candidate_held (screened_by rule t) i j h in (
          candidate_open (market_by rule t) i j c,
          candidate_bid (market_by rule t) i j c,
          le_yes _ _
              (sym held ∙ h),
        ),
        λ (o, b, l). held ∙ is_le _ _ l,
      );
      at_price = charge_by_price rule t i a li (bid_at t) j lj most (λ k lk n. refl);
    }

pub places_by_list_under : PlacesByListUnder
places_by_list_under rule = places_by_list (position rule)

pub rows_by_list : RowsByList
unfolding market_by
rows_by_list rule t i row a li w =
    let r = with_row_replaces_row t i row li in
    record {
      places = λ j lj.
          let e = r.replaced j lj in
          place_by_bar rule t i a li (bid_at (with_row t i row)) j lj
          (rw e (w.row_most j (omega (arith, w.row_length)))) (λ k lk n. r.alike.same_bids k j lk lj n)
          ∙ ap (λ x. get_or (price_list_by rule t i).bars j 0 ≤? x * get_or t.amounts i 0) e;
      station = station_by_list rule t i a li row w;
      charge = charge_by_list rule t i a li row w;
      gain = gain_by_list rule t i a li row w;
    }

pub rows_by_list_under : RowsByListUnder
rows_by_list_under rule = rows_by_list (position rule)

-- as sums without subtraction
no_more :
    (rule : ℕ → ℕ) (t : Tables) (i : ℕ) (worths row : List ℕ) → Accepted t → i < length t.amounts → RowFits t worths
    → RowFits t row → let L = price_list_by rule t i in let amount = get_or t.amounts i 0 in
    let w : ℕ → ℕ = λ j. get_or worths j 0 * amount in
    at w (station_from L amount row) + charge_from L amount worths
    ≤ at w (station_from L amount worths) + charge_from L amount row
no_more rule t i worths row a li v w =
    rw (
      station_by_menu rule t i a li row w,
      station_by_menu rule t i a li worths v,
      charge_by_menu rule t i a li row w,
      charge_by_menu rule t i a li worths v,
    ) (choice_truth (length t.asks) (menu_of (market_by rule t) i) (menu_below (market_by rule t) i)
    (menu_near (market_by rule t) i) (λ j. get_or worths j 0 * get_or t.amounts i 0)
    (λ j. get_or row j 0 * get_or t.amounts i 0))

pub worths_gain_most : WorthsGainMost
unfolding gain_from
worths_gain_most rule t i worths row a li v w =
    (signed_iff_unsigned _ _ _ _).1 (no_more rule t i worths row a li v w)

pub worths_gain_most_under : WorthsGainMostUnder
worths_gain_most_under rule = worths_gain_most (position rule)

-- ---- acceptance

guest_there : (n guest : ℕ) → (guest =? 0 or n <? guest) ≡ false → (1 ≤ guest) × (guest ≤ n)
guest_there n guest e = let (none, over) = or_no _ _ e in (omega (arith, eq_no _ _ none), lt_no _ _ over)

is_there : (n guest : ℕ) → 1 ≤ guest → guest ≤ n → (guest =? 0 or n <? guest) ≡ false
is_there n guest l h = neither (not_eq guest 0 (λ e. omega arith)) (not_lt _ _ h)

module _ (rule : ℕ) (t : Tables) (guest bars prices : ℕ) where
  listing_within :
      first_fault (listing_faults rule t guest bars prices) ≡ accepted tt → ListingWithinLimits rule t guest bars prices
  unfolding verdict listing_faults list_faults unknown_rule
  listing_within e =
      let (n, e0) = no_fault _ _ _ e in
      let (market, e1) = no_faults (market_faults t) _ e0 in
      let (there, e2) = no_fault _ _ _ e1 in
      let (lists, e3) = no_fault _ _ _ e2 in
      let (b, p) = or_no _ _ lists in
      let (least, most) = guest_there _ _ there in
      record {
        rule_known = known rule n;
        market_accepted = market;
        guest_least = least;
        guest_most = most;
        bars_long = equal _ _ b;
        prices_long = equal _ _ p;
      }

  listing_accept :
      ListingWithinLimits rule t guest bars prices → first_fault (listing_faults rule t guest bars prices) ≡ accepted tt
  unfolding verdict listing_faults list_faults unknown_rule
  listing_accept w =
      fault_free _ _ (is_known rule w.rule_known) (fault_second (market_faults t) _ w.market_accepted
      ∙ fault_free _ _ (is_there _ _ w.guest_least w.guest_most)
      (fault_free _ _ (neither (not_unequal _ _ w.bars_long) (not_unequal _ _ w.prices_long)) fault_none))

pub listing_accepted_iff_within_limits : ListingAcceptedIffWithinLimits
listing_accepted_iff_within_limits rule t guest bars prices =
    (listing_within rule t guest bars prices, listing_accept rule t guest bars prices)

-- whole rows
whole : (x k m : ℕ) → x % m ≡ 0 → k ≡ x / m → x ≡ k * m
whole x k m r e = rw e (omega (arith, div-add-mod' x m))

-- so many rows of m
parts : (x k m : ℕ) → 0 < m → x ≡ k * m → x / m ≡ k
parts x k m l e = ap (λ y. y / m) e ∙ mul-div_cancel k l

module _ (rule : ℕ) (t : Tables) (guest : ℕ) (worths rows : List ℕ) (gains : ℕ) where
  gaining_within :
      first_fault (gaining_faults rule t guest worths rows gains) ≡ accepted tt
      → GainingWithinLimits rule t guest worths rows gains
  unfolding verdict gaining_faults gain_faults unknown_rule
  gaining_within e =
      let (n, e0) = no_fault _ _ _ e in
      let (market, e1) = no_faults (market_faults t) _ e0 in
      let (there, e2) = no_fault _ _ _ e1 in
      let (lists, e3) = no_fault _ _ _ e2 in
      let (long, e4) = no_fault _ _ _ e3 in
      let (low, e5) = no_fault _ _ _ e4 in
      let (v, r) = or_no _ _ lists in
      let (worths_low, rows_low) = or_no _ _ low in
      let (least, most) = guest_there _ _ there in
      record {
        rule_known = known rule n;
        market_accepted = market;
        guest_least = least;
        guest_most = most;
        worths_fit = record {
          row_length = equal _ _ v;
          row_most = λ j lj. (all_inside 0 max_price worths worths_low j lj).1;
        };
        rows_fit = record {
          rows_length = whole _ _ _ (equal _ _ r) (equal _ _ long);
          rows_most = λ q lq. (all_inside 0 max_price rows rows_low q lq).1;
        };
      }

  gaining_accept :
      GainingWithinLimits rule t guest worths rows gains
      → first_fault (gaining_faults rule t guest worths rows gains) ≡ accepted tt
  unfolding verdict gaining_faults gain_faults unknown_rule
  gaining_accept w =
      let some : 0 < length t.asks = ((accepted_iff_within_limits t).0 w.market_accepted).shape.stations_least in
      let long = w.rows_fit.rows_length in
      let rest : length rows % length t.asks ≡ 0 =
      ap (λ x. x % length t.asks) long ∙ mul-mod_left gains (length t.asks) in
      fault_free _ _ (is_known rule w.rule_known) (fault_second (market_faults t) _ w.market_accepted
      ∙ fault_free _ _ (is_there _ _ w.guest_least w.guest_most)
      (fault_free _ _ (neither (not_unequal _ _ w.worths_fit.row_length) (not_unequal _ _ rest))
      (fault_free _ _ (not_unequal _ _ (sym (parts (length rows) gains (length t.asks) some long)))
      (fault_free _ _ (neither
      (none_any worths _ (λ j lj. not_outside 0 max_price _ (omega arith) (w.worths_fit.row_most j lj)))
      (none_any rows _ (λ q lq. not_outside 0 max_price _ (omega arith) (w.rows_fit.rows_most q lq))))
      fault_none))))

pub gaining_accepted_iff_within_limits : GainingAcceptedIffWithinLimits
gaining_accepted_iff_within_limits rule t guest worths rows gains =
    (gaining_within rule t guest worths rows gains, gaining_accept rule t guest worths rows gains)

-- ---- over calls of `menu`

module _ (rule : ℕ) (t : Tables) (guest : ℕ) where
  listed_zero :
      (entry exit : PriceList) → RepliesOut (listing rule t guest) entry 0 exit
      → ListingWithinLimits rule t guest (length entry.bars) (length entry.prices)
      × (exit ≡ price_list_by (position (rule_of rule)) t (guest - 1))
  unfolding listing
  listed_zero entry exit c =
      let (none, left, _) = zero_is_accepted Unit PriceList (listing rule t guest) entry exit tt tt
      (faults_numbered_from_one.of_listing rule t guest entry) c in
      (listing_within rule t guest _ _ none, left)

  module _ (k : ListedCall rule t guest) where
    list_within : ListingWithinLimits rule t guest (length k.entry.bars) (length k.entry.prices)
    list_within = (listed_zero _ _ k.call).0

    list_is : k.exit ≡ price_list_by (position (rule_of rule)) t (guest - 1)
    list_is = (listed_zero _ _ k.call).1

pub listed_iff_within_limits : ListedIffWithinLimits
unfolding listing
listed_iff_within_limits rule t guest entry exit number c = (
  λ z. (listed_zero rule t guest entry exit (rw z at c)).0,
  λ w. c.number_is ∙ number_accepted (listing_accept rule t guest _ _ w),
)

pub listed_call_exists : ListedCallExists
unfolding listing
listed_call_exists rule t guest names a least most = record {
  entry = price_list (replicate (length t.asks) 0) (replicate (length t.asks) 0);
  exit = price_list_by (position (rule_of rule)) t (guest - 1);
  call = keeps_zero tt (listing_accept rule t guest _ _ (record {
    rule_known = names;
    market_accepted = a;
    guest_least = least;
    guest_most = most;
    bars_long = length-replicate {A = ℕ} (length t.asks) 0;
    prices_long = length-replicate {A = ℕ} (length t.asks) 0;
  }));
}

pub price_list_stays_calls : PriceListStaysCalls
price_list_stays_calls rule t t' guest k k' A =
    list_is rule t' guest k' ∙ price_list_stays (position (rule_of rule)) t t' (guest - 1) A
    ∙ sym (list_is rule t guest k)

-- the cut that a call gives
cut_given : (rule : ℕ) (t : Tables) (c : FullyCleared rule t) → c.cut ≡ cut (market_by (position (rule_of rule)) t)
unfolding round_of outcome outcome_by screened screen market
cut_given rule t c = ap (λ s. s.cut) (given_is rule t c)

pub places_by_list_calls : PlacesByListCalls
places_by_list_calls rule t t' guest k c A j lj =
    let i = guest - 1 in
    let w = list_within rule t guest k in
    let li : i < length t'.amounts =
    omega (arith, w.guest_least, w.guest_most, ap length A.same_amounts) in
    let lj' : j < length t'.asks = omega (arith, ap length A.same_asks) in
    let here = places_by_list (position (rule_of rule)) t' i j (cleared_within rule t' c).market_accepted li lj' in
    let shown = fully_cleared_shows rule t' c i j li lj' in
    let is : k.exit ≡ price_list_by (position (rule_of rule)) t' i =
    list_is rule t guest k ∙ sym (price_list_stays (position (rule_of rule)) t t' i A) in
    let place = shown.place_shown in
    rw is record {
      by_bar = (
        λ p. (here.in_words.0 (place.0 p)).2,
        λ l. place.1 (here.by_bar ∙ is_le _ _ l),
      );
      in_words = (
        λ p. let (_, bid, total) = here.in_words.0 (place.0 p) in (rw (cut_given rule t' c) bid, total),
        λ (_, l). place.1 (here.by_bar ∙ is_le _ _ l),
      );
      at_price = λ p. shown.charge_shown ∙ here.at_price (place.0 p);
    }

-- ---- over calls of `gains`

module _ (rule : ℕ) (t : Tables) (guest : ℕ) (worths rows : List ℕ) where
  abbrev i : ℕ
  i = guest - 1

  abbrev gains : List ℤ
  gains = gains_from (price_list_by (position (rule_of rule)) t i) (get_or t.amounts i 0) worths (length t.asks) rows
      (length rows / length t.asks)

  gained_zero :
      (entry exit : List ℤ) → RepliesOut (gaining rule t guest worths rows) entry 0 exit
      → GainingWithinLimits rule t guest worths rows (length entry) × (exit ≡ gains)
  unfolding gaining
  gained_zero entry exit c =
      let (none, left, _) = zero_is_accepted Unit (List ℤ) (gaining rule t guest worths rows) entry exit tt tt
      (faults_numbered_from_one.of_gaining rule t guest worths rows entry) c in
      (gaining_within rule t guest worths rows _ none, left)

  abbrev row : ℕ → List ℕ
  row r = row_in (length t.asks) rows r

  -- each of k rows fits
  row_fits : (k : ℕ) → RowsFit t rows k → (r : ℕ) → r < k → RowFits t (row r)
  unfolding row_in
  row_fits k w r lr =
      let long = length_list (length t.asks) (λ j. get_or rows (r * length t.asks + j) 0) in
      record {
        row_length = long;
        row_most = λ j lj.
            let lj' : j < length t.asks = omega arith in
            rw (get_d_list (length t.asks) (λ j. get_or rows (r * length t.asks + j) 0) j lj')
            (w.rows_most _ (omega (arith, w.rows_length, mul-le-mul_right (length t.asks) lr)));
      }

  module _ (g : GainedCall rule t guest worths rows) where
    gain_within : GainingWithinLimits rule t guest worths rows (length g.entry)
    gain_within = (gained_zero _ _ g.call).0

    gains_are : g.exit ≡ gains
    gains_are = (gained_zero _ _ g.call).1

    guest_below : i < length t.amounts
    guest_below = omega (arith, gain_within.guest_least, gain_within.guest_most)

    row_count : length rows / length t.asks ≡ length g.entry
    row_count =
        let some = ((accepted_iff_within_limits t).0 gain_within.market_accepted).shape.stations_least in
        parts (length rows) (length g.entry) (length t.asks) some gain_within.rows_fit.rows_length

    exit_long : length g.exit ≡ length g.entry
    unfolding gains_from
    exit_long = ap length gains_are ∙ singles_long _ _ ∙ row_count

    gained_row : (r : ℕ) → r < length g.exit → RowFits t (row r)
    gained_row r lr = row_fits (length g.entry) gain_within.rows_fit r (omega (arith, exit_long))

    gained_at :
        (r : ℕ) → r < length g.exit
        → get_or g.exit r (pos 0)
        ≡ gain_from (price_list_by (position (rule_of rule)) t i) (get_or t.amounts i 0) worths (row r)
    unfolding gains_from
    gained_at r lr =
        ap (λ l. get_or l r (pos 0)) gains_are ∙ singles_at _ _ r (pos 0) (omega (arith, exit_long, row_count))

pub gained_iff_within_limits : GainedIffWithinLimits
unfolding gaining
gained_iff_within_limits rule t guest worths rows entry exit number c = (
  λ z. (gained_zero rule t guest worths rows entry exit (rw z at c)).0,
  λ w. c.number_is ∙ number_accepted (gaining_accept rule t guest worths rows _ w),
)

pub gained_call_exists : GainedCallExists
unfolding gaining
gained_call_exists rule t guest worths rows k names a least most fits fits' =
    let long : length (replicate k (pos 0)) ≡ k = length-replicate {A = ℤ} k (pos 0) in
    record {
      entry = replicate k (pos 0);
      exit = gains rule t guest worths rows;
      call = keeps_zero tt (gaining_accept rule t guest worths rows (length (replicate k (pos 0))) (record {
        rule_known = names;
        market_accepted = a;
        guest_least = least;
        guest_most = most;
        worths_fit = fits;
        rows_fit = rw long fits';
      }));
    }

pub gained_rows_triable : GainedRowsTriable
gained_rows_triable rule t guest worths rows g r lr =
    let w = gain_within rule t guest worths rows g in
    tried_call_exists rule t guest worths _ w.rule_known w.market_accepted w.guest_least w.guest_most
    w.worths_fit (gained_row rule t guest worths rows g r lr)

pub gains_are_second_gains : GainsAreSecondGains
unfolding gain decision screened market
gains_are_second_gains rule t guest worths rows g =
    let w = gain_within rule t guest worths rows g in
    record {
      one_each = rw (exit_long rule t guest worths rows g) w.rows_fit.rows_length;
      second_gains = λ r lr c.
          gained_at rule t guest worths rows g r lr
          ∙ (rows_by_list (position (rule_of rule)) t (guest - 1) _ w.market_accepted
          (guest_below rule t guest worths rows g) (gained_row rule t guest worths rows g r lr)).gain worths
          ∙ sym (second_gave rule t guest worths _ c);
    }

pub no_gain_above_worths : NoGainAboveWorths
no_gain_above_worths rule t guest worths rows rows' g g' r q lr lq e =
    let w = gain_within rule t guest worths rows g in
    rw (gained_at rule t guest worths rows g r lr, gained_at rule t guest worths rows' g' q lq, e)
    (worths_gain_most (position (rule_of rule)) t (guest - 1) worths _ w.market_accepted
    (guest_below rule t guest worths rows g) w.worths_fit (gained_row rule t guest worths rows g r lr))
