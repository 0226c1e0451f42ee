-- Request 13, proved: two lists that a test finds the same are equal; calls show what the definitions say.
use Prim.Native.Nat.{ℕ, suc, ◌+◌, ◌*◌, ◌≤◌, ◌<◌, max}
use mathlib.Core.Bool.{Bool, true, false, not}
use mathlib.Core.List.{List}
use mathlib.Core.Logic.{◌↔◌, ⊎_elim}
use mathlib.Core.Path.{◌≡◌, refl, sym, ap, subst, ◌∙◌}
use native.Mathlib.Nat.{le_refl, le_antisymm, mul-le-mul_right}
use native.Mathlib.Omega.{arith}
use borrow.Author.Tests.{not-true}
use lib.ListN.{get_or, length, replicate, length-replicate, length-append, get_or-eq_default}
use lib.Seq.{ext_get_or}
use Rattle.model.specs.Limits.{max_price, max_amount}
use Rattle.model.specs.Counting.{◌=?◌, only}
use Rattle.model.specs.Promises.{KeepsOut}
use Rattle.model.specs.Verdicts.{accepted, first_fault}
use Rattle.model.specs.market.Market.{Tables, market_by, market, opens, screen, queue, provisional, critical}
use Rattle.model.specs.market.Mechanism.{at, charge, truthful}
use Rattle.model.specs.market.Outcome.{outcome_by, screened, decision, outcome}
use Rattle.model.specs.market.Reasons.{guest_outcomes}
use Rattle.model.specs.market.Rules.{position, rule_of}
use Rattle.model.specs.market.Faults.{Accepted, unknown_rule, verdict, market_faults, counts, lengths}
use Rattle.model.specs.market.Marking.{FullResults, full_results, Submission, place_table, floors_of, full_results_of}
use Rattle.model.specs.market.Marking.{round_of, same, same_results, same_submission, correct, full_lengths}
use Rattle.model.specs.market.Marking.{full_table_faults, marking_faults}
use Rattle.model.specs.clauses.EntryPoints.{clearing, clearing_fully, marking}
use Rattle.model.specs.claims.Gates.{HeldAlready, market_of}
use Rattle.model.specs.claims.Marking.{EqualsRound, CorrectIffEqual, CorrectIffRound, OtherPlaceIsWrong}
use Rattle.model.specs.claims.Marking.{PlacesRead, FloorsRead, charge_in, CorrectCharges, MarkingWithinLimits}
use Rattle.model.specs.claims.Marking.{MarkingAcceptedIffWithinLimits, FullyCleared, given}
use Rattle.model.specs.claims.Marking.{FullyClearedExists, MarkedCallExists, FullyClearedIffWithinLimits}
use Rattle.model.specs.claims.Marking.{MarkedIffWithinLimits, MarkedIffGiven, GivenIsPassed, place_in}
use Rattle.model.specs.claims.Marking.{FullyShows, FullyClearedShows, FullyClearedAsClear, PlacesAsCodes}
use Rattle.model.specs.claims.Marking.{FullyShownAlready, JoiningRaisesCharges}
use Rattle.model.specs.claims.Meaning.{RightLengths}
use Rattle.model.specs.claims.Truth.{HoldsPlace, charge_at}
use Rattle.model.specs.declared.rule.Rule.{Rule}
use Rattle.model.proofs.Tests.{decide, clash, both, first, second, not_not, or_no, neither, only_le, eq_yes}
use Rattle.model.proofs.Tests.{is_eq, lt_or_le}
use Rattle.model.proofs.Verdicts.{no_fault, fault_free, number_accepted}
use Rattle.model.proofs.Promises.{was_accepted, keeps_zero}
use Rattle.model.proofs.Counting.{some_no, none_some, greatest_le, length_list, get_d_list}
use Rattle.model.proofs.sheet.Joined.{joined_length, get_d_joined, joined_most}
use Rattle.model.proofs.market.Changes.{bid_at_most}
use Rattle.model.proofs.market.Decisions.{candidate_open}
use Rattle.model.proofs.market.Acceptance.{accepted_iff_within_limits, equal, not_unequal, known, is_known}
use Rattle.model.proofs.claims.Gates.{joining_gives_no_place, joined_call_leaves_together}
use Rattle.model.proofs.claims.Promises.{zero_is_accepted, faults_numbered_from_one}
use Rattle.model.proofs.claims.Calls.{room, room_fits}
use Rattle.model.proofs.claims.Reasons.{station_at, charge_at_lem, charged_as, codes_tell_facts}
use Rattle.model.proofs.market.Truthful.{assigned_to_best}
use Rattle.model.proofs.claims.Shown.{place_shown}

-- ---- lists that a test finds the same

same_equal : (xs ys : List ℕ) → same xs ys ≡ true → xs ≡ ys
unfolding same
same_equal xs ys e =
    let long = eq_yes _ _ (first _ _ e) in
    ext_get_or 0 xs ys long (λ k lk. ⊎_elim
    (λ (q : (get_or xs k 0 =? get_or ys k 0) ≡ true). eq_yes _ _ q)
    (λ (q : (get_or xs k 0 =? get_or ys k 0) ≡ false).
    absurd (clash (not_not q) (some_no (length xs) _ (not-true _ (second _ _ e)) k lk)))
    (decide (get_or xs k 0 =? get_or ys k 0)))

same_self : (xs : List ℕ) → same xs xs ≡ true
unfolding same
same_self xs = both (is_eq _ _ refl) (not_not (none_some (length xs) _ (λ k lk. ap not (is_eq _ _ refl))))

equal_same : (xs ys : List ℕ) → xs ≡ ys → same xs ys ≡ true
equal_same xs ys e = rw e (same_self ys)

-- ---- the mark

pub correct_iff_equal : CorrectIffEqual
unfolding correct round_of full_results_of same_submission same_results
correct_iff_equal rule t s = (equals, marks)
  where
    equals : correct rule t s ≡ true → EqualsRound rule t s
    equals e =
        let seven = first _ _ e in
        let six = first _ _ seven in
        let five = first _ _ six in
        let lists = first _ _ five in
        let three = first _ _ lists in
        let two = first _ _ three in
        record {
          stations_are = same_equal _ _ (first _ _ two);
          charges_are = same_equal _ _ (second _ _ two);
          sold_are = same_equal _ _ (second _ _ three);
          paid_are = same_equal _ _ (second _ _ lists);
          places_are = same_equal _ _ (second _ _ five);
          floors_are = same_equal _ _ (second _ _ six);
          cut_is = eq_yes _ _ (second _ _ seven);
          margin_is = eq_yes _ _ (second _ _ e);
        }

    marks : EqualsRound rule t s → correct rule t s ≡ true
    marks r =
        let two = both (equal_same _ _ r.stations_are) (equal_same _ _ r.charges_are) in
        let lists = both (both two (equal_same _ _ r.sold_are)) (equal_same _ _ r.paid_are) in
        let six = both (both lists (equal_same _ _ r.places_are)) (equal_same _ _ r.floors_are) in
        both (both six (is_eq _ _ r.cut_is)) (is_eq _ _ r.margin_is)

pub correct_iff_round : CorrectIffRound
unfolding round_of full_results_of
correct_iff_round rule t s = (
  λ e.
      let r = (correct_iff_equal rule t s).0 e in
      λ x. record {
        lists = record {
          results = record {
            stations = r.stations_are x;
            charges = r.charges_are x;
            sold = r.sold_are x;
            paid = r.paid_are x;
          };
          places = r.places_are x;
          floors = r.floors_are x;
        };
        cut = r.cut_is x;
        margin = r.margin_is x;
      },
  λ e. (correct_iff_equal rule t s).1 record {
    stations_are = ap (λ s. s.lists.results.stations) e;
    charges_are = ap (λ s. s.lists.results.charges) e;
    sold_are = ap (λ s. s.lists.results.sold) e;
    paid_are = ap (λ s. s.lists.results.paid) e;
    places_are = ap (λ s. s.lists.places) e;
    floors_are = ap (λ s. s.lists.floors) e;
    cut_is = ap (λ s. s.cut) e;
    margin_is = ap (λ s. s.margin) e;
  },
)

-- a test as 1 or 0
one_if : (b : Bool) → ((only b 1 ≡ 1) ↔ (b ≡ true)) × ((only b 1 ≡ 0) ↔ (b ≡ true → ⊥))
unfolding only
one_if true = ((λ _. refl, λ _. refl), (λ e. absurd (omega arith), λ n. absurd (n refl)))
one_if false = ((λ e. absurd (omega arith), λ e. absurd (clash e refl)), (λ _ e. clash e refl, λ _. refl))

pub other_place_is_wrong : OtherPlaceIsWrong
unfolding place_table
other_place_is_wrong rule t s k l = ⊎_elim
    (λ (e : correct rule t s ≡ true).
    let S = screened rule t in
    let there : 1 < get_or (place_table S) k 0 = rw (← ((correct_iff_equal rule t s).0 e).places_are) l in
    absurd (⊎_elim
    (λ (lk : k < length (place_table S)).
    omega (
      arith,
      joined_most S.guest_count S.station_count (λ i j. only (provisional (queue S j) i) 1) 1
          (λ i j li lj. only_le _ _ _ (λ _. le_refl 1)) k lk,
    ))
    (λ (lk : length (place_table S) ≤ k). omega (arith, get_or-eq_default (place_table S) 0 lk))
    (lt_or_le k (length (place_table S)))))
    (λ e. e)
    (decide (correct rule t s))

-- ---- places and floors

place_at :
    (rule : Rule) (t : Tables) (i j : ℕ) → i < length t.amounts → j < length t.asks
    → get_or (place_table (screened rule t)) (i * length t.asks + j) 0
    ≡ only (provisional (queue (screened rule t) j) i) 1
unfolding place_table screened screen market market_by
place_at rule t i j li lj = get_d_joined (length t.amounts) (length t.asks) _ i j li lj

pub places_read : PlacesRead
places_read rule t i j li lj =
    let at = place_at rule t i j li lj in
    let (there, back) = (one_if (provisional (queue (screened rule t) j) i)).0 in
    let (shows, shown) = (codes_tell_facts rule t i j li lj).place_held in
    record {
      held = (λ e. there (sym at ∙ e), λ h. at ∙ back h);
      by_code = (λ e. shown (there (sym at ∙ e)), λ e. at ∙ back (shows e));
      most = rw at (only_le _ _ _ (λ _. le_refl 1));
    }

floor_at :
    (rule : Rule) (t : Tables) (j : ℕ) → j < length t.asks
    → get_or (floors_of (screened rule t)) j 0 ≡ critical (queue (screened rule t) j)
unfolding floors_of screened screen market market_by
floor_at rule t j lj = get_d_list (length t.asks) _ j lj

-- at a station that is not open nobody is a candidate
closed_critical :
    (rule : Rule) (t : Tables) (j : ℕ) → opens (market rule t) j ≡ false → critical (queue (screened rule t) j) ≡ 0
unfolding critical queue screened
closed_critical rule t j o = le_antisymm (greatest_le _ _ 0 (λ i li. only_le _ _ _ (λ p.
    absurd (clash (candidate_open (market rule t) i j (first _ _ p)) o)))) (omega arith)

critical_most :
    (rule : Rule) (t : Tables) (j : ℕ) → Accepted t → j < length t.asks
    → critical (queue (screened rule t) j) ≤ max_price * max_amount
unfolding critical queue screened screen market market_by
critical_most rule t j a lj =
    let w = (accepted_iff_within_limits t).0 a in
    greatest_le (length t.amounts) _ _ (λ i li. only_le _ _ _ (λ _.
    omega (
      arith,
      mul-le-mul_right (get_or t.amounts i 0) (bid_at_most t a i j li lj),
      w.amount_most i li,
    )))

pub floors_read : FloorsRead
floors_read rule t j lj =
    let at = floor_at rule t j lj in
    record {
      is_critical = at;
      closed = λ o. at ∙ closed_critical rule t j o;
      most = λ a. rw at (critical_most rule t j a lj);
    }

-- ---- charges

module _ (rule : Rule) (t : Tables) (i j : ℕ) where
  -- the round's cut and floors give the charge at a station
  round_charge :
      j < length t.asks → charge_in t (round_of rule t) i j ≡ charge (screened rule t) (decision rule t) i j
  unfolding charge_in round_of full_results_of charge decision truthful outcome outcome_by screened screen market
      market_by
  round_charge lj = ap (max _) (floor_at rule t j lj)

  seated_open : (decision rule t).assigned i ≡ suc j → j < length t.asks
  unfolding decision screened screen market market_by
  seated_open e = ((assigned_to_best (screened rule t) i).somewhere j e).0

  -- whoever is seated is charged the charge there
  round_charges :
      i < length t.amounts → get_or (outcome rule t).results.stations i 0 ≡ suc j
      → get_or (outcome rule t).results.charges i 0 ≡ charge_in t (round_of rule t) i j
  unfolding guest_outcomes at
  round_charges li e =
      let seat = sym (station_at rule t i li) ∙ e in
      charge_at_lem rule t i li ∙ charged_as rule t i li seat ∙ sym (round_charge (seated_open seat))

pub correct_charges : CorrectCharges
unfolding round_of full_results_of
correct_charges rule t s e i j li =
    subst
    (λ s. get_or s.lists.results.stations i 0 ≡ suc j → get_or s.lists.results.charges i 0 ≡ charge_in t s i j)
    (sym ((correct_iff_round rule t s).0 e)) (round_charges rule t i j li)

-- ---- acceptance

pub full_within :
    (t : Tables) (f : FullResults) → first_fault (full_table_faults t f) ≡ accepted tt
    → Accepted t × RightLengths t f.results × (length f.places ≡ length t.amounts * length t.asks)
    × (length f.floors ≡ length t.asks)
unfolding verdict market_faults full_table_faults counts lengths full_lengths
full_within t f e =
    let (c, e1) = no_fault _ _ _ e in
    let (l, e2) = no_fault _ _ _ e1 in
    let (k, e3) = no_fault _ _ _ e2 in
    let (five, floors) = or_no _ _ k in
    let (four, places) = or_no _ _ five in
    let (three, paid) = or_no _ _ four in
    let (two, sold) = or_no _ _ three in
    let (stations, charges) = or_no _ _ two in (
      fault_free _ _ c (fault_free _ _ l e3),
      record {
        stations_long = equal _ _ stations;
        charges_long = equal _ _ charges;
        sold_long = equal _ _ sold;
        paid_long = equal _ _ paid;
      },
      equal _ _ places,
      equal _ _ floors,
    )

marking_within :
    (rule : ℕ) (t : Tables) (f : FullResults) → first_fault (marking_faults rule t f) ≡ accepted tt
    → MarkingWithinLimits rule t f
unfolding marking_faults unknown_rule
marking_within rule t f e =
    let (n, e1) = no_fault _ _ _ e in
    let (market, lists, places, floors) = full_within t f e1 in
    record {
      rule_known = known rule n;
      market_accepted = market;
      lists_fit = lists;
      places_long = places;
      floors_long = floors;
    }

marking_accept :
    (rule : ℕ) (t : Tables) (f : FullResults) → MarkingWithinLimits rule t f
    → first_fault (marking_faults rule t f) ≡ accepted tt
unfolding verdict market_faults marking_faults full_table_faults unknown_rule counts lengths full_lengths
marking_accept rule t f w =
    let (c, e1) = no_fault _ _ _ w.market_accepted in
    let (l, e2) = no_fault _ _ _ e1 in
    let lists = w.lists_fit in
    fault_free _ _ (is_known rule w.rule_known) (fault_free _ _ c (fault_free _ _ l (fault_free _ _
    (neither (neither (neither (neither
    (neither (not_unequal _ _ lists.stations_long) (not_unequal _ _ lists.charges_long))
    (not_unequal _ _ lists.sold_long)) (not_unequal _ _ lists.paid_long))
    (not_unequal _ _ w.places_long)) (not_unequal _ _ w.floors_long))
    e2)))

pub marking_accepted_iff_within_limits : MarkingAcceptedIffWithinLimits
marking_accepted_iff_within_limits rule t f = (marking_within rule t f, marking_accept rule t f)

-- ---- over calls

pub fully_cleared_exists : FullyClearedExists
unfolding clearing_fully
fully_cleared_exists rule t r a =
    let n = length t.amounts in
    let m = length t.asks in
    record {
      entry = full_results (room t) (replicate (n * m) 0) (replicate m 0);
      out = (0, 0);
      exit = full_results_of (rule_of rule) t;
      cut = (outcome (rule_of rule) t).cut;
      margin = (outcome (rule_of rule) t).margin;
      call = keeps_zero (0, 0) (marking_accept rule t _ (record {
        rule_known = r;
        market_accepted = a;
        lists_fit = room_fits t;
        places_long = length-replicate {A = ℕ} (n * m) 0;
        floors_long = length-replicate {A = ℕ} m 0;
      }));
    }

pub marked_call_exists : MarkedCallExists
unfolding marking
marked_call_exists rule t s w = record {
  out = 0;
  correct = only (correct (rule_of rule) t s) 1;
  call = keeps_zero 0 (marking_accept rule t s.lists w);
}

module _ (rule : ℕ) (t : Tables) (k : FullyCleared rule t) where
  -- what a call that answered 0 left and gave
  answered :
      (first_fault (marking_faults rule t k.entry) ≡ accepted tt) × (k.exit ≡ full_results_of (rule_of rule) t)
      × (◌≡◌ {A = ℕ × ℕ} (k.cut, k.margin) ((outcome (rule_of rule) t).cut, (outcome (rule_of rule) t).margin))
  unfolding clearing_fully
  answered = zero_is_accepted (ℕ × ℕ) FullResults (clearing_fully rule t) k.entry k.exit k.out
      (k.cut, k.margin) (faults_numbered_from_one.of_clearing_fully rule t k.entry) k.call

  -- it is the round
  pub given_is : given k ≡ round_of (rule_of rule) t
  unfolding round_of
  given_is = λ x. record {
    lists = answered.1 x;
    cut = ap (λ p. p.0) answered.2 x;
    margin = ap (λ p. p.1) answered.2 x;
  }

  pub cleared_within : MarkingWithinLimits rule t k.entry
  cleared_within = marking_within rule t k.entry answered.0

  -- its lists are as long as those at entry
  given_within : MarkingWithinLimits rule t k.exit
  unfolding full_results_of place_table floors_of outcome outcome_by screened screen market market_by
  given_within =
      rw answered.1 record {
        rule_known = cleared_within.rule_known;
        market_accepted = cleared_within.market_accepted;
        lists_fit = record {
          stations_long = length_list (length t.amounts) _;
          charges_long = length_list (length t.amounts) _;
          sold_long = length_list (length t.asks) _;
          paid_long = length_list (length t.asks) _;
        };
        places_long = joined_length (length t.amounts) (length t.asks) _;
        floors_long = length_list (length t.asks) _;
      }

pub fully_cleared_iff_within_limits : FullyClearedIffWithinLimits
unfolding clearing_fully
fully_cleared_iff_within_limits rule t entry exit out out' number c = (
  λ z. marking_within rule t entry (zero_is_accepted (ℕ × ℕ) FullResults (clearing_fully rule t) entry exit out out'
      (faults_numbered_from_one.of_clearing_fully rule t entry) (rw z at c)).0,
  λ w. c.number_is ∙ number_accepted (marking_accept rule t entry w),
)

-- what a call of `mark` that answered 0 found
marked :
    (rule : ℕ) (t : Tables) (s : Submission) (out out' : ℕ) → KeepsOut (marking rule t s) tt out 0 tt out'
    → (first_fault (marking_faults rule t s.lists) ≡ accepted tt) × (out' ≡ only (correct (rule_of rule) t s) 1)
unfolding marking
marked rule t s out out' c =
    let (v, _, is) = zero_is_accepted ℕ Unit (marking rule t s) tt tt out out'
    (faults_numbered_from_one.of_marking rule t s) c in
    (v, is)

pub marked_iff_within_limits : MarkedIffWithinLimits
unfolding marking
marked_iff_within_limits rule t s out out' number c = (
  λ z. marking_within rule t s.lists (marked rule t s out out' (rw z at c)).0,
  λ w. c.number_is ∙ number_accepted (marking_accept rule t s.lists w),
)

pub marked_iff_given : MarkedIffGiven
marked_iff_given rule t s k c =
    let is = (marked rule t s c.out c.correct c.call).1 in
    let (at_one, at_zero) = one_if (correct (rule_of rule) t s) in
    let (round, back) = correct_iff_round (rule_of rule) t s in
    let handed = given_is rule t k in
    record {
      yes = (λ e. round (at_one.0 (sym is ∙ e)) ∙ sym handed, λ e. is ∙ at_one.1 (back (e ∙ handed)));
      no = (
        λ e q. at_zero.0 (sym is ∙ e) (back (q ∙ handed)),
        λ n. is ∙ at_zero.1 (λ q. n (round q ∙ sym handed)),
      );
    }

pub given_is_passed : GivenIsPassed
given_is_passed rule t k out out' number c =
    let z = (marked_iff_within_limits rule t (given k) out out' number c).1 (given_within rule t k) in
    let is = (marked rule t (given k) out out' (rw z at c)).1 in
    let passed = (correct_iff_round (rule_of rule) t (given k)).1 (given_is rule t k) in
    (z, is ∙ (one_if (correct (rule_of rule) t (given k))).0.1 passed)

-- ---- what a call shows

module _ (rule : ℕ) (t : Tables) (k : FullyCleared rule t) (i j : ℕ) (li : i < length t.amounts)
    (lj : j < length t.asks) where
  place_is : place_in t k.exit i j ≡ get_or (place_table (screened (rule_of rule) t)) (i * length t.asks + j) 0
  unfolding place_in full_results_of
  place_is = ap (λ f. get_or f.places (i * length t.asks + j) 0) (answered rule t k).1

  place_held : (place_in t k.exit i j ≡ 1) ↔ HoldsPlace (position (rule_of rule)) t i j
  unfolding screened market
  place_held =
      let (there, back) = (places_read (rule_of rule) t i j li lj).held in
      (λ e. there (sym place_is ∙ e), λ h. place_is ∙ back h)

  charge_is : charge_in t (given k) i j ≡ charge_at (position (rule_of rule)) t i j
  unfolding screened market decision
  charge_is = ap (λ s. charge_in t s i j) (given_is rule t k) ∙ round_charge (rule_of rule) t i j lj

  shows : FullyShows rule t k i j
  unfolding round_of full_results_of
  shows = record {
    place_shown = place_held;
    charge_shown = charge_is;
    seated_charge =
        subst
        (λ s. get_or s.lists.results.stations i 0 ≡ suc j
        → get_or s.lists.results.charges i 0 ≡ charge_in t s i j)
        (sym (given_is rule t k)) (round_charges (rule_of rule) t i j li);
  }

pub fully_cleared_shows : FullyClearedShows
fully_cleared_shows = shows

pub fully_cleared_as_clear : FullyClearedAsClear
unfolding clearing full_results_of
fully_cleared_as_clear rule t k c =
    let (_, is, left) = was_accepted c.call c.cleared in
    let (_, exit, figures) = answered rule t k in
    record {
      results_same = ap (λ f. f.results) exit ∙ sym left;
      cut_same = ap (λ p. p.0) (figures ∙ is);
      margin_same = ap (λ p. p.1) (figures ∙ is);
    }

pub places_as_codes : PlacesAsCodes
places_as_codes rule t k e i j li lj =
    let (there, back) = place_held rule t k i j li lj in
    let (shows, shown) = place_shown rule t e i j li lj in
    (λ p. shown (there p), λ q. back (shows q))

-- ---- request 9

shown_already :
    (rule : ℕ) (own both : Tables) (i g j : ℕ) → i < length own.amounts → g < length both.amounts
    → j < length own.asks → j < length both.asks → HeldAlready (position (rule_of rule)) own both i g j
    → (k : FullyCleared rule own) (k' : FullyCleared rule both) → FullyShownAlready own both i g j (given k) (given k')
shown_already rule own both i g j li lg lj lj' H k k' = record {
  held = λ e. (place_held rule own k i j li lj).1 (H.held ((place_held rule both k' g j lg lj').0 e));
  charge_no_lower = rw (charge_is rule own k i j li lj, charge_is rule both k' g j lg lj') H.charge_no_lower;
}

pub joining_raises_charges : JoiningRaisesCharges
joining_raises_charges rule t u c k k' k'' j lj =
    let J = joined_call_leaves_together t u c in
    let b = market_of c.exit in
    let P = position (rule_of rule) in
    let G = joining_gives_no_place P t u J.first_accepted J.second_accepted J.joinable j lj in
    let guests : length b.amounts ≡ length t.amounts + length u.amounts =
    ap (λ b. length b.amounts) J.is ∙ length-append t.amounts u.amounts in
    let stations : length b.asks ≡ length t.asks = ap (λ b. length b.asks) J.is in
    record {
      first_gate = λ i li.
          shown_already rule t b i i j li (omega arith) lj (omega arith)
          (subst (λ b. HeldAlready P t b i i j) (sym J.is) (G.first_gate i li)) k k'';
      second_gate = λ i li.
          let g = length t.amounts + i in
          shown_already rule u b i g j li (omega arith) (omega (arith, ap length J.joinable.same_asks))
          (omega arith) (subst (λ b. HeldAlready P u b i g j) (sym J.is) (G.second_gate i li)) k' k'';
    }
