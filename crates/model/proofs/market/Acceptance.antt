-- A market is accepted exactly within the limits of document 01's 'A market'.
use Prim.Native.Nat.{ℕ, ◌*◌, ◌≤◌, ◌<◌}
use mathlib.Core.Bool.{Bool, true, false, not, cond}
use mathlib.Core.List.{List}
use mathlib.Core.Logic.{inl, inr, ⊎_elim}
use mathlib.Core.Path.{◌≡◌, refl, sym, ap, ◌∙◌}
use native.Mathlib.Omega.{arith}
use native.Mathlib.Nat.{mul-le-mul_right, eq-or-lt_of_le}
use lib.ListN.{get_or, length}
use borrow.Author.Tests.{not-false}
use Rattle.model.specs.Limits.{max_guests, max_stations, max_price}
use Rattle.model.specs.Counting.{◌<?◌, ◌=?◌, ◌or◌, any}
use Rattle.model.specs.Verdicts.{accepted, first_fault}
use Rattle.model.specs.market.Market.{Tables, tables}
use Rattle.model.specs.market.Faults.{outside, repeats, counts, lengths, list_lengths, values, market_faults}
use Rattle.model.specs.market.Faults.{unknown_rule, verdict, Accepted, table_faults, clearing_faults}
use Rattle.model.specs.market.Rules.{named, is_unknown, rule_in, rule_of}
use Rattle.model.specs.declared.rule.Rule.TheVariants.{Median, TwoThirds}
use Rattle.model.specs.declared.refusal.Refusal.TheVariants.{UnknownRule}
use Rattle.std.specs.Prelude.{Ok, Err}
use Rattle.model.specs.book.PlainBook.{PlainBook, entered, over_limit, book_size, no_desk, out_of_turn}
use Rattle.model.specs.book.PlainBook.{posting_faults}
use Rattle.model.specs.market.Outcome.{Results}
use Rattle.model.specs.claims.Meaning.{Differ, WithinLimits, AcceptedIffWithinLimits, CallWithinLimits}
use Rattle.model.specs.claims.Meaning.{CallAcceptedIffWithinLimits, AccountsWithin, PostingWithinLimits}
use Rattle.model.specs.claims.Meaning.{PostingAcceptedIffWithinLimits, NamesRule, RuleNumbers, RightLengths}
use Rattle.model.proofs.Tests.{or_no, neither, lt_no, not_lt, le_no, not_le, eq_yes, eq_no, is_eq, not_eq}
use Rattle.model.proofs.Tests.{lt_or_le, clash}
use Rattle.model.proofs.Counting.{some_no, none_some, any_no, none_any}
use Rattle.model.proofs.Verdicts.{fault_none, no_fault, no_faults, fault_second, fault_free}

-- counts within the limits
pub counted :
    (n m : ℕ) → (max_guests <? n or m =? 0 or max_stations <? m) ≡ false
    → (n ≤ max_guests) × (1 ≤ m) × (m ≤ max_stations)
counted n m e =
    let (a, most) = or_no _ _ e in
    let (guests, some) = or_no _ _ a in (lt_no _ _ guests, omega (arith, eq_no _ _ some), lt_no _ _ most)

pub product_fits : (n m : ℕ) → n ≤ max_guests → m ≤ max_stations → n * m ≤ max_guests * max_stations
product_fits n m a b = omega (arith, mul-le-mul_right m a)

pub inside : (low high x : ℕ) → outside low high x ≡ false → (low ≤ x) × (x ≤ high)
unfolding outside
inside low high x e = let h = or_no _ _ e in (lt_no _ _ h.0, lt_no _ _ h.1)

pub not_outside : (low high x : ℕ) → low ≤ x → x ≤ high → outside low high x ≡ false
unfolding outside
not_outside low high x l h = neither (not_lt _ _ l) (not_lt _ _ h)

pub all_inside :
    (low high : ℕ) (xs : List ℕ) → any xs (outside low high) ≡ false → (k : ℕ) → k < length xs
    → (low ≤ get_or xs k 0) × (get_or xs k 0 ≤ high)
all_inside low high xs e k l = inside low high _ (any_no xs _ e k l)

pub equal : (a b : ℕ) → not (a =? b) ≡ false → a ≡ b
equal a b e = eq_yes a b (not-false _ e)

pub not_unequal : (a b : ℕ) → a ≡ b → not (a =? b) ≡ false
not_unequal a b e = ap not (is_eq a b e)

pub repeats_no : (xs : List ℕ) → repeats xs ≡ false → Differ xs
unfolding repeats
repeats_no xs e i k l lk = eq_no _ _ (some_no k _ (some_no (length xs) _ e k lk) i l)

pub no_repeats : (xs : List ℕ) → Differ xs → repeats xs ≡ false
unfolding repeats
no_repeats xs d = none_some (length xs) _ (λ k lk. none_some k _ (λ i l. not_eq _ _ (d i k l lk)))

pub same_place :
    (xs : List ℕ) → Differ xs → (k i : ℕ) → k < length xs → i < length xs → get_or xs k 0 ≡ get_or xs i 0 → k ≡ i
same_place xs d k i lk li e = ⊎_elim
    (λ (l : k < i). absurd (d k i l li e))
    (λ (l : i ≤ k). ⊎_elim (λ q. sym q) (λ (l' : i < k). absurd (d i k l' lk (sym e))) (eq-or-lt_of_le l))
    (lt_or_le k i)

within : (t : Tables) → Accepted t → WithinLimits t
unfolding verdict market_faults counts lengths values
within t e =
    let (c, e1) = no_fault _ _ _ e in
    let (l, e2) = no_fault _ _ _ e1 in
    let (asks, e3) = no_fault _ _ _ e2 in
    let (bays, e4) = no_fault _ _ _ e3 in
    let (amounts, e5) = no_fault _ _ _ e4 in
    let (bids, e6) = no_fault _ _ _ e5 in
    let (tickets, e7) = no_fault _ _ _ e6 in
    let k = counted (length t.amounts) (length t.asks) c in
    let (l012, width) = or_no _ _ l in
    let (l01, bid_list) = or_no _ _ l012 in
    let (bay_list, ticket_list) = or_no _ _ l01 in
    let bays_long : length t.bays ≡ length t.asks = equal _ _ bay_list in
    record {
      shape = record {
        guests_most = k.0;
        stations_least = k.1;
        stations_most = k.2;
        bays_length = bays_long;
        tickets_length = equal _ _ ticket_list;
        bids_length = equal _ _ bid_list;
        width_is = equal _ _ width;
      };
      ask_most = λ j lj. (all_inside _ _ _ asks j lj).1;
      bays_least = λ j lj. (all_inside _ _ _ bays j (omega arith)).0;
      bays_most = λ j lj. (all_inside _ _ _ bays j (omega arith)).1;
      amount_least = λ i li. (all_inside _ _ _ amounts i li).0;
      amount_most = λ i li. (all_inside _ _ _ amounts i li).1;
      tickets_differ = repeats_no t.tickets tickets;
      bid_most = λ q lq. (all_inside _ _ _ bids q lq).1;
    }

accept : (t : Tables) → WithinLimits t → Accepted t
unfolding verdict market_faults counts lengths values
accept t w =
    fault_free _ _ (neither
    (neither (not_lt _ _ w.shape.guests_most)
    (not_eq (length t.asks) 0 (λ q. omega (arith, w.shape.stations_least))))
    (not_lt _ _ w.shape.stations_most))
    (fault_free _ _ (neither
    (neither (neither (not_unequal _ _ w.shape.bays_length) (not_unequal _ _ w.shape.tickets_length))
    (not_unequal _ _ w.shape.bids_length))
    (not_unequal _ _ w.shape.width_is))
    (fault_free _ _ (none_any t.asks _ (λ j lj. not_outside 0 max_price _ (omega arith) (w.ask_most j lj)))
    (fault_free _ _ (none_any t.bays _ (
    λ j lj. let l : j < length t.asks = omega (arith, w.shape.bays_length) in
    not_outside _ _ _ (w.bays_least j l) (w.bays_most j l)))
    (fault_free _ _ (none_any t.amounts _ (λ i li. not_outside _ _ _ (w.amount_least i li) (w.amount_most i li)))
    (fault_free _ _ (none_any t.bids _ (λ q lq. not_outside 0 max_price _ (omega arith) (w.bid_most q lq)))
    (fault_free _ _ (no_repeats t.tickets w.tickets_differ)
    fault_none))))))

pub accepted_iff_within_limits : AcceptedIffWithinLimits
accepted_iff_within_limits t = (within t, accept t)

-- an accepted market with other bids, as many and within the limit, is accepted
pub exchanged :
    (t : Tables) (bids : List ℕ) → length bids ≡ length t.bids
    → ((k : ℕ) → k < length bids → get_or bids k 0 ≤ max_price) → Accepted t
    → Accepted (tables t.asks t.bays t.amounts t.tickets bids t.width)
exchanged t bids long low a =
    let w = (accepted_iff_within_limits t).0 a in
    (accepted_iff_within_limits (tables t.asks t.bays t.amounts t.tickets bids t.width)).1 record {
      shape = record {
        guests_most = w.shape.guests_most;
        stations_least = w.shape.stations_least;
        stations_most = w.shape.stations_most;
        bays_length = w.shape.bays_length;
        tickets_length = w.shape.tickets_length;
        bids_length = long ∙ w.shape.bids_length;
        width_is = w.shape.width_is;
      };
      ask_most = w.ask_most;
      bays_least = w.bays_least;
      bays_most = w.bays_most;
      amount_least = w.amount_least;
      amount_most = w.amount_most;
      tickets_differ = w.tickets_differ;
      bid_most = low;
    }

-- a number that names a rule, and one that names none
pub known : (k : ℕ) → is_unknown (named k) ≡ false → NamesRule k
unfolding named is_unknown
known k = go (k =? 1) refl (k =? 2) refl
  where
    go : (x : Bool) → (k =? 1) ≡ x → (y : Bool) → (k =? 2) ≡ y
        → is_unknown (cond x (Ok Median) (cond y (Ok TwoThirds) (Err UnknownRule))) ≡ false → NamesRule k
    go true e y f h = inl (eq_yes _ _ e)
    go false e true f h = inr (eq_yes _ _ f)
    go false e false f h = absurd (clash refl h)

pub is_known : (k : ℕ) → NamesRule k → is_unknown (named k) ≡ false
unfolding named is_unknown ◌=?◌
is_known k n = ⊎_elim (λ (e : k ≡ 1). rw e refl) (λ (e : k ≡ 2). rw e refl) n

pub rule_numbers : RuleNumbers
unfolding named rule_in ◌=?◌
rule_numbers = record { rule_1 = refl; rule_2 = refl }

pub tables_within :
    (t : Tables) (r : Results) → first_fault (table_faults t r) ≡ accepted tt → Accepted t × RightLengths t r
unfolding verdict market_faults table_faults counts lengths list_lengths
tables_within t r e =
    let (c, e1) = no_fault _ _ _ e in
    let (l, e2) = no_fault _ _ _ e1 in
    let (k, e3) = no_fault _ _ _ e2 in
    let (k012, paid) = or_no _ _ k in
    let (k01, sold) = or_no _ _ k012 in
    let (stations, charges) = or_no _ _ k01 in (
      fault_free _ _ c (fault_free _ _ l e3),
      record {
        stations_long = equal _ _ stations;
        charges_long = equal _ _ charges;
        sold_long = equal _ _ sold;
        paid_long = equal _ _ paid;
      },
    )

call_within :
    (rule : ℕ) (t : Tables) (r : Results) → first_fault (clearing_faults rule t r) ≡ accepted tt
    → CallWithinLimits rule t r
unfolding clearing_faults unknown_rule
call_within rule t r e =
    let (n, e1) = no_fault _ _ _ e in
    let (market, lists) = tables_within t r e1 in
    record { rule_known = known rule n; market_accepted = market; lists_fit = lists }

call_accept :
    (rule : ℕ) (t : Tables) (r : Results) → CallWithinLimits rule t r
    → first_fault (clearing_faults rule t r) ≡ accepted tt
unfolding verdict market_faults clearing_faults table_faults unknown_rule counts lengths list_lengths
call_accept rule t r w =
    let (c, e1) = no_fault _ _ _ w.market_accepted in
    let (l, e2) = no_fault _ _ _ e1 in
    fault_free _ _ (is_known rule w.rule_known) (fault_free _ _ c (fault_free _ _ l (fault_free _ _
    (neither (neither
    (neither (not_unequal _ _ w.lists_fit.stations_long) (not_unequal _ _ w.lists_fit.charges_long))
    (not_unequal _ _ w.lists_fit.sold_long)) (not_unequal _ _ w.lists_fit.paid_long))
    e2)))

pub call_accepted_iff_within_limits : CallAcceptedIffWithinLimits
call_accepted_iff_within_limits rule t r = (call_within rule t r, call_accept rule t r)

pub under_limit : (B : PlainBook) → over_limit B ≡ false → AccountsWithin B
unfolding over_limit
under_limit B e =
    let (lists, house) = or_no _ _ e in
    let (kwh, paid) = or_no _ _ lists in
    let (guests, sold) = or_no _ _ kwh in
    record {
      guest_most = λ i l. lt_no _ _ (any_no B.guests _ guests i l);
      sold_most = λ j l. lt_no _ _ (any_no B.sold _ sold j l);
      paid_most = λ j l. lt_no _ _ (any_no B.paid _ paid j l);
      house_most = lt_no _ _ house;
    }

pub not_over : (B : PlainBook) → AccountsWithin B → over_limit B ≡ false
unfolding over_limit
not_over B w =
    neither (neither (neither (none_any B.guests _ (λ i l. not_lt _ _ (w.guest_most i l)))
    (none_any B.sold _ (λ j l. not_lt _ _ (w.sold_most j l))))
    (none_any B.paid _ (λ j l. not_lt _ _ (w.paid_most j l))))
    (not_lt _ _ w.house_most)

posting_within :
    (rule : ℕ) (t : Tables) (desk round : ℕ) (B : PlainBook)
    → first_fault (posting_faults rule t desk round B) ≡ accepted tt → PostingWithinLimits rule t desk round B
unfolding verdict posting_faults unknown_rule book_size no_desk out_of_turn
posting_within rule t desk round B e =
    let (n, e0) = no_fault _ _ _ e in
    let (m, e1) = no_faults (market_faults t) _ e0 in
    let (size, e2) = no_fault _ _ _ e1 in
    let (desk_free, e3) = no_fault _ _ _ e2 in
    let (turn, e4) = no_fault _ _ _ e3 in
    let (room, e5) = no_fault _ _ _ e4 in
    let (gs, d) = or_no _ _ size in
    let (g, s) = or_no _ _ gs in
    let (left, next) = or_no _ _ turn in
    let (before, after) = or_no _ _ room in
    record {
      rule_known = known rule n;
      market_accepted = m;
      guests_least = (inside _ _ _ g).0;
      guests_most = (inside _ _ _ g).1;
      stations_least = (inside _ _ _ s).0;
      stations_most = (inside _ _ _ s).1;
      desks_counted = equal _ _ d;
      desk_known = le_no _ _ desk_free;
      rounds_left = le_no _ _ left;
      next_round = equal _ _ next;
      within_before = under_limit B before;
      within_after = under_limit (entered (rule_of rule) t desk round B) after;
    }

posting_accept :
    (rule : ℕ) (t : Tables) (desk round : ℕ) (B : PlainBook) → PostingWithinLimits rule t desk round B
    → first_fault (posting_faults rule t desk round B) ≡ accepted tt
unfolding verdict posting_faults unknown_rule book_size no_desk out_of_turn
posting_accept rule t desk round B w =
    fault_free _ _ (is_known rule w.rule_known) (rw (fault_second (market_faults t) _ w.market_accepted)
    (fault_free _ _ (neither (neither (not_outside _ _ _ w.guests_least w.guests_most)
    (not_outside _ _ _ w.stations_least w.stations_most)) (not_unequal _ _ w.desks_counted))
    (fault_free _ _ (not_le _ _ w.desk_known)
    (fault_free _ _ (neither (not_le _ _ w.rounds_left) (not_unequal _ _ w.next_round))
    (fault_free _ _ (neither (not_over B w.within_before) (not_over _ w.within_after))
    fault_none)))))

pub posting_accepted_iff_within_limits : PostingAcceptedIffWithinLimits
posting_accepted_iff_within_limits rule t desk round B =
    (posting_within rule t desk round B, posting_accept rule t desk round B)
