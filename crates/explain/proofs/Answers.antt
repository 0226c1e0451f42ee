-- An accepted market at its rule's cut, and what is told of a market by its verdict.
use Prim.Native.Nat.{ℕ, ◌*◌, ◌≤◌, ◌<◌}
use mathlib.Core.Bool.{Bool, true, false}
use mathlib.Core.List.{List, [], ◌∷◌, ◌++◌}
use mathlib.Core.Path.{◌≡◌, refl, sym, ap, ap₂, subst, ◌∙◌}
use native.Mathlib.Omega.{arith}
use lib.ListN.{get_or, length, take, drop, replicate}
use lib.Seq.{take_at, get_or-take}
use Rattle.std.specs.Prelude.{Result, Ok, Err}
use Rattle.model.specs.Limits.{max_guests}
use Rattle.model.specs.Counting.{◌=?◌, only, greatest, list, joined, some, any}
use Rattle.model.specs.Numbers.{answer_of_check, station_of, charge_of, loss_of}
use Rattle.model.specs.Verdicts.{Row, ◌gives◌, accepted, first_fault}
use Rattle.model.specs.declared.refusal.Refusal.{Refusal}
use Rattle.model.specs.declared.rule.Rule.{Rule}
use Rattle.model.specs.market.Market.{Tables, market_by, market, cut, opens, screen}
use Rattle.model.specs.market.Mechanism.{at, truthful}
use Rattle.model.specs.market.Outcome.{outcome_by, screened, decision, outcome}
use Rattle.model.specs.market.Faults.{unknown_rule, counts, lengths, market_faults, verdict, explained_lengths}
use Rattle.model.specs.market.Faults.{explained_faults, explaining_faults}
use Rattle.model.specs.market.Reasons.{codes, highest_code, OutcomeTable, outcome_table, loss, guest_outcomes}
use Rattle.model.specs.market.Rules.{named, rule_of}
use Rattle.model.specs.claims.Meaning.{WithinLimits}
use Rattle.model.specs.declared.reason.GuestOutcome.{GuestOutcome}
use Rattle.model.proofs.Tests.{neither}
use Rattle.model.proofs.Counting.{length_list, list_cong}
use Rattle.model.proofs.Loops.{element}
use Rattle.model.proofs.ByNumber.{keeps_unnamed, keeps_named}
use Rattle.model.proofs.Promises.{keeps_refused, keeps_accepted, was_accepted}
use Rattle.model.proofs.Verdicts.{no_fault}
use Rattle.model.proofs.market.Acceptance.{accepted_iff_within_limits, not_unequal}
use Rattle.model.proofs.claims.Reasons.{explained_within, station_at, charge_at_lem, loss_at_lem, charged_as}
use Rattle.model.proofs.market.Reasons.{loss_most, lost_unassigned}
use Rattle.pricing.specs.CutAsk.{cut_ask}
use Rattle.pricing.proofs.cut.CutAsk.{cut_is}
use Rattle.allocation.specs.Assignment.{Assigned}
use Rattle.allocation.specs.Screens.{screened_at}
use Rattle.explain.specs.Codes.{CodesAtCut}
use Rattle.explain.specs.Explained.{ExplainsAccepted, told_by, answer_of_explaining, telling_under, telling}
use Rattle.explain.specs.Explained.{ExplainedUnder, ExplainedBy}
use Rattle.explain.specs.declared.explained.OutcomeArrays.{OutcomeArrays}
use Rattle.explain.specs.Outcomes.{record_of, mills, record_at}
use Rattle.explain.proofs.codes.Codes.{code_is}
use Rattle.explain.proofs.outcomes.Outcomes.{station_shown, charge_shown, loss_shown, record_in}

-- ---- an accepted market at its rule's cut

-- where the cut is the rule's
module _ (rule : Rule) (t : Tables) where
  abbrev c : ℕ
  c = cut (market rule t)

  module _ {table stations charges reasons : List ℕ}
      (a : Assigned (outcome_by (screened_at t c) (truthful (screened_at t c))) stations charges)
      (s : CodesAtCut t c stations table reasons) where
    station_is : (i : ℕ) → i < length t.amounts → get_or stations i 0 ≡ (decision rule t).assigned i
    unfolding outcome_by decision screened screen opens screened_at market market_by
    station_is i l = element (length t.amounts) _ a.stations_are i l

    at_rule_cut : ExplainsAccepted rule t table stations charges reasons
    unfolding codes guest_outcomes loss highest_code outcome outcome_by decision screened screen opens screened_at
        market market_by
    at_rule_cut = record {
      codes_are = s.codes_are
          ∙ (λ x. joined (length t.amounts) (λ i. list (length t.asks) (λ j. code_is rule t i j x)));
      outcomes_are = λ x. record {
        stations = a.stations_are x;
        charges = a.charges_are x;
        reasons = (s.reasons_are ∙ list_cong (length t.amounts) _ _ (λ i l. ap₂ (λ a b. only (a =? 0) b)
            (station_is i l) (λ y. greatest (length t.asks) (λ j. code_is rule t i j y)))) x;
      };
    }

pub explains_accepted :
    (rule : Rule) (t : Tables) {c : ℕ} {table stations charges reasons : List ℕ} → c ≡ cut_ask rule t.asks
    → Assigned (outcome_by (screened_at t c) (truthful (screened_at t c))) stations charges
    → CodesAtCut t c stations table reasons → ExplainsAccepted rule t table stations charges reasons
explains_accepted rule t {c} {table} {stations} {charges} {reasons} e a s =
    let at : c ≡ cut (market rule t) = e ∙ cut_is rule t in
    at_rule_cut rule t
    (subst (λ c. Assigned (outcome_by (screened_at t c) (truthful (screened_at t c))) stations charges) at a)
    (subst (λ c. CodesAtCut t c stations table reasons) at s)

-- ---- the verdict

accepted_lengths :
    (t : Tables) (codes outcomes : ℕ) → first_fault (explained_faults t codes (outcomes ∷ [])) ≡ accepted tt
    → WithinLimits t × (codes ≡ length t.amounts * length t.asks) × (outcomes ≡ length t.amounts)
accepted_lengths t codes outcomes e =
    let (market, table, lists) = explained_within t codes (outcomes ∷ []) e in
    ((accepted_iff_within_limits t).0 market, table, lists 0 (omega arith))

-- with tables of the right lengths the market decides
skip_row :
    (a b c : Bool) (rows : List Row) → c ≡ false
    → first_fault ((a gives 2) ∷ (b gives 5) ∷ (c gives 10) ∷ rows) ≡ first_fault ((a gives 2) ∷ (b gives 5) ∷ rows)
unfolding first_fault
skip_row true b c rows e = refl
skip_row false true c rows e = refl
skip_row false false c rows e = rw e refl

pub market_verdict :
    (t : Tables) (codes outcomes : ℕ) → codes ≡ length t.amounts * length t.asks → outcomes ≡ length t.amounts
    → first_fault (explained_faults t codes (outcomes ∷ [])) ≡ verdict t
unfolding verdict market_faults explained_faults counts lengths explained_lengths any some
market_verdict t codes outcomes c o = skip_row _ _ _ _ (neither (not_unequal _ _ c) (neither refl (not_unequal _ _ o)))

pub codes_fit :
    (t t' : Tables) (codes outcomes : ℕ)
    → answer_of_check (Ok t') ≡ first_fault (explained_faults t codes (outcomes ∷ [])) → t' ≡ t
    → codes ≡ length t'.amounts * length t'.asks
unfolding answer_of_check
codes_fit t t' codes outcomes e q = rw q (accepted_lengths t codes outcomes (sym e)).1

-- ---- the answers

pub refused_explains :
    (rule : Rule) (t : Tables) (outcomes : ℕ) (entry : List ℕ) (x : Refusal)
    → answer_of_check {A = Tables} (Err x) ≡ first_fault (explained_faults t (length entry) (outcomes ∷ []))
    → ExplainedUnder rule t outcomes entry (Err x) entry
unfolding answer_of_check answer_of_explaining telling_under
refused_explains rule t outcomes entry x e = keeps_refused (sym e)

accepted_long :
    {rule : Rule} {t : Tables} {table stations charges reasons : List ℕ}
    → ExplainsAccepted rule t table stations charges reasons
    → (length stations ≡ length t.amounts) × (length charges ≡ length t.amounts)
    × (length reasons ≡ length t.amounts)
unfolding guest_outcomes outcome outcome_by screened screen market market_by
accepted_long {t = t} s =
    let n = length t.amounts in (
      ap (λ o. length o.stations) s.outcomes_are ∙ length_list n _,
      ap (λ o. length o.charges) s.outcomes_are ∙ length_list n _,
      ap (λ o. length o.reasons) s.outcomes_are ∙ length_list n _,
    )

pub accepted_explains :
    (rule : Rule) (t t' : Tables) (outcomes : ℕ) (entry : List ℕ) {table stations charges reasons : List ℕ}
    → answer_of_check (Ok t') ≡ first_fault (explained_faults t (length entry) (outcomes ∷ [])) → t' ≡ t
    → ExplainsAccepted rule t' table stations charges reasons → (e : OutcomeArrays) → e.guests ≡ length t'.amounts
    → e.stations ≡ stations ++ drop (length t'.amounts) (replicate max_guests 0)
    → e.charges ≡ charges ++ drop (length t'.amounts) (replicate max_guests 0)
    → e.reasons ≡ reasons ++ drop (length t'.amounts) (replicate max_guests 0)
    → ExplainedUnder rule t outcomes entry (Ok e) table
unfolding answer_of_check answer_of_explaining telling_under told_by
accepted_explains rule t t' outcomes entry {table} {stations} {charges} {reasons} v q s e eg es ec el =
    let (ls, lc, ll) = accepted_long s in
    let n = length t'.amounts in
    let told : told_by e ≡ outcome_table stations charges reasons
    = λ x. outcome_table ((ap₂ take eg es ∙ take_at stations _ n ls) x)
    ((ap₂ take eg ec ∙ take_at charges _ n lc) x) ((ap₂ take eg el ∙ take_at reasons _ n ll) x) in
    keeps_accepted (sym v)
    (λ x. ((eg ∙ ap (λ t. length t.amounts) q) x, (told ∙ s.outcomes_are ∙ ap (guest_outcomes rule) q) x))
    (s.codes_are ∙ ap (codes rule) q)

-- under the rule of a number

pub unnamed_explains :
    (rule : ℕ) (t : Tables) (outcomes : ℕ) (entry : List ℕ) (x : Refusal) → Err x ≡ named rule
    → ExplainedBy rule t outcomes entry (Err x) entry
unfolding answer_of_explaining telling telling_under explaining_faults
unnamed_explains rule t outcomes entry x e = keeps_unnamed (λ known. telling_under known t outcomes) rule e

pub named_explains :
    (rule : ℕ) (t : Tables) (outcomes : ℕ) (entry : List ℕ) {known : Rule} (answer : Result OutcomeArrays Refusal)
    {exit : List ℕ} → Ok known ≡ named rule → ExplainedUnder known t outcomes entry answer exit
    → ExplainedBy rule t outcomes entry answer exit
unfolding telling telling_under explaining_faults
named_explains rule t outcomes entry answer e c = keeps_named (λ known. telling_under known t outcomes) rule e c

-- what a caller learns of arrays that are told: the counts are accepted, and there are so many guests

pub told_under :
    (rule : Rule) (t : Tables) (outcomes : ℕ) (entry : List ℕ) (e : OutcomeArrays) {exit : List ℕ}
    → ExplainedUnder rule t outcomes entry (Ok e) exit
    → (e.guests ≤ max_guests) × (e.guests ≡ length t.amounts) × (told_by e ≡ guest_outcomes rule t)
unfolding answer_of_explaining telling_under
told_under rule t outcomes entry e k =
    let (v, is, _) = was_accepted k refl in
    let w = accepted_lengths t (length entry) outcomes v in
    let guests : e.guests ≡ length t.amounts = sym (ap (λ p. p.0) is) in
    (rw guests w.0.shape.guests_most, guests, sym (ap (λ p. p.1) is))

pub told_of :
    (rule : ℕ) (t : Tables) (outcomes : ℕ) (entry : List ℕ) (e : OutcomeArrays) {exit : List ℕ}
    → ExplainedBy rule t outcomes entry (Ok e) exit
    → (e.guests ≤ max_guests) × (e.guests ≡ length t.amounts) × (told_by e ≡ guest_outcomes (rule_of rule) t)
unfolding answer_of_explaining telling explaining_faults unknown_rule
told_of rule t outcomes entry e k =
    let (v, is, _) = was_accepted k refl in
    let w = accepted_lengths t (length entry) outcomes (no_fault _ _ _ v).1 in
    let guests : e.guests ≡ length t.amounts = sym (ap (λ p. p.0) is) in
    (rw guests w.0.shape.guests_most, guests, sym (ap (λ p. p.1) is))

-- ---- the records

-- what is told of an accepted market: a loss has no station and no charge, and its code is 4 at most
record Sound (o : OutcomeTable) (n : ℕ) : Type 0 where
  station_none : (i : ℕ) → i < n → 0 < get_or o.reasons i 0 → get_or o.stations i 0 ≡ 0
  charge_none : (i : ℕ) → i < n → 0 < get_or o.reasons i 0 → get_or o.charges i 0 ≡ 0
  low : (i : ℕ) → i < n → get_or o.reasons i 0 ≤ 4

sound : (rule : Rule) (t : Tables) → Sound (guest_outcomes rule t) (length t.amounts)
unfolding at
sound rule t = record {
  station_none = λ i l p. station_at rule t i l ∙ unassigned i l p;
  charge_none = λ i l p. charge_at_lem rule t i l ∙ charged_as rule t i l (unassigned i l p);
  low = λ i l. rw (loss_at_lem rule t i l) (loss_most rule t i);
}
  where
    unassigned :
        (i : ℕ) → i < length t.amounts → 0 < get_or (guest_outcomes rule t).reasons i 0
        → (decision rule t).assigned i ≡ 0
    unassigned i l p = lost_unassigned rule t i (rw (loss_at_lem rule t i l) at p)

-- the lists of e, as far as there are guests
module _ (e : OutcomeArrays) {o : OutcomeTable} {n : ℕ} (few : n ≤ max_guests) (guests : e.guests ≡ n)
    (is : told_by e ≡ o) (i : ℕ) (l : i < n) where
  pub station_held : get_or e.stations i 0 ≡ get_or o.stations i 0
  unfolding told_by
  station_held =
      sym (get_or-take e.guests e.stations i 0 (omega arith)) ∙ ap (λ o. get_or o.stations i 0) is

  pub charge_held : get_or e.charges i 0 ≡ get_or o.charges i 0
  unfolding told_by
  charge_held = sym (get_or-take e.guests e.charges i 0 (omega arith)) ∙ ap (λ o. get_or o.charges i 0) is

  pub loss_held : get_or e.reasons i 0 ≡ get_or o.reasons i 0
  unfolding told_by
  loss_held = sym (get_or-take e.guests e.reasons i 0 (omega arith)) ∙ ap (λ o. get_or o.reasons i 0) is

  record_held :
      record_at e i
      ≡ record_of (get_or o.stations i 0) (mills (get_or o.charges i 0)) (get_or o.reasons i 0)
  record_held =
      sym (record_in e i {charge = mills (get_or e.charges i 0)} (omega arith) refl)
      ∙ (λ x. record_of (station_held x) (mills (charge_held x)) (loss_held x))

-- what guest i's record shows
module _ (rule : Rule) (t : Tables) (e : OutcomeArrays) (few : e.guests ≤ max_guests)
    (guests : e.guests ≡ length t.amounts) (is : told_by e ≡ guest_outcomes rule t) (i : ℕ)
    (l : i < length t.amounts) where
  pub shows_station : station_of (record_at e i).result ≡ get_or (guest_outcomes rule t).stations i 0
  shows_station =
      ap (λ (r : GuestOutcome). station_of r.result) (record_held e (omega arith) guests is i l)
      ∙ station_shown _ _ _ ((sound rule t).station_none i l)

  pub shows_charge : charge_of (record_at e i).result ≡ get_or (guest_outcomes rule t).charges i 0
  shows_charge =
      ap (λ (r : GuestOutcome). charge_of r.result) (record_held e (omega arith) guests is i l)
      ∙ charge_shown _ _ _ ((sound rule t).charge_none i l)

  pub shows_loss : loss_of (record_at e i).result ≡ get_or (guest_outcomes rule t).reasons i 0
  shows_loss =
      ap (λ (r : GuestOutcome). loss_of r.result) (record_held e (omega arith) guests is i l)
      ∙ loss_shown _ _ _ ((sound rule t).low i l)

-- the lists are as long as there are guests
pub outcomes_long :
    (rule : Rule) (t : Tables)
    → (length (guest_outcomes rule t).stations ≡ length t.amounts)
    × (length (guest_outcomes rule t).charges ≡ length t.amounts)
    × (length (guest_outcomes rule t).reasons ≡ length t.amounts)
unfolding guest_outcomes outcome outcome_by screened screen market market_by
outcomes_long rule t =
    let n = length t.amounts in (length_list n _, length_list n _, length_list n _)
