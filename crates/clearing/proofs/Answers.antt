-- The outcome of an accepted market at its rule's cut, and the answers of a clearing.
use Prim.Native.Nat.{ℕ, ◌-◌}
use mathlib.Core.List.{List}
use mathlib.Core.Path.{◌≡◌, refl, sym, ap, subst, ◌∙◌}
use lib.ListN.{get_or, length}
use Rattle.std.specs.Prelude.{Result, Ok, Err}
use Rattle.model.specs.Counting.{sum}
use Rattle.model.specs.Numbers.{answer_of_check, answer_of_clearing}
use Rattle.model.specs.Verdicts.{first_fault}
use Rattle.model.specs.clauses.EntryPoints.{clearing, clearing_under, ClearsUnder, Clears}
use Rattle.model.specs.market.Faults.{table_faults, clearing_faults}
use Rattle.model.specs.market.Rules.{named}
use Rattle.model.specs.declared.refusal.Refusal.{Refusal}
use Rattle.model.proofs.ByNumber.{keeps_unnamed, keeps_named}
use Rattle.model.specs.claims.Meaning.{RightLengths}
use Rattle.model.proofs.clauses.Accepts.{accepts}
use Rattle.model.proofs.Promises.{keeps_refused, keeps_accepted}
use Rattle.model.specs.declared.answers.Figures.{Figures}
use Rattle.model.specs.declared.mechanism.Mechanism.{Mechanism}
use Rattle.model.specs.declared.mechanism.Mechanism.TheVariants.{Truthful, Efficient}
use Rattle.model.specs.declared.rule.Rule.{Rule}
use Rattle.model.specs.market.Market.{Tables, market_by, market, cut, opens, screen}
use Rattle.model.specs.market.Mechanism.{Decision}
use Rattle.model.specs.market.Outcome.{Results, Outcome, outcome_by, screened, decision, outcome, results}
use Rattle.model.specs.market.Outcome.{efficient_decision, efficient_outcome, outcome_in}
use Rattle.model.proofs.market.Outcomes.{ComesOf, of_truthful, of_efficient}
use Rattle.pricing.specs.CutAsk.{cut_ask}
use Rattle.pricing.proofs.cut.CutAsk.{cut_is}
use Rattle.pricing.specs.Sales.{kwh_at, PaidOut}
use Rattle.allocation.specs.Stages.{AtCut}
use Rattle.allocation.specs.Assignment.{Assigned}
use Rattle.allocation.specs.Screens.{screened_at}
use Rattle.allocation.proofs.assignment.Results.{cut_is as cut_at, margin_is, results_are}
use Rattle.clearing.specs.Decided.{decided}
use Rattle.clearing.specs.ClearsAccepted.{ClearsAccepted}

pub of_mechanism : (t : Tables) (c : ℕ) (x : Mechanism) → let S = screened_at t c in
    ComesOf S (decided x S) (outcome_by S (decided x S))
unfolding decided
of_mechanism t c Truthful = of_truthful (screened_at t c)
of_mechanism t c Efficient = of_efficient (screened_at t c)

-- at its cut a rule's outcome
under_rule :
    (x : Mechanism) (rule : Rule) (t : Tables) → let S = screened_at t (cut (market rule t)) in
    outcome_by S (decided x S) ≡ outcome_in x rule t
unfolding decided outcome_in outcome decision efficient_outcome efficient_decision screened screen opens screened_at
    market market_by
under_rule Truthful rule t = refl
under_rule Efficient rule t = refl

clears_at_cut :
    (t : Tables) (f : Figures) {D : Decision} {o : Outcome} → ComesOf (screened_at t f.cut.0) D o
    → {stations charges least sold paid : List ℕ} {n : ℕ} → Assigned o stations charges → AtCut t f.cut.0 least
    → n ≡ length t.asks → PaidOut (kwh_at stations t.amounts) f.cut.0 n sold paid
    → f.margin.0 ≡ sum (length charges) (λ i. get_or charges i 0 - get_or least i 0)
    → ClearsAccepted o f (results stations charges sold paid)
clears_at_cut t f m a A en p e = record {
  cut_is = cut_at t f.cut.0 m a;
  margin_is = e ∙ margin_is t f.cut.0 m a A;
  left = results_are t f.cut.0 m a en p;
}

-- the calls that a clearing is made of, under a rule
pub clears_accepted :
    (x : Mechanism) (rule : Rule) (t : Tables) (f : Figures) → f.cut.0 ≡ cut_ask rule t.asks
    → {stations charges least sold paid : List ℕ} {n : ℕ} → let S = screened_at t f.cut.0 in
    Assigned (outcome_by S (decided x S)) stations charges → AtCut t f.cut.0 least → n ≡ length t.asks
    → PaidOut (kwh_at stations t.amounts) f.cut.0 n sold paid
    → f.margin.0 ≡ sum (length charges) (λ i. get_or charges i 0 - get_or least i 0)
    → ClearsAccepted (outcome_in x rule t) f (results stations charges sold paid)
clears_accepted x rule t f e {stations} {charges} {sold = sold} {paid} a A en p m =
    subst (λ o. ClearsAccepted o f (results stations charges sold paid))
    (ap (λ c. outcome_by (screened_at t c) (decided x (screened_at t c))) (e ∙ cut_is rule t) ∙ under_rule x rule t)
    (clears_at_cut t f (of_mechanism t f.cut.0 x) a A en p m)

-- ---- the answers

pub refused_clears :
    (made : Tables → Outcome) (t : Tables) (r : Results) (x : Refusal)
    → answer_of_check {A = Tables} (Err x) ≡ first_fault (table_faults t r) → ClearsUnder made t r (Err x) r
unfolding answer_of_check answer_of_clearing clearing_under
refused_clears made t r x e = keeps_refused (sym e)

pub accepted_clears :
    (made : Tables → Outcome) (t t' : Tables) (r : Results) {exit : Results} (f : Figures)
    → answer_of_check (Ok t') ≡ first_fault (table_faults t r) → t' ≡ t → ClearsAccepted (made t') f exit
    → ClearsUnder made t r (Ok f) exit
unfolding answer_of_check answer_of_clearing clearing_under
accepted_clears made t t' r {exit} f e q a =
    let c : ClearsAccepted (made t) f exit = rw (← q) a in
    keeps_accepted (sym e) (λ x. (c.cut_is x, c.margin_is x)) c.left

pub lists_fit :
    (t t' : Tables) (r : Results) → answer_of_check (Ok t') ≡ first_fault (table_faults t r) → t' ≡ t
    → RightLengths t' r
unfolding answer_of_check
lists_fit t t' r e q = rw q (accepts t r (sym e)).fits

-- under the rule of a number

pub unnamed_clears :
    (made : Rule → Tables → Outcome) (rule : ℕ) (t : Tables) (r : Results) (x : Refusal)
    → Err x ≡ named rule → Clears made rule t r (Err x) r
unfolding answer_of_clearing clearing clearing_under clearing_faults
unnamed_clears made rule t r x e = keeps_unnamed (λ known. clearing_under (made known) t) rule e

pub named_clears :
    (made : Rule → Tables → Outcome) (rule : ℕ) (t : Tables) (r : Results) {exit : Results} {known : Rule}
    (answer : Result Figures Refusal) → Ok known ≡ named rule → ClearsUnder (made known) t r answer exit
    → Clears made rule t r answer exit
unfolding clearing clearing_under clearing_faults
named_clears made rule t r answer e c = keeps_named (λ known. clearing_under (made known) t) rule e c
