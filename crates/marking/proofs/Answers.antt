-- The clearing of an accepted market with its places and floors at its rule's cut, and the answers that it gives.
use Prim.Native.Nat.{ℕ, ◌+◌}
use mathlib.Core.Bool.{Bool, ◌&&◌}
use mathlib.Core.List.{List}
use mathlib.Core.Path.{◌≡◌, refl, sym, ap, ap₂, ◌∙◌}
use native.Mathlib.Numerals.{add-one}
use lib.Dec.{eqb}
use lib.ListN.{get_or, length}
use Rattle.std.specs.Prelude.{Result, Ok, Err}
use Rattle.std.specs.Cmp.Lexicographic.{pointwise}
use Rattle.model.specs.Counting.{only, list}
use Rattle.model.specs.Numbers.{answer_of_check, answer_of_clearing, answer_of_marking}
use Rattle.model.specs.Verdicts.{first_fault}
use Rattle.model.specs.claims.Meaning.{WithinLimits}
use Rattle.model.specs.clauses.EntryPoints.{clearing_fully, ClearsFully, marking, Marks}
use Rattle.model.specs.declared.answers.Figures.{Figures}
use Rattle.model.specs.declared.refusal.Refusal.{Refusal}
use Rattle.model.specs.declared.rule.Rule.{Rule}
use Rattle.model.specs.market.Market.{Tables, market_by, market, cut, opens, screen}
use Rattle.model.specs.market.Marking.{FullResults, full_results, Submission, submission, place_table, floors_of}
use Rattle.model.specs.market.Marking.{full_results_of, round_of, same_results, same_submission, correct}
use Rattle.model.specs.market.Marking.{full_table_faults, marking_faults}
use Rattle.model.specs.market.Outcome.{Results, screened, outcome, outcome_in}
use Rattle.model.specs.market.Rules.{named}
use Rattle.model.specs.declared.mechanism.Mechanism.TheVariants.{Truthful}
use Rattle.model.proofs.ByNumber.{keeps_unnamed, keeps_named}
use Rattle.model.proofs.Compared.{eq_is}
use Rattle.model.proofs.Loops.{relist}
use Rattle.model.proofs.Promises.{keeps_refused, keeps_accepted}
use Rattle.model.proofs.claims.Marking.{full_within}
use Rattle.pricing.specs.CutAsk.{cut_ask}
use Rattle.pricing.proofs.cut.CutAsk.{cut_is}
use Rattle.allocation.specs.Screens.{screened_at}
use Rattle.allocation.specs.Stages.{Bars}
use Rattle.allocation.proofs.assignment.Assignment.{critical_at_lem}
use Rattle.clearing.specs.ClearsAccepted.{ClearsAccepted}
use Rattle.clearing.specs.Decided.{HasBars}
use Rattle.copies.proofs.Comparing.{same_is}
use Rattle.marking.specs.Accepted.{FullLengths, FullyClears, clearing_fully_under, ClearsFullyUnder}
use Rattle.marking.specs.Accepted.{marking_under, MarksUnder}
use Rattle.marking.proofs.places.Places.{both_are}

-- ---- at a cut, then at the rule's

floors_are :
    (t : Tables) (c : ℕ) {n : ℕ} {criticals bounds floors : List ℕ} → WithinLimits t → Bars t c criticals bounds
    → n ≡ length t.asks → floors ≡ list n (λ j. get_or criticals (j + 1) 0) → floors ≡ floors_of (screened_at t c)
unfolding floors_of screened_at
floors_are t c {criticals = criticals} w b long h =
    relist _ _ _ _ h long
    (λ j lj. ap (λ x. get_or criticals x 0) (add-one j) ∙ critical_at_lem t c w b.criticals_are j lj)

at_rule_cut : (rule : Rule) (t : Tables) → screened_at t (cut (market rule t)) ≡ screened rule t
unfolding screened_at screened screen opens market market_by
at_rule_cut rule t = refl

pub fully_clears :
    (rule : Rule) (t : Tables) (f : Figures) {r : Results} {criticals bounds places floors : List ℕ} {k : ℕ}
    → WithinLimits t → ClearsAccepted (outcome_in Truthful rule t) f r → f.cut.0 ≡ cut_ask rule t.asks
    → Bars t f.cut.0 criticals bounds → places ≡ place_table (screened_at t f.cut.0) → k ≡ length t.asks
    → floors ≡ list k (λ j. get_or criticals (j + 1) 0) → FullyClears rule t f (full_results r places floors)
unfolding full_results_of outcome_in
fully_clears rule t f w c e b held k floors =
    let S : screened_at t f.cut.0 ≡ screened rule t = ap (screened_at t) (e ∙ cut_is rule t) ∙ at_rule_cut rule t in
    let places_are = held ∙ ap place_table S in
    let floors_are = floors_are t f.cut.0 w b k floors ∙ ap floors_of S in
    record {
      cut_is = c.cut_is;
      margin_is = c.margin_is;
      left = λ y. record { results = c.left y; places = places_are y; floors = floors_are y };
    }

pub has_bars :
    {t : Tables} {c : ℕ} {criticals bounds : List ℕ} → HasBars Truthful t c criticals bounds → Bars t c criticals bounds
unfolding HasBars
has_bars b = b

-- ---- the verdict

lengths_fit :
    (t : Tables) (f : FullResults) → answer_of_check (Ok t) ≡ first_fault (full_table_faults t f) → FullLengths t f
unfolding answer_of_check
lengths_fit t f e =
    let (market, lists, places, floors) = full_within t f (sym e) in
    record { lists_fit = lists; places_long = places; floors_long = floors }

pub lists_fit :
    (t t' : Tables) (f : FullResults) → answer_of_check (Ok t') ≡ first_fault (full_table_faults t f) → t' ≡ t
    → FullLengths t' f
unfolding answer_of_check
lists_fit t t' f e q = rw q (lengths_fit t f e)

-- ---- the answers of `clear_marked`

pub refused_clears :
    (rule : Rule) (t : Tables) (f : FullResults) (x : Refusal)
    → answer_of_check {A = Tables} (Err x) ≡ first_fault (full_table_faults t f) → ClearsFullyUnder rule t f (Err x) f
unfolding answer_of_check answer_of_clearing clearing_fully_under
refused_clears rule t f x e = keeps_refused (sym e)

pub accepted_clears :
    (rule : Rule) (t t' : Tables) (f : FullResults) {exit : FullResults} (g : Figures)
    → answer_of_check (Ok t') ≡ first_fault (full_table_faults t f) → t' ≡ t → FullyClears rule t' g exit
    → ClearsFullyUnder rule t f (Ok g) exit
unfolding answer_of_check answer_of_clearing clearing_fully_under
accepted_clears rule t t' f {exit} g e q s =
    let c : FullyClears rule t g exit = rw (← q) s in
    keeps_accepted (sym e) (λ x. (c.cut_is x, c.margin_is x)) c.left

pub unnamed_clears :
    (rule : ℕ) (t : Tables) (f : FullResults) (x : Refusal) → Err x ≡ named rule → ClearsFully rule t f (Err x) f
unfolding answer_of_clearing clearing_fully clearing_fully_under marking_faults
unnamed_clears rule t f x e = keeps_unnamed (λ known. clearing_fully_under known t) rule e

pub named_clears :
    (rule : ℕ) (t : Tables) (f : FullResults) {exit : FullResults} {known : Rule} (answer : Result Figures Refusal)
    → Ok known ≡ named rule → ClearsFullyUnder known t f answer exit → ClearsFully rule t f answer exit
unfolding clearing_fully clearing_fully_under marking_faults
named_clears rule t f answer e c = keeps_named (λ known. clearing_fully_under known t) rule e c

-- ---- the mark

-- what is handed in against the truthful round, list by list
pub compares :
    (rule : Rule) (t : Tables) (s : Submission) (own : Figures) {lists : FullResults} → FullyClears rule t own lists
    → {stations charges sold paid places floors : Bool}
    → stations ≡ pointwise eqb s.lists.results.stations lists.results.stations
    → charges ≡ pointwise eqb s.lists.results.charges lists.results.charges
    → sold ≡ pointwise eqb s.lists.results.sold lists.results.sold
    → paid ≡ pointwise eqb s.lists.results.paid lists.results.paid
    → places ≡ pointwise eqb s.lists.places lists.places → floors ≡ pointwise eqb s.lists.floors lists.floors
    → (((((((stations && charges) && sold) && paid) && places) && floors) && eqb s.cut own.cut.0)
    && eqb s.margin own.margin.0) ≡ correct rule t s
unfolding correct round_of same_submission same_results
compares rule t s own {lists} h a b d e p f =
    both_are (both_are (both_are (both_are (both_are (both_are (both_are (a ∙ same_is _ _) (b ∙ same_is _ _))
    (d ∙ same_is _ _)) (e ∙ same_is _ _)) (p ∙ same_is _ _)) (f ∙ same_is _ _)) (eq_is _ _)) (eq_is _ _)
    ∙ ap₂ (λ x y. same_submission s (submission lists x y)) h.cut_is h.margin_is
    ∙ ap (λ l. same_submission s (submission l (outcome rule t).cut (outcome rule t).margin)) h.left

pub refused_marks :
    (rule : Rule) (t : Tables) (s : Submission) (x : Refusal)
    → answer_of_check {A = Tables} (Err x) ≡ first_fault (full_table_faults t s.lists) → MarksUnder rule t s (Err x)
unfolding answer_of_check answer_of_marking marking_under
refused_marks rule t s x e = keeps_refused (sym e)

pub accepted_marks :
    (rule : Rule) (t t' : Tables) (s : Submission) (r : Bool)
    → answer_of_check (Ok t') ≡ first_fault (full_table_faults t s.lists) → t' ≡ t → r ≡ correct rule t' s
    → MarksUnder rule t s (Ok r)
unfolding answer_of_check answer_of_marking marking_under
accepted_marks rule t t' s r e q h =
    keeps_accepted (sym e) (ap (λ b. only b 1) (h ∙ ap (λ t. correct rule t s) q)) refl

pub unnamed_marks : (rule : ℕ) (t : Tables) (s : Submission) (x : Refusal) → Err x ≡ named rule → Marks rule t s (Err x)
unfolding answer_of_marking marking marking_under marking_faults
unnamed_marks rule t s x e = keeps_unnamed (λ known. marking_under known t s) rule e

pub named_marks :
    (rule : ℕ) (t : Tables) (s : Submission) {known : Rule} (answer : Result Bool Refusal) → Ok known ≡ named rule
    → MarksUnder known t s answer → Marks rule t s answer
unfolding marking marking_under marking_faults
named_marks rule t s answer e c = keeps_named (λ known. marking_under known t s) rule e c
