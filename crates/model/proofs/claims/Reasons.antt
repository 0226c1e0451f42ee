-- Request 7, proved: of tables, and of calls of the exported `explain` and of `clear`.
use Prim.Native.Nat.{ℕ, zero, suc, ◌+◌, ◌*◌, ◌≤◌, ◌<◌}
use mathlib.Core.List.{List}
use mathlib.Core.Logic.{◌↔◌, ⊎_elim}
use mathlib.Core.Path.{◌≡◌, refl, sym, ap, subst, ◌∙◌}
use native.Mathlib.Omega.{arith}
use lib.ListN.{get_or, length, length-replicate, replicate}
use Rattle.model.specs.Counting.{greatest}
use Rattle.model.specs.Verdicts.{accepted, first_fault}
use Rattle.model.specs.market.Market.{Tables, market_by, market, screen}
use Rattle.model.specs.market.Mechanism.{at, charge, charged}
use Rattle.model.specs.market.Outcome.{outcome_by, screened, decision, outcome}
use Rattle.model.specs.market.Faults.{Accepted, unknown_rule, verdict, market_faults, counts, lengths}
use Rattle.model.specs.market.Faults.{explained_lengths, explained_faults, explaining_faults}
use Rattle.model.specs.market.Reasons.{code, codes, highest_code, outcome_table, outcome_lengths, explanation, loss}
use Rattle.model.specs.market.Reasons.{Explanation, guest_outcomes}
use Rattle.model.specs.market.Rules.{rule_of}
use Rattle.model.specs.claims.Calls.{ClearedCall}
use Rattle.model.specs.claims.Reasons.{CodeTells, CodesTellFacts, OutcomeTells, OutcomesTellWinsAndLosses}
use Rattle.model.specs.claims.Reasons.{ExplainingWithinLimits, ExplainingAcceptedIffWithinLimits}
use Rattle.model.specs.claims.Reasons.{ExplainedIffWithinLimits, ExplainedCall, ExplainedCallExists, code_in}
use Rattle.model.specs.claims.Reasons.{CodesTellFactsCalls, OutcomesTellWinsAndLossesCalls, ExplainTellsClear}
use Rattle.model.specs.clauses.EntryPoints.{clearing, explaining}
use Rattle.model.specs.declared.rule.Rule.{Rule}
use Rattle.model.proofs.Tests.{or_no, neither, lt_or_le}
use Rattle.model.proofs.Counting.{any_no, none_any, greatest_cong, get_d_list}
use Rattle.model.proofs.Promises.{keeps_zero, was_accepted}
use Rattle.model.proofs.Verdicts.{no_fault, fault_free, number_accepted}
use Rattle.model.proofs.claims.Promises.{zero_is_accepted, faults_numbered_from_one}
use Rattle.model.proofs.market.Acceptance.{equal, not_unequal, known, is_known, accepted_iff_within_limits}
use Rattle.model.proofs.market.Reasons.{code_tells, loss_most, loss_is, lost_unassigned, highest_least}
use Rattle.model.proofs.sheet.Joined.{get_d_joined}

-- ---- the codes

code_at :
    (rule : Rule) (t : Tables) (i j : ℕ) → i < length t.amounts → j < length t.asks
    → get_or (codes rule t) (i * length t.asks + j) 0 ≡ code (market rule t) i j
unfolding codes
code_at rule t i j li lj = get_d_joined (length t.amounts) (length t.asks) (code (market rule t)) i j li lj

pub codes_tell_facts : CodesTellFacts
codes_tell_facts rule t i j li lj =
    subst (CodeTells rule t i j) (sym (code_at rule t i j li lj)) (code_tells rule t i j)

-- ---- the outcomes

module _ (rule : Rule) (t : Tables) (i : ℕ) (li : i < length t.amounts) where
  pub station_at : get_or (guest_outcomes rule t).stations i 0 ≡ (decision rule t).assigned i
  unfolding guest_outcomes outcome outcome_by screened screen market market_by
  station_at = get_d_list (length t.amounts) _ i li

  pub charge_at_lem : get_or (guest_outcomes rule t).charges i 0 ≡ charged (screened rule t) (decision rule t) i
  unfolding guest_outcomes outcome outcome_by screened screen market market_by
  charge_at_lem = get_d_list (length t.amounts) _ i li

  pub loss_at_lem : get_or (guest_outcomes rule t).reasons i 0 ≡ loss rule t i
  unfolding guest_outcomes
  loss_at_lem = get_d_list (length t.amounts) _ i li

  pub charged_as : {s : ℕ} → (decision rule t).assigned i ≡ s
      → charged (screened rule t) (decision rule t) i ≡ at (charge (screened rule t) (decision rule t) i) s
  unfolding charged
  charged_as e = ap (at (charge (screened rule t) (decision rule t) i)) e

  no_loss : {j : ℕ} → (decision rule t).assigned i ≡ suc j → loss rule t i ≡ 0
  no_loss {j} e = ⊎_elim
      (λ (p : 0 < loss rule t i). absurd (omega (arith, lost_unassigned rule t i p)))
      (λ (p : loss rule t i ≤ 0). omega arith)
      (lt_or_le 0 (loss rule t i))

pub outcomes_tell_wins_and_losses : OutcomesTellWinsAndLosses
unfolding at
outcomes_tell_wins_and_losses rule t a i li =
    let m = ((accepted_iff_within_limits t).0 a).shape.stations_least in
    record {
      won = λ j e. (
        station_at rule t i li ∙ e,
        charge_at_lem rule t i li ∙ charged_as rule t i li e,
        loss_at_lem rule t i li ∙ no_loss rule t i li e,
      );
      lost = λ e.
          let l = loss_at_lem rule t i li ∙ loss_is rule t i e in (
            station_at rule t i li ∙ e,
            charge_at_lem rule t i li ∙ charged_as rule t i li e,
            l,
            rw l (highest_least rule t i m e),
            rw (loss_at_lem rule t i li) (loss_most rule t i),
          );
    }

-- ---- acceptance

pub explained_within :
    (t : Tables) (codes : ℕ) (outcomes : List ℕ) → first_fault (explained_faults t codes outcomes) ≡ accepted tt
    → Accepted t × (codes ≡ length t.amounts * length t.asks)
    × ((k : ℕ) → k < length outcomes → get_or outcomes k 0 ≡ length t.amounts)
unfolding verdict market_faults explained_faults counts lengths explained_lengths
explained_within t codes outcomes e =
    let (c, e1) = no_fault _ _ _ e in
    let (l, e2) = no_fault _ _ _ e1 in
    let (k, e3) = no_fault _ _ _ e2 in
    let (table, lists) = or_no _ _ k in (
      fault_free _ _ c (fault_free _ _ l e3),
      equal _ _ table,
      λ k lk. equal _ _ (any_no outcomes _ lists k lk),
    )

pub explaining_within :
    (rule : ℕ) (t : Tables) (codes : ℕ) (outcomes : List ℕ)
    → first_fault (explaining_faults rule t codes outcomes) ≡ accepted tt
    → ExplainingWithinLimits rule t codes outcomes
unfolding explaining_faults unknown_rule
explaining_within rule t codes outcomes e =
    let (n, e1) = no_fault _ _ _ e in
    let (market, table, lists) = explained_within t codes outcomes e1 in
    record { rule_known = known rule n; market_accepted = market; codes_long = table; outcomes_long = lists }

explaining_accept :
    (rule : ℕ) (t : Tables) (codes : ℕ) (outcomes : List ℕ) → ExplainingWithinLimits rule t codes outcomes
    → first_fault (explaining_faults rule t codes outcomes) ≡ accepted tt
unfolding verdict market_faults explaining_faults explained_faults unknown_rule counts lengths explained_lengths
explaining_accept rule t codes outcomes w =
    let (c, e1) = no_fault _ _ _ w.market_accepted in
    let (l, e2) = no_fault _ _ _ e1 in
    fault_free _ _ (is_known rule w.rule_known) (fault_free _ _ c (fault_free _ _ l (fault_free _ _
    (neither (not_unequal _ _ w.codes_long)
    (none_any outcomes _ (λ k lk. not_unequal _ _ (w.outcomes_long k lk))))
    e2)))

pub explaining_accepted_iff_within_limits : ExplainingAcceptedIffWithinLimits
explaining_accepted_iff_within_limits rule t codes outcomes =
    (explaining_within rule t codes outcomes, explaining_accept rule t codes outcomes)

-- ---- over calls

pub explained_iff_within_limits : ExplainedIffWithinLimits
unfolding explaining
explained_iff_within_limits rule t entry exit number c = (
  λ z. explaining_within rule t _ _ (found z),
  λ w. c.number_is ∙ number_accepted (explaining_accept rule t _ _ w),
)
  where
    found : number ≡ 0 → first_fault (explaining rule t entry).faults ≡ accepted tt
    found z =
        (zero_is_accepted Unit Explanation (explaining rule t) entry exit tt tt
        (faults_numbered_from_one.of_explaining rule t entry) (rw z at c)).0

-- tables as long as they have to be
module _ (t : Tables) where
  room : Explanation
  room =
      let n = length t.amounts in
      explanation (replicate (n * length t.asks) 0) (outcome_table (replicate n 0) (replicate n 0) (replicate n 0))

  room_long : (k : ℕ) → k < 3 → get_or (outcome_lengths room.outcomes) k 0 ≡ length t.amounts
  unfolding room
  room_long zero l = length-replicate {A = ℕ} (length t.amounts) 0
  room_long (suc zero) l = length-replicate {A = ℕ} (length t.amounts) 0
  room_long (suc (suc zero)) l = length-replicate {A = ℕ} (length t.amounts) 0
  room_long (suc (suc (suc k))) l = absurd (omega arith)

pub explained_call_exists : ExplainedCallExists
unfolding explaining room
explained_call_exists rule t r a = record {
  entry = room t;
  exit = explanation (codes (rule_of rule) t) (guest_outcomes (rule_of rule) t);
  call = keeps_zero tt (explaining_accept rule t _ _ (record {
    rule_known = r;
    market_accepted = a;
    codes_long = length-replicate {A = ℕ} (length t.amounts * length t.asks) 0;
    outcomes_long = room_long t;
  }));
}

module _ (rule : ℕ) (t : Tables) (e : ExplainedCall rule t) where
  accepted_here :
      (first_fault (explaining rule t e.entry).faults ≡ accepted tt)
      × (e.exit ≡ (explaining rule t e.entry).leaves)
  accepted_here =
      let (v, left, _) = zero_is_accepted Unit Explanation (explaining rule t) e.entry e.exit tt tt
      (faults_numbered_from_one.of_explaining rule t e.entry) e.call in
      (v, left)

  market_here : Accepted t
  unfolding explaining
  market_here = (explaining_within rule t _ _ accepted_here.0).market_accepted

  code_here :
      (i j : ℕ) → i < length t.amounts → j < length t.asks
      → code_in t e.exit i j ≡ code (market (rule_of rule) t) i j
  unfolding explaining code_in
  code_here i j li lj = ap (λ s. code_in t s i j) accepted_here.1 ∙ code_at (rule_of rule) t i j li lj

  pub outcomes_here : e.exit.outcomes ≡ guest_outcomes (rule_of rule) t
  unfolding explaining
  outcomes_here = ap (λ s. s.outcomes) accepted_here.1

pub codes_tell_facts_calls : CodesTellFactsCalls
codes_tell_facts_calls rule t e i j li lj =
    subst (CodeTells (rule_of rule) t i j) (sym (code_here rule t e i j li lj)) (code_tells (rule_of rule) t i j)

pub outcomes_tell_wins_and_losses_calls : OutcomesTellWinsAndLossesCalls
outcomes_tell_wins_and_losses_calls rule t e i li =
    subst (λ o. OutcomeTells (rule_of rule) t o i) (sym (outcomes_here rule t e))
    (outcomes_tell_wins_and_losses (rule_of rule) t (market_here rule t e) i li)

module _ (rule : ℕ) (t : Tables) (e : ExplainedCall rule t) (k : ClearedCall rule t) (i : ℕ)
    (li : i < length t.amounts) where
  left : k.exit ≡ (outcome (rule_of rule) t).results
  unfolding clearing
  left = (was_accepted k.call k.cleared).2

  station_same : get_or e.exit.outcomes.stations i 0 ≡ get_or k.exit.stations i 0
  unfolding guest_outcomes
  station_same =
      ap (λ o. get_or o.stations i 0) (outcomes_here rule t e) ∙ ap (λ r. get_or r.stations i 0) (sym left)

  charge_same : get_or e.exit.outcomes.charges i 0 ≡ get_or k.exit.charges i 0
  unfolding guest_outcomes
  charge_same =
      ap (λ o. get_or o.charges i 0) (outcomes_here rule t e) ∙ ap (λ r. get_or r.charges i 0) (sym left)

  assigned_as : (decision (rule_of rule) t).assigned i ≡ get_or k.exit.stations i 0
  assigned_as =
      sym (station_at (rule_of rule) t i li) ∙ ap (λ o. get_or o.stations i 0) (sym (outcomes_here rule t e))
      ∙ station_same

  tells : OutcomeTells (rule_of rule) t e.exit.outcomes i
  tells = outcomes_tell_wins_and_losses_calls rule t e i li

  loses_as :
      get_or k.exit.stations i 0 ≡ 0
      → (get_or e.exit.outcomes.reasons i 0 ≡ greatest (length t.asks) (code_in t e.exit i))
      × (1 ≤ get_or e.exit.outcomes.reasons i 0) × (get_or e.exit.outcomes.reasons i 0 ≤ 4)
  unfolding highest_code
  loses_as z =
      let (_, _, is, least, most) = tells.lost (assigned_as ∙ z) in
      (is ∙ greatest_cong (length t.asks) _ _ (λ j lj. sym (code_here rule t e i j li lj)), least, most)

  wins_as : (s : ℕ) → get_or k.exit.stations i 0 ≡ s
      → (get_or e.exit.outcomes.reasons i 0 ≡ 0) ↔ (1 ≤ get_or k.exit.stations i 0)
  wins_as zero z = (λ w. absurd (omega (arith, (loses_as z).1)), λ l. absurd (omega arith))
  wins_as (suc j) z = (λ _. omega arith, λ _. (tells.won j (assigned_as ∙ z)).2)

pub explain_tells_clear : ExplainTellsClear
explain_tells_clear rule t e k i li = record {
  station_is = station_same rule t e k i li;
  charge_is = charge_same rule t e k i li;
  wins = wins_as rule t e k i li (get_or k.exit.stations i 0) refl;
  loses = loses_as rule t e k i li;
}
