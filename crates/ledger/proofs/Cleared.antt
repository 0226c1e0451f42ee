-- A call of `clear_under` on lists of the right lengths, and the plan that it comes to.
use Prim.Native.Nat.{ℕ, ◌+◌, ◌-◌, ◌<◌, ◌≤◌}
use mathlib.Core.Bool.{Bool, true}
use mathlib.Core.List.{◌∷◌, ◌++◌}
use mathlib.Core.Logic.{⊎_elim}
use mathlib.Core.Path.{◌≡◌, refl, sym, ap, subst, ◌∙◌}
use native.Mathlib.Omega.{arith}
use lib.ListN.{get_or, length, drop, replicate, length-replicate, length-append, length-drop, get_or-replicate}
use lib.ListN.{get_or-append}
use lib.Seq.{get_or-append-add, get_or-drop}
use Rattle.std.specs.Prelude.{Result, Ok, Err}
use Rattle.model.specs.Limits.{max_guests, max_stations}
use Rattle.model.specs.Counting.{◌<?◌, ◌=?◌, ◌or◌, only, list}
use Rattle.model.specs.Numbers.{number}
use Rattle.model.specs.Verdicts.{accepted, refused, first_fault}
use Rattle.model.specs.market.Market.{Tables, market, market_by, screen}
use Rattle.model.specs.market.Mechanism.{charged, sold, paid}
use Rattle.model.specs.market.Outcome.{Results, outcome_by, screened, decision, outcome, outcome_in}
use Rattle.model.specs.market.Faults.{unknown_rule, counts, market_faults, verdict}
use Rattle.model.specs.market.Rules.{named, is_unknown, rule_of}
use Rattle.model.specs.book.Posting.{posting, to_guest, to_sold, to_paid, to_house}
use Rattle.model.specs.claims.Meaning.{RightLengths}
use Rattle.model.specs.clauses.EntryPoints.{ClearsUnder}
use Rattle.model.specs.declared.answers.Figures.{Figures}
use Rattle.model.specs.declared.mechanism.Mechanism.TheVariants.{Truthful}
use Rattle.model.specs.declared.refusal.Refusal.{Refusal}
use Rattle.model.specs.declared.refusal.Refusal.TheVariants.{CountsOutOfRange}
use Rattle.model.specs.declared.rule.Rule.{Rule}
use Rattle.model.proofs.Counting.{length_list, get_d_list}
use Rattle.model.proofs.Loops.{is_list}
use Rattle.model.proofs.Naming.{known_rule, no_rule}
use Rattle.model.proofs.Tests.{is_lt, lt_or_le, only_yes, only_no, not_lt}
use Rattle.model.proofs.Verdicts.{fault_here, giving_accepted, giving_refused}
use Rattle.model.proofs.clauses.Clears.{clear_refused, clear_cleared}
use Rattle.ledger.specs.declared.round.Round.{Round}
use Rattle.ledger.specs.Plans.{adding, answer_of_plan, Planned}

-- a list of n in front of an array of zeros
filled :
    (size n : ℕ) (f : ℕ → ℕ) → n ≤ size → list n f ++ drop n (replicate size 0) ≡ list size (λ k. only (k <? n) (f k))
filled size n f h = is_list size _ _ long at
  where
    long : length (list n f ++ drop n (replicate size 0)) ≡ size
    long = omega (
      arith,
      length-append (list n f) (drop n (replicate size 0)),
      length_list n f,
      length-drop n (replicate {A = ℕ} size 0),
      length-replicate {A = ℕ} size 0,
    )

    at : (k : ℕ) → k < size → get_or (list n f ++ drop n (replicate size 0)) k 0 ≡ only (k <? n) (f k)
    at k l = ⊎_elim
        (λ (c : k < n). get_or-append (list n f) (drop n (replicate size 0)) 0 k (omega (arith, length_list n f))
        ∙ get_d_list n f k c ∙ sym (only_yes _ _ (is_lt k n c)))
        (λ (c : n ≤ k).
        let j : k ≡ length (list n f) + (k - n) = omega (arith, length_list n f) in
        let i : n + (k - n) ≡ k = omega arith in
        ap (λ x. get_or (list n f ++ drop n (replicate size 0)) x 0) j
        ∙ get_or-append-add (list n f) (drop n (replicate size 0)) (k - n) 0
        ∙ get_or-drop n (replicate size 0) (k - n) 0 ∙ get_or-replicate {A = ℕ} size (n + (k - n)) 0 0 (omega arith)
        ∙ sym (only_no _ _ (not_lt k n c)))
        (lt_or_le k n)

-- a number that names no rule
pub unknown_plan : (k : ℕ) (t : Tables) (x : Refusal) → Err x ≡ named k → Planned k t (Err x)
unfolding unknown_rule answer_of_plan
unknown_plan k t x e =
    let (u, n) = no_rule k e in
    record { planned = ap refused n ∙ sym (giving_refused _ 18 (fault_here (market_faults t) u)) }

-- the results of n guests and m stations in arrays
abbrev pub in_arrays : (n m : ℕ) → Results → (margin : ℕ) → Round
in_arrays n m r margin = record {
  charges = r.charges ++ drop n (replicate max_guests 0);
  sold = r.sold ++ drop m (replicate max_stations 0);
  paid = r.paid ++ drop m (replicate max_stations 0);
  margin = record { 0 = margin };
  guests = n;
  stations = m;
}

module _ (rule : Rule) (k : ℕ) (e : named k ≡ Ok rule) (t : Tables) where
  -- the rule is known, so the market decides
  past_rule : first_fault (unknown_rule k ∷ market_faults t) ≡ verdict t
  unfolding unknown_rule is_unknown first_fault verdict
  past_rule = rw e refl

  pub refused_plan : (x : Refusal) → verdict t ≡ refused (number x) → Planned k t (Err x)
  unfolding answer_of_plan
  refused_plan x v = record { planned = sym (giving_refused _ _ (past_rule ∙ v)) }

  pub miscounted :
      (b : Bool) → b ≡ (max_guests <? length t.amounts or length t.asks =? 0 or max_stations <? length t.asks)
      → b ≡ true → Planned k t (Err CountsOutOfRange)
  unfolding verdict market_faults counts
  miscounted b f q = refused_plan CountsOutOfRange (fault_here _ (sym f ∙ q))

  full_round :
      length t.amounts ≤ max_guests → length t.asks ≤ max_stations
      → in_arrays (length t.amounts) (length t.asks) (outcome (rule_of k) t).results (outcome (rule_of k) t).margin
      ≡ adding (posting k t 0 0)
  unfolding outcome outcome_by adding to_guest to_sold to_paid to_house screened market market_by screen
  full_round n s = λ i. record {
    charges = filled max_guests (length t.amounts) (charged (screened (rule_of k) t) (decision (rule_of k) t)) n i;
    sold = filled max_stations (length t.asks) (sold (screened (rule_of k) t) (decision (rule_of k) t)) s i;
    paid = filled max_stations (length t.asks) (paid (screened (rule_of k) t) (decision (rule_of k) t)) s i;
    margin = record { 0 = (outcome (rule_of k) t).margin };
    guests = length t.amounts;
    stations = length t.asks;
  }

  -- the call, on lists of the right lengths
  module _ (entry exit : Results) (answer : Result Figures Refusal)
      (c : ClearsUnder (outcome_in Truthful rule) t entry answer exit) (l : RightLengths t entry) where
    by_number : ClearsUnder (outcome (rule_of k)) t entry answer exit
    unfolding outcome_in
    by_number = subst (λ q. ClearsUnder (outcome q) t entry answer exit) (sym (known_rule k (sym e)).1) c

    pub clear_refuses : (x : Refusal) → answer ≡ Err x → Planned k t (Err x)
    clear_refuses x q = refused_plan x (clear_refused _ t entry exit answer c l x q)

    pub clear_posts :
        (f : Figures) (r : Round) → length t.amounts ≤ max_guests → length t.asks ≤ max_stations → answer ≡ Ok f
        → r ≡ in_arrays (length t.amounts) (length t.asks) exit f.margin.0 → Planned k t (Ok r)
    unfolding answer_of_plan
    clear_posts f r n s q p =
        let d = clear_cleared _ t entry exit answer by_number l f q in
        record {
          planned =
              ap accepted (p
              ∙ ap (λ x. in_arrays (length t.amounts) (length t.asks) x f.margin.0) d.results_are
              ∙ ap (λ x. in_arrays (length t.amounts) (length t.asks) (outcome (rule_of k) t).results x) d.margin_is
              ∙ full_round n s)
              ∙ sym (giving_accepted _ (past_rule ∙ d.is_accepted));
        }
