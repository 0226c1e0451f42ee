-- What is told of a market, left in lists of other languages.
use Prim.Native.Nat.{ℕ, ◌+◌, ◌*◌, ◌≤◌, ◌<◌}
use mathlib.Core.Bool.{Bool, true, false, not, ◌&&◌}
use mathlib.Core.List.{List, [], ◌∷◌}
use mathlib.Core.Logic.{⊎_elim}
use mathlib.Core.Path.{◌≡◌, refl, sym, ap, ◌∙◌}
use native.Mathlib.Nat.{le_refl}
use native.Mathlib.Omega.{arith}
use lib.Dec.{eqb}
use lib.ListN.{get_or, length, set}
use lib.Seq.{ext_get_or}
use Rattle.std.specs.Prelude.{Ok, Err}
use Rattle.model.specs.Limits.{max_guests}
use Rattle.model.specs.Counting.{◌<?◌, ◌=?◌, ◌or◌, only, some, any}
use Rattle.model.specs.Numbers.{number, station_of, charge_of, loss_of}
use Rattle.model.specs.Verdicts.{accepted, first_fault, number_of, ◌gives◌}
use Rattle.model.specs.market.Market.{Tables}
use Rattle.model.specs.market.Faults.{unknown_rule, counts, lengths, values, explained_lengths, explained_faults}
use Rattle.model.specs.market.Faults.{explaining_faults}
use Rattle.model.specs.market.Reasons.{OutcomeTable, outcome_table, outcome_lengths, guest_outcomes, explanation}
use Rattle.model.specs.market.Rules.{rule_of}
use Rattle.model.specs.clauses.EntryPoints.{explaining}
use Rattle.model.specs.Promises.{RepliesOut}
use Rattle.model.specs.declared.money.Mills.{Mills}
use Rattle.model.specs.declared.reason.GuestOutcome.{GuestOutcome}
use Rattle.model.specs.declared.refusal.Refusal.{Refusal}
use Rattle.model.proofs.Tests.{decide, not_eq, only_le}
use Rattle.model.proofs.Counting.{any_no}
use Rattle.model.proofs.Loops.{Filled, filled_none, filled_more}
use Rattle.model.proofs.Promises.{keeps_refused, keeps_zero, was_accepted, was_refused}
use Rattle.model.proofs.market.Acceptance.{equal, not_unequal, accepted_iff_within_limits}
use Rattle.model.proofs.claims.Reasons.{explaining_within}
use Rattle.explain.specs.Explained.{answer_of_explaining, telling, ExplainedBy}
use Rattle.explain.specs.Outcomes.{record_of, mills, record_at}
use Rattle.explain.specs.declared.explained.OutcomeArrays.{OutcomeArrays}
use Rattle.explain.proofs.Answers.{told_of, shows_station, shows_charge, shows_loss, outcomes_long}
use Rattle.bay_market.specs.LaidOut.{FirstPlaces, LaidOut}
use Rattle.bay_market.proofs.Told.{replied}

-- a loop that has filled n places
pub places :
    {n i : ℕ} {f : ℕ → ℕ} {l₀ l : List ℕ} → Filled f l₀ l i → i ≤ n → n ≤ i → FirstPlaces n f l₀ l
places h a b =
    record { same = h.same; done = λ k l. h.done k (omega arith); left = λ k l. h.left k (omega arith) }

-- where there is no other place it is filled
all_filled :
    {f : ℕ → ℕ} {n : ℕ} {entry exit : List ℕ} (o : List ℕ) → length entry ≡ n → length o ≡ n
    → FirstPlaces n f entry exit → ((k : ℕ) → k < n → f k ≡ get_or o k 0) → exit ≡ o
all_filled o a b p h =
    ext_get_or 0 _ _ (p.same ∙ a ∙ sym b)
    (λ k l. p.done k (omega (arith, p.same)) ∙ h k (omega (arith, p.same)))

-- ---- the loop

-- a loss has no charge, so that no record has more than the list
charge_low :
    (station : ℕ) (charge : Mills) (loss : ℕ) → charge_of (record_of station charge loss).result ≤ charge.0
unfolding record_of charge_of
charge_low station charge loss = ⊎_elim
    (λ (e : (loss =? 0) ≡ true). rw e (le_refl charge.0))
    (λ (e : (loss =? 0) ≡ false). rw e (omega arith))
    (decide (loss =? 0))

pub record_low : (e : OutcomeArrays) (i : ℕ) → charge_of (record_at e i).result ≤ get_or e.charges i 0
unfolding record_at
record_low e i = omega (
  arith,
  charge_low (only (i <? max_guests) (get_or e.stations i 0)) (mills (only (i <? max_guests) (get_or e.charges i 0)))
      (only (i <? max_guests) (get_or e.reasons i 0)),
  only_le (i <? max_guests) (get_or e.charges i 0) (get_or e.charges i 0) (λ _. le_refl _),
)

-- the records of the first i guests are laid out
pub record Laying (e : OutcomeArrays) (stations₀ charges₀ reasons₀ stations charges reasons : List ℕ)
    (i : ℕ) : Type 0 where
  pub within : i ≤ e.guests
  pub stations_are : Filled (λ k. station_of (record_at e k).result) stations₀ stations i
  pub charges_are : Filled (λ k. charge_of (record_at e k).result) charges₀ charges i
  pub reasons_are : Filled (λ k. loss_of (record_at e k).result) reasons₀ reasons i

pub laying_none :
    {e : OutcomeArrays} {stations charges reasons : List ℕ}
    → Laying e stations charges reasons stations charges reasons 0
laying_none =
    record { within = omega arith; stations_are = filled_none; charges_are = filled_none; reasons_are = filled_none }

pub laying_turn :
    {e : OutcomeArrays} {stations₀ charges₀ reasons₀ stations charges reasons : List ℕ} {i s c l : ℕ} {o : GuestOutcome}
    → Laying e stations₀ charges₀ reasons₀ stations charges reasons i → i < e.guests → e.guests ≤ length stations₀
    → e.guests ≤ length charges₀ → e.guests ≤ length reasons₀ → o ≡ record_at e i → s ≡ station_of o.result
    → c ≡ charge_of o.result → l ≡ loss_of o.result
    → Laying e stations₀ charges₀ reasons₀ (set stations i s) (set charges i c) (set reasons i l) (i + 1)
laying_turn h b x y z q es ec el = record {
  within = omega arith;
  stations_are = filled_more h.stations_are (omega arith) (es ∙ ap (λ (r : GuestOutcome). station_of r.result) q);
  charges_are = filled_more h.charges_are (omega arith) (ec ∙ ap (λ (r : GuestOutcome). charge_of r.result) q);
  reasons_are = filled_more h.reasons_are (omega arith) (el ∙ ap (λ (r : GuestOutcome). loss_of r.result) q);
}

pub laying_end :
    {e : OutcomeArrays} {stations₀ charges₀ reasons₀ stations charges reasons : List ℕ} {i : ℕ}
    → Laying e stations₀ charges₀ reasons₀ stations charges reasons i → e.guests ≤ i
    → LaidOut e (outcome_table stations₀ charges₀ reasons₀) (outcome_table stations charges reasons)
laying_end h b = record {
  stations_are = places h.stations_are h.within b;
  charges_are = places h.charges_are h.within b;
  reasons_are = places h.reasons_are h.within b;
}

-- ---- the length of the outcome table

one_fits : (n x : ℕ) → x ≡ n → any (x ∷ []) (λ k. not (k =? n)) ≡ false
unfolding any some ◌or◌
one_fits n x e = not_unequal x n e

one_differs : (n x : ℕ) → (x ≡ n → ⊥) → any (x ∷ []) (λ k. not (k =? n)) ≡ true
unfolding any some ◌or◌
one_differs n x d = ap not (not_eq x n d)

three_tests : (a b c : Bool) → (false or not a or not b or not c) ≡ not (a && b && c)
unfolding ◌or◌
three_tests true true c = refl
three_tests true false c = refl
three_tests false b c = refl

module _ (n s c r : ℕ) where
  table_any :
      any (s ∷ c ∷ r ∷ []) (λ k. not (k =? n)) ≡ not (eqb s n && eqb c n && eqb r n)
  unfolding any some ◌=?◌
  table_any = three_tests (eqb s n) (eqb c n) (eqb r n)

  pub table_fits :
      (eqb s n && eqb c n && eqb r n) ≡ true
      → any (n ∷ []) (λ k. not (k =? n)) ≡ any (s ∷ c ∷ r ∷ []) (λ k. not (k =? n))
  table_fits e = one_fits n n refl ∙ sym (table_any ∙ ap not e)

  pub table_differs :
      {x : ℕ} → (eqb s n && eqb c n && eqb r n) ≡ false → (x ≡ n → ⊥)
      → any (x ∷ []) (λ k. not (k =? n)) ≡ any (s ∷ c ∷ r ∷ []) (λ k. not (k =? n))
  table_differs {x} e d = one_differs n x d ∙ sym (table_any ∙ ap not e)

-- ---- the answer

module _ (rule : ℕ) (t : Tables) (table : List ℕ) (entry : OutcomeTable) (x : ℕ)
    (same : any (x ∷ []) (λ k. not (k =? length t.amounts))
    ≡ any (outcome_lengths entry) (λ k. not (k =? length t.amounts))) where
  verdict_is :
      first_fault (explaining_faults rule t (length table) (x ∷ []))
      ≡ first_fault (explaining_faults rule t (length table) (outcome_lengths entry))
  unfolding explaining_faults explained_faults explained_lengths
  verdict_is =
      ap (λ b. first_fault (unknown_rule rule ∷ counts (length t.amounts) (length t.asks)
      ∷ lengths (length t.amounts) (length t.asks) (length t.bays) (length t.tickets) (length t.bids)
      t.width ∷ ((not (length table =? length t.amounts * length t.asks) or b) gives 10) ∷ values t)) same

  pub told_refused :
      (r : Refusal) {table' : List ℕ} {k : ℕ} → ExplainedBy rule t x table (Err r) table' → k ≡ number r
      → RepliesOut (explaining rule t) (explanation table entry) k (explanation table' entry)
  unfolding answer_of_explaining telling explaining number_of
  told_refused r c n = let (v, kept) = was_refused c refl in rw kept (replied (keeps_refused (sym verdict_is ∙ v)) n)

  module _ (e : OutcomeArrays) {table' : List ℕ} (c : ExplainedBy rule t x table (Ok e) table') where
    accepts : first_fault (explaining_faults rule t (length table) (x ∷ [])) ≡ accepted tt
    unfolding answer_of_explaining telling
    accepts = (was_accepted c refl).0

    guests_are : e.guests ≡ length t.amounts
    unfolding answer_of_explaining telling
    guests_are = sym (ap (λ p. p.0) (was_accepted c refl).1)

    -- each list is as long as there are guests
    pub room :
        (e.guests ≤ max_guests) × (length entry.stations ≡ e.guests) × (length entry.charges ≡ e.guests)
        × (length entry.reasons ≡ e.guests)
    room =
        let w = explaining_within rule t (length table) (x ∷ []) accepts in
        let none = sym same ∙ one_fits _ x (w.outcomes_long 0 (omega arith)) in
        let lists = outcome_lengths entry in (
          omega (arith, guests_are, ((accepted_iff_within_limits t).0 w.market_accepted).shape.guests_most),
          equal _ _ (any_no lists _ none 0 (omega arith)) ∙ sym guests_are,
          equal _ _ (any_no lists _ none 1 (omega arith)) ∙ sym guests_are,
          equal _ _ (any_no lists _ none 2 (omega arith)) ∙ sym guests_are,
        )

    -- laid out, the records are what is told of the guests
    laid_all : {exit : OutcomeTable} → LaidOut e entry exit → exit ≡ guest_outcomes (rule_of rule) t
    laid_all laid =
        let (few, a, b, d) = room in
        let (_, guests, is) = told_of rule t x table e c in
        let (ls, lc, ll) = outcomes_long (rule_of rule) t in
        let o = guest_outcomes (rule_of rule) t in
        λ y. outcome_table
        (all_filled o.stations a (ls ∙ sym guests) laid.stations_are
        (λ k l. shows_station (rule_of rule) t e few guests is k (omega arith)) y)
        (all_filled o.charges b (lc ∙ sym guests) laid.charges_are
        (λ k l. shows_charge (rule_of rule) t e few guests is k (omega arith)) y)
        (all_filled o.reasons d (ll ∙ sym guests) laid.reasons_are
        (λ k l. shows_loss (rule_of rule) t e few guests is k (omega arith)) y)

    pub told_all :
        {exit : OutcomeTable} → LaidOut e entry exit
        → RepliesOut (explaining rule t) (explanation table entry) 0 (explanation table' exit)
    unfolding answer_of_explaining telling explaining
    told_all laid =
        let (_, _, codes_are) = was_accepted c refl in
        rw (codes_are, laid_all laid) (keeps_zero tt (sym verdict_is ∙ accepts))
