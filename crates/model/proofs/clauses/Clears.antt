-- What a caller of a clearing that lends lists of the right lengths learns from its answer.
use Prim.Native.Nat.{ℕ, ◌≤◌}
use mathlib.Core.Bool.{Bool, true, false, not}
use mathlib.Core.List.{List, ◌∷◌}
use mathlib.Core.Path.{◌≡◌, refl, sym, ap, ◌∙◌}
use lib.ListN.{length, take, replicate}
use Rattle.model.specs.Limits.{max_guests, max_stations}
use Rattle.model.specs.Counting.{◌=?◌}
use Rattle.model.specs.Numbers.{number, answer_of_clearing}
use Rattle.model.specs.Verdicts.{Row, ◌gives◌, accepted, refused, first_fault}
use Rattle.model.proofs.Promises.{was_accepted, was_refused}
use Rattle.model.specs.declared.refusal.Refusal.{Refusal}
use Rattle.model.specs.market.Market.{Tables}
use Rattle.model.specs.market.Outcome.{Results, Outcome, results}
use Rattle.model.specs.market.Faults.{list_lengths, market_faults, verdict, table_faults}
use Rattle.model.specs.claims.Meaning.{RightLengths}
use Rattle.model.proofs.Tests.{neither, is_eq}
use Rattle.model.proofs.Loops.{zeros_long}
use Rattle.model.specs.clauses.EntryPoints.{clearing_under, ClearsUnder}
use Rattle.model.specs.declared.answers.Figures.{Figures}
use Rattle.std.specs.Prelude.{Result, Ok, Err}

without_third :
    (a b : Row) (x : Bool) (r : ℕ) (rows : List Row) → x ≡ false
    → first_fault (a ∷ b ∷ (x gives r) ∷ rows) ≡ first_fault (a ∷ b ∷ rows)
unfolding first_fault
without_third (true gives _) b x r rows e = refl
without_third (false gives _) (true gives _) x r rows e = refl
without_third (false gives _) (false gives _) x r rows e = rw e

-- parts of arrays of the greatest size
pub lengths : (t : Tables) → length t.amounts ≤ max_guests → length t.asks ≤ max_stations
    → RightLengths t (results (take (length t.amounts) (replicate max_guests 0))
    (take (length t.amounts) (replicate max_guests 0)) (take (length t.asks) (replicate max_stations 0))
    (take (length t.asks) (replicate max_stations 0)))
lengths t n m = record {
  stations_long = sym (zeros_long max_guests _ n);
  charges_long = sym (zeros_long max_guests _ n);
  sold_long = sym (zeros_long max_stations _ m);
  paid_long = sym (zeros_long max_stations _ m);
}

same_verdict : (t : Tables) (r : Results) → RightLengths t r → first_fault (table_faults t r) ≡ verdict t
unfolding table_faults verdict market_faults list_lengths
same_verdict t r l = without_third _ _ _ _ _
    (neither (neither (neither (same _ _ l.stations_long) (same _ _ l.charges_long)) (same _ _ l.sold_long))
    (same _ _ l.paid_long))
  where
    same : (x y : ℕ) → x ≡ y → not (x =? y) ≡ false
    same x y e = ap not (is_eq x y e)

-- a market that was cleared
pub record ClearedAs (made : Tables → Outcome) (t : Tables) (k m : ℕ) (exit : Results) : Type 0 where
  pub is_accepted : verdict t ≡ accepted tt
  pub cut_is : k ≡ (made t).cut
  pub margin_is : m ≡ (made t).margin
  pub results_are : exit ≡ (made t).results

module _ (made : Tables → Outcome) (t : Tables) (entry exit : Results) (answer : Result Figures Refusal)
    (c : ClearsUnder made t entry answer exit) (l : RightLengths t entry) where
  pub clear_refused : (x : Refusal) → answer ≡ Err x → verdict t ≡ refused (number x)
  unfolding answer_of_clearing clearing_under
  clear_refused x q = sym (same_verdict t entry l) ∙ (was_refused c (ap answer_of_clearing q)).0

  pub clear_cleared : (f : Figures) → answer ≡ Ok f → ClearedAs made t f.cut.0 f.margin.0 exit
  unfolding answer_of_clearing clearing_under
  clear_cleared f q =
      let (v, e, left) = was_accepted c (ap answer_of_clearing q) in
      record {
        is_accepted = sym (same_verdict t entry l) ∙ v;
        cut_is = sym (ap (λ p. p.0) e);
        margin_is = sym (ap (λ p. p.1) e);
        results_are = left;
      }
