-- The answers of `write`.
use Prim.Native.Nat.{ℕ, ◌<◌, ◌≤◌}
use mathlib.Core.List.{List}
use mathlib.Core.Path.{◌≡◌, sym, ◌∙◌}
use native.Mathlib.Omega.{arith}
use lib.ListN.{length}
use Rattle.std.specs.Prelude.{Ok, Err}
use Rattle.model.specs.Numbers.{answer_of_check, answer_of_writing}
use Rattle.model.specs.declared.refusal.Refusal.{Refusal}
use Rattle.model.specs.declared.refusal.Refusal.TheVariants.{OutputTooShort}
use Rattle.model.specs.clauses.EntryPoints.{writing, Writes}
use Rattle.model.specs.market.Faults.{market_faults, verdict}
use Rattle.model.specs.market.Market.{Tables}
use Rattle.model.specs.sheet.Shortest.{shortest, writing_faults, written}
use Rattle.model.proofs.Promises.{keeps_accepted, keeps_refused}
use Rattle.model.proofs.Tests.{is_lt, not_lt}
use Rattle.model.proofs.Verdicts.{fault_none, fault_here, fault_first, fault_second, fault_free}
use Rattle.sheet.specs.Wrote.{Wrote}
use Rattle.sheet.proofs.Wrote.{wrote_whole}

module _ (t : Tables) (out : List ℕ) where
  pub refuses_market : (x : Refusal) → answer_of_check {A = Tables} (Err x) ≡ verdict t → Writes t out (Err x) out
  unfolding answer_of_check answer_of_writing writing writing_faults verdict
  refuses_market x e = keeps_refused (fault_first (market_faults t) _ (sym e))

  -- the market u is what was accepted
  module _ {u : Tables} (a : answer_of_check {A = Tables} (Ok u) ≡ verdict t) (same : u ≡ t) where
    pub refuses_short : length out < length (shortest u) → Writes t out (Err OutputTooShort) out
    unfolding answer_of_check answer_of_writing writing writing_faults verdict
    refuses_short h =
        keeps_refused (fault_second (market_faults t) _ (sym a) ∙ fault_here _ (is_lt _ _ (rw same at h)))

    pub writes :
        {q : ℕ} {out' : List ℕ} → length (shortest u) ≤ length out → Wrote out 0 (shortest u) out' q
        → Writes t out (Ok q) out'
    unfolding answer_of_check answer_of_writing writing writing_faults verdict written
    writes {q} {out'} h w =
        let room : length (shortest t) ≤ length out = rw same at h in
        let wrote : Wrote out 0 (shortest t) out' q = rw same at w in
        keeps_accepted (fault_second (market_faults t) _ (sym a) ∙ fault_free _ _ (not_lt _ _ room) fault_none)
        (omega (arith, wrote.next)) (wrote_whole out (shortest t) out' q wrote room)
