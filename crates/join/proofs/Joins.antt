-- A call that joins: refused by a market's own fault or by one of both, else its lent tables fit both markets' lists
-- and hold them afterwards. t and u are the markets as they are lent, t₁ and u₁ as they are accepted.
use Prim.Native.Nat.{ℕ, ◌+◌, ◌*◌}
use mathlib.Core.List.{◌++◌}
use mathlib.Core.Path.{◌≡◌, refl, sym, ap, ap₂, ◌∙◌}
use native.Mathlib.Nat.{add-mul}
use lib.ListN.{length}
use Rattle.model.specs.Promises.{Keeps}
use Rattle.model.specs.Verdicts.{accepted, refused, first_fault}
use Rattle.model.specs.market.Faults.{market_faults, verdict}
use Rattle.model.specs.market.Gates.{pair_faults, joining_faults, joined_tables}
use Rattle.model.specs.market.Market.{Tables}
use Rattle.model.specs.sheet.Lent.{LentTables}
use Rattle.model.specs.claims.Gates.{JoiningWithinLimits}
use Rattle.model.specs.claims.Meaning.{WithinLimits}
use Rattle.model.specs.clauses.EntryPoints.{joining}
use Rattle.model.proofs.Promises.{keeps_refused, keeps_accepted}
use Rattle.model.proofs.Verdicts.{fault_first, fault_second}
use Rattle.model.proofs.market.Acceptance.{accepted_iff_within_limits}
use Rattle.model.proofs.market.Joining.{joining_within}
use Rattle.join.specs.Together.{Fits, in_one}

fits : (t u : Tables) (l : LentTables) → first_fault (joining_faults t u l) ≡ accepted tt → Fits t u l
fits t u l e =
    let w : JoiningWithinLimits t u l = joining_within t u l e in
    let first : WithinLimits t = (accepted_iff_within_limits t).0 w.first_accepted in
    let second : WithinLimits u = (accepted_iff_within_limits u).0 w.second_accepted in
    let second_bids : length u.bids ≡ length u.amounts * length t.asks =
    second.shape.bids_length ∙ ap (λ a. length u.amounts * length a) w.joinable.same_asks in
    record {
      asks = w.asks_long;
      bays = w.bays_long ∙ sym first.shape.bays_length;
      amounts = w.amounts_long;
      tickets = w.tickets_long ∙ sym (ap₂ ◌+◌ first.shape.tickets_length second.shape.tickets_length);
      bids = w.bids_long ∙ add-mul (length t.amounts) (length u.amounts) (length t.asks)
          ∙ sym (ap₂ ◌+◌ first.shape.bids_length second_bids);
    }

module _ (t u : Tables) (l : LentTables) where
  pub first_refused : {k : ℕ} → refused k ≡ verdict t → Keeps (joining t u) l (refused k) l
  unfolding joining joining_faults verdict
  first_refused e =
      keeps_refused (fault_first (market_faults t ++ market_faults u) _
      (fault_first (market_faults t) (market_faults u) (sym e)))

  module _ (a : accepted tt ≡ verdict t) where
    pub second_refused : {k : ℕ} → refused k ≡ verdict u → Keeps (joining t u) l (refused k) l
    unfolding joining joining_faults verdict
    second_refused e =
        keeps_refused (fault_first (market_faults t ++ market_faults u) _
        (fault_second (market_faults t) (market_faults u) (sym a) ∙ sym e))

    module _ (b : accepted tt ≡ verdict u) {t₁ u₁ : Tables} (e : t₁ ≡ t) (f : u₁ ≡ u) where
      -- the faults of both decide then
      of_both :
          first_fault (joining_faults t u l)
          ≡ first_fault (pair_faults t₁ u₁ (length l.amounts) (length l.tickets) (length l.asks) (length l.bays)
          (length l.bids))
      unfolding joining_faults verdict
      of_both =
          rw (e, f) (fault_second (market_faults t ++ market_faults u) _
          (fault_second (market_faults t) (market_faults u) (sym a) ∙ sym b))

      pub pair_refused :
          {k : ℕ}
          → refused k
          ≡ first_fault (pair_faults t₁ u₁ (length l.amounts) (length l.tickets) (length l.asks) (length l.bays)
          (length l.bids)) → Keeps (joining t u) l (refused k) l
      unfolding joining
      pair_refused h = keeps_refused (of_both ∙ sym h)

      module _
          (h : accepted tt
          ≡ first_fault (pair_faults t₁ u₁ (length l.amounts) (length l.tickets) (length l.asks) (length l.bays)
          (length l.bids))) where
        pub tables_fit : Fits t₁ u₁ l
        tables_fit = rw (e, f) (fits t u l (of_both ∙ sym h))

        pub joins : {exit : LentTables} → exit ≡ in_one t₁ u₁ → Keeps (joining t u) l (accepted tt) exit
        unfolding joining joined_tables
        joins left = keeps_accepted (of_both ∙ sym h) refl (left ∙ ap₂ in_one e f)
