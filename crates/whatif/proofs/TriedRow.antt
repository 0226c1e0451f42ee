-- A row tried in an accepted market: the other market, and both rounds.
use Prim.Native.Nat.{ℕ, ◌*◌, ◌+◌, ◌≤◌}
use mathlib.Core.List.{List}
use mathlib.Core.Path.{◌≡◌, sym, ap, subst, ◌∙◌}
use native.Mathlib.Omega.{arith}
use lib.ListN.{get_or, length}
use lib.Seq.{paste}
use Rattle.model.specs.Limits.{max_bids}
use Rattle.model.specs.market.Market.{Tables, regular}
use Rattle.model.specs.market.Outcome.{outcome}
use Rattle.model.specs.market.Changes.{with_row, changes, changes_with}
use Rattle.model.specs.claims.Meaning.{WithinLimits}
use Rattle.model.specs.declared.answers.Gains.{Gains}
use Rattle.model.specs.declared.rule.Rule.{Rule}
use Rattle.model.proofs.market.Acceptance.{accepted_iff_within_limits, product_fits}
use Rattle.model.proofs.market.Changes.{with_row_accepted}
use Rattle.model.proofs.market.Others.{changes_cong}
use Rattle.allocation.specs.Assignment.{Assigned}
use Rattle.whatif.specs.Gains.{gain_from}
use Rattle.whatif.specs.Tried.{Triable, TriesAccepted}
use Rattle.whatif.proofs.LaidRow.{row_laid, row_room}
use Rattle.whatif.proofs.BothRounds.{stations_long, station_is, station_low, gain_is}

pub bids_few : {t : Tables} → WithinLimits t → length t.bids ≤ max_bids
bids_few {t} w = omega (
  arith,
  w.shape.bids_length,
  product_fits (length t.amounts) (length t.asks) w.shape.guests_most w.shape.stations_most,
)

module _ (asks bays amounts tickets bids : List ℕ) (w : WithinLimits (regular asks bays amounts tickets bids)) (i : ℕ)
    (worths row : List ℕ) {k : ℕ} (T : Triable (regular asks bays amounts tickets bids) i worths row k) where
  abbrev t : Tables
  t = regular asks bays amounts tickets bids

  abbrev n : ℕ
  n = length amounts

  pub room_for_row : i * length row + length row ≤ length bids
  room_for_row = row_room t i row w T.guest_below T.row_fits.row_length

  module _ {other : List ℕ} (laid : other ≡ paste bids (i * length row) row (length row)) where
    other_is : regular asks bays amounts tickets other ≡ with_row t i row
    other_is =
        ap (regular asks bays amounts tickets) (laid ∙ row_laid t i row w T.guest_below T.row_fits.row_length)

    pub other_within : WithinLimits (regular asks bays amounts tickets other)
    other_within =
        subst WithinLimits (sym other_is) ((accepted_iff_within_limits (with_row t i row)).0
        (with_row_accepted t i row ((accepted_iff_within_limits t).1 w) T.row_fits))

    module _ (rule : Rule) {stations charges stations2 charges2 : List ℕ}
        (r : Assigned (outcome rule t) stations charges
        × Assigned (outcome rule (regular asks bays amounts tickets other)) stations2 charges2) where
      with_other : Assigned (outcome rule (with_row t i row)) stations2 charges2
      with_other = subst (λ t. Assigned (outcome rule t) stations2 charges2) other_is r.1

      -- what the lists of gains are made from
      pub first_ready : get_or stations i 0 ≤ length worths
      first_ready = omega (arith, station_low rule t r.0 i T.guest_below, T.worths_fit.row_length)

      pub second_ready : get_or stations2 i 0 ≤ length worths
      second_ready =
          omega (arith, station_low rule (with_row t i row) with_other i T.guest_below, T.worths_fit.row_length)

      pub tries_accepted :
          (gains : Gains) {exit : List ℕ}
          → exit ≡ changes (length stations) (λ g. get_or stations g 0) (λ g. get_or stations2 g 0) i
          → gains.first ≡ gain_from worths (get_or stations i 0) (get_or amounts i 0) (get_or charges i 0)
          → gains.second ≡ gain_from worths (get_or stations2 i 0) (get_or amounts i 0) (get_or charges2 i 0)
          → TriesAccepted rule t i worths row gains exit
      unfolding changes_with
      tries_accepted gains told gained gained2 = record {
        first_is = gained ∙ gain_is rule t r.0 worths i T.guest_below;
        second_is = gained2 ∙ gain_is rule (with_row t i row) with_other worths i T.guest_below;
        left = told
            ∙ ap (λ m. changes m (λ g. get_or stations g 0) (λ g. get_or stations2 g 0) i)
            (stations_long rule t r.0)
            ∙ changes_cong n _ _ _ _ i (station_is rule t r.0) (station_is rule (with_row t i row) with_other);
      }
