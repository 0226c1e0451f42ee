-- Request 4: how the efficient mechanism reads on document 02's page, and what holds of it.
-- Each statement is a type; its proof is a term of proofs/.
use Rattle.std.specs.Prelude.{ℕ, suc, ◌≤◌, ◌<◌, Bool, true, false, not, ◌↔◌, ◌≡◌, get_or, length, take}
use Rattle.model.specs.Counting.{◌=?◌, ◌and◌}
use Rattle.model.specs.market.Market.{Tables, Screened}
use Rattle.model.specs.market.Mechanism.{Decision}
use Rattle.model.specs.market.Stable.{Stable, turned_away_at}
use Rattle.model.specs.market.Efficient.{Candidacy, candidacy, candidacies, bay_left, take_all, nobody, efficient}
use Rattle.model.specs.market.Outcome.{outcome_by, screened, decision, efficient_decision, efficient_outcome}
use Rattle.model.specs.market.Faults.{Accepted}
use Rattle.model.specs.market.Rules.{position}
use Rattle.model.specs.declared.rule.Rule.{Rule}
use Rattle.model.specs.claims.Truth.{GuestTruthfulBy, StationTruthfulBy, ClearsWithin}

-- the p-th candidacy, from 0
abbrev pub nth : Screened → ℕ → Candidacy
nth S p = get_or (candidacies S) p (candidacy 0 0)

-- 'All candidacies of all stations stand by falling total, then lower ticket, then lower station.' Each of them, once,
-- and no other
pub record InOrder (S : Screened) : Type 0 where
  pub totals_fall :
      (p q : ℕ) → p < q → q < length (candidacies S)
      → S.total (nth S q).guest (nth S q).station ≤ S.total (nth S p).guest (nth S p).station
  pub tickets_rise :
      (p q : ℕ) → p < q → q < length (candidacies S)
      → S.total (nth S q).guest (nth S q).station ≡ S.total (nth S p).guest (nth S p).station
      → S.key (nth S p).guest ≤ S.key (nth S q).guest
  pub stations_rise :
      (p q : ℕ) → p < q → q < length (candidacies S)
      → S.total (nth S q).guest (nth S q).station ≡ S.total (nth S p).guest (nth S p).station
      → S.key (nth S p).guest ≡ S.key (nth S q).guest → (nth S p).station < (nth S q).station
  pub once : (p q : ℕ) → p < length (candidacies S) → q < length (candidacies S) → nth S p ≡ nth S q → p ≡ q
  pub all :
      (i j : ℕ) → i < S.guest_count → j < S.station_count → S.candidate i j ≡ true
      → (p : ℕ) × (p < length (candidacies S)) × (nth S p ≡ candidacy i j)
  pub no_other :
      (p : ℕ) → p < length (candidacies S)
      → ((nth S p).guest < S.guest_count) × ((nth S p).station < S.station_count)
      × (S.candidate (nth S p).guest (nth S p).station ≡ true)

abbrev pub CandidaciesInOrder : Type 0
CandidaciesInOrder = (rule : Rule) (t : Tables) → Accepted t → InOrder (screened rule t)

-- what is decided when the p-th candidacy is taken: it finds a bay; it isn't skipped and finds its station full
abbrev pub decided_before : Screened → ℕ → Decision
decided_before S p = take_all S nobody (take p (candidacies S))

unfoldable pub finds_bay : Screened → ℕ → Bool
finds_bay S p = bay_left S (decided_before S p) (nth S p).station

unfoldable pub finds_full : Screened → ℕ → Bool
finds_full S p = (decided_before S p).assigned (nth S p).guest =? 0 and not (finds_bay S p)

-- p is the first place of a kind, below n, that passes; no place of that kind does
pub record First (n : ℕ) (kind : ℕ → Type 0) (test : ℕ → Bool) (p : ℕ) : Type 0 where
  pub below : p < n
  pub of_kind : kind p
  pub passes : test p ≡ true
  pub none_before : (q : ℕ) → q < p → kind q → test q ≡ false

abbrev pub None : (n : ℕ) (kind : ℕ → Type 0) (test : ℕ → Bool) → Type 0
None n kind test = (p : ℕ) → p < n → kind p → test p ≡ false

-- 'If the station has a bay left, the guest is seated there.' 'A seated guest's later ones are skipped.' A guest is
-- assigned at the first of its candidacies that finds a bay, and nowhere exactly where none does
abbrev pub OfGuest : Screened → (i p : ℕ) → Type 0
OfGuest S i p = (nth S p).guest ≡ i

abbrev pub AssignedAtFirstBay : Type 0
AssignedAtFirstBay =
    (rule : Rule) (t : Tables) (i j : ℕ) → let S = screened rule t in
    ((efficient_decision rule t).assigned i ≡ suc j)
    ↔ ((p : ℕ) × First (length (candidacies S)) (OfGuest S i) (finds_bay S) p × ((nth S p).station ≡ j))

abbrev pub UnassignedWithoutBay : Type 0
UnassignedWithoutBay =
    (rule : Rule) (t : Tables) (i : ℕ) → let S = screened rule t in
    ((efficient_decision rule t).assigned i ≡ 0) ↔ None (length (candidacies S)) (OfGuest S i) (finds_bay S)

-- 'If it is full, the first such unseated guest's total becomes its floor.' A station's critical total is that of the
-- first of its candidacies that finds it full, 0 where none does
abbrev pub OfStation : Screened → (j p : ℕ) → Type 0
OfStation S j p = (nth S p).station ≡ j

pub record CriticalIsFirstFull (S : Screened) (j : ℕ) : Type 0 where
  pub total_of_first :
      (p : ℕ) → First (length (candidacies S)) (OfStation S j) (finds_full S) p
      → (efficient S).critical j ≡ S.total (nth S p).guest j
  pub zero_if_none : None (length (candidacies S)) (OfStation S j) (finds_full S) → (efficient S).critical j ≡ 0

abbrev pub CriticalIsTotalOfFirstFull : Type 0
CriticalIsTotalOfFirstFull = (rule : Rule) (t : Tables) → Accepted t → (j : ℕ) → CriticalIsFirstFull (screened rule t) j

-- the assignment is stable in that order, each critical total the greatest that was turned away
abbrev pub EfficientIsStable : Type 0
EfficientIsStable =
    (rule : Rule) (t : Tables) → Accepted t
    → Stable (screened rule t) (efficient_decision rule t).assigned
    × ((j : ℕ) → j < length t.asks
    → (efficient_decision rule t).critical j ≡ turned_away_at (screened rule t) (efficient_decision rule t).assigned j)

-- and no other is
abbrev pub StableDetermines : Type 0
StableDetermines =
    (rule : Rule) (t : Tables) → Accepted t → (a : ℕ → ℕ) → Stable (screened rule t) a
    → ((i : ℕ) → i < length t.amounts → a i ≡ (efficient_decision rule t).assigned i)
    × ((j : ℕ) → j < length t.asks → turned_away_at (screened rule t) a j ≡ (efficient_decision rule t).critical j)

-- so its outcome is that of any assignment that is stable, with the greatest totals that it turns away
abbrev pub decided_by : Screened → (assigned : ℕ → ℕ) → Decision
decided_by S a = record { assigned = a; critical = turned_away_at S a }

abbrev pub StableOutcome : Type 0
StableOutcome =
    (rule : Rule) (t : Tables) → Accepted t → (a : ℕ → ℕ) → Stable (screened rule t) a
    → outcome_by (screened rule t) (decided_by (screened rule t) a) ≡ efficient_outcome rule t

-- 'On quiet days firms prefer more seats': whoever document 01's mechanism assigns is assigned here too
abbrev pub EfficientAssignsNoFewer : Type 0
EfficientAssignsNoFewer =
    (rule : Rule) (t : Tables) → Accepted t → (i : ℕ) → i < length t.amounts
    → (efficient_decision rule t).assigned i ≡ 0
    → (decision rule t).assigned i ≡ 0

-- 'Here bidders lose the guarantee that truth pays best; stations keep it, as do the limits on charges, payments and
-- bays.'
abbrev pub EfficientNotGuestTruthful : Type 0
EfficientNotGuestTruthful = (rule : Rule) → GuestTruthfulBy efficient (position rule) → ⊥

abbrev pub EfficientStationTruthful : Type 0
EfficientStationTruthful = (rule : ℕ → ℕ) → StationTruthfulBy efficient rule

-- so under each rule, both markets under the same (document 02, request 6)
abbrev pub EfficientStationTruthfulUnder : Type 0
EfficientStationTruthfulUnder = (rule : Rule) → StationTruthfulBy efficient (position rule)

abbrev pub EfficientLimits : Type 0
EfficientLimits = (rule : Rule) (t : Tables) → Accepted t → ClearsWithin rule t (efficient_decision rule t)
