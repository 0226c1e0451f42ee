-- Request 13: what places, floors and the mark say. Each statement is a type; its proof is a term of proofs/.
use Rattle.std.specs.Prelude.{ℕ, suc, ◌+◌, ◌*◌, ◌≤◌, ◌<◌, max, true, false, ◌↔◌, ◌≡◌, get_or, length}
use Rattle.model.specs.Limits.{max_price, max_amount}
use Rattle.model.specs.Promises.{KeepsOut}
use Rattle.model.specs.Verdicts.{accepted, first_fault}
use Rattle.model.specs.market.Market.{Tables, market, opens, queue, critical}
use Rattle.model.specs.market.Outcome.{screened, outcome}
use Rattle.model.specs.market.Faults.{Accepted}
use Rattle.model.specs.market.Reasons.{codes}
use Rattle.model.specs.market.Rules.{position, rule_of}
use Rattle.model.specs.market.Marking.{FullResults, Submission, submission, place_table, floors_of, round_of}
use Rattle.model.specs.market.Marking.{correct, marking_faults}
use Rattle.model.specs.clauses.EntryPoints.{clearing_fully, marking}
use Rattle.model.specs.claims.Calls.{ClearedCall}
use Rattle.model.specs.claims.Gates.{JoinedCall, market_of}
use Rattle.model.specs.claims.Meaning.{NamesRule, RightLengths}
use Rattle.model.specs.claims.Reasons.{PlaceHeld, ExplainedCall, code_in}
use Rattle.model.specs.claims.Truth.{HoldsPlace, charge_at}
use Rattle.model.specs.declared.rule.Rule.{Rule}

-- ---- the mark

-- the eight that are handed in are those of the truthful round under the rule
pub record EqualsRound (rule : Rule) (t : Tables) (s : Submission) : Type 0 where
  pub stations_are : s.lists.results.stations ≡ (outcome rule t).results.stations
  pub charges_are : s.lists.results.charges ≡ (outcome rule t).results.charges
  pub sold_are : s.lists.results.sold ≡ (outcome rule t).results.sold
  pub paid_are : s.lists.results.paid ≡ (outcome rule t).results.paid
  pub places_are : s.lists.places ≡ place_table (screened rule t)
  pub floors_are : s.lists.floors ≡ floors_of (screened rule t)
  pub cut_is : s.cut ≡ (outcome rule t).cut
  pub margin_is : s.margin ≡ (outcome rule t).margin

-- the answer is yes exactly there
abbrev pub CorrectIffEqual : Type 0
CorrectIffEqual = (rule : Rule) (t : Tables) (s : Submission) → (correct rule t s ≡ true) ↔ EqualsRound rule t s

-- so of what the round itself hands in, and of nothing else
abbrev pub CorrectIffRound : Type 0
CorrectIffRound = (rule : Rule) (t : Tables) (s : Submission) → (correct rule t s ≡ true) ↔ (s ≡ round_of rule t)

-- another value than 0 or 1 among the places earns a no
abbrev pub OtherPlaceIsWrong : Type 0
OtherPlaceIsWrong =
    (rule : Rule) (t : Tables) (s : Submission) (k : ℕ) → 1 < get_or s.lists.places k 0 → correct rule t s ≡ false

-- ---- places, floors, and the charge of whoever is seated

-- of guest i and station j: the place is 1 exactly where it is held, which is where the code is 0, and else 0
pub record PlaceReads (rule : Rule) (t : Tables) (i j : ℕ) : Type 0 where
  pub held : (get_or (place_table (screened rule t)) (i * length t.asks + j) 0 ≡ 1) ↔ PlaceHeld rule t i j
  pub by_code :
      (get_or (place_table (screened rule t)) (i * length t.asks + j) 0 ≡ 1)
      ↔ (get_or (codes rule t) (i * length t.asks + j) 0 ≡ 0)
  pub most : get_or (place_table (screened rule t)) (i * length t.asks + j) 0 ≤ 1

abbrev pub PlacesRead : Type 0
PlacesRead =
    (rule : Rule) (t : Tables) (i j : ℕ) → i < length t.amounts → j < length t.asks → PlaceReads rule t i j

-- of station j: its critical total, 0 where it is not open, within 32 bits
pub record FloorReads (rule : Rule) (t : Tables) (j : ℕ) : Type 0 where
  pub is_critical : get_or (floors_of (screened rule t)) j 0 ≡ critical (queue (screened rule t) j)
  pub closed : opens (market rule t) j ≡ false → get_or (floors_of (screened rule t)) j 0 ≡ 0
  pub most : Accepted t → get_or (floors_of (screened rule t)) j 0 ≤ max_price * max_amount

abbrev pub FloorsRead : Type 0
FloorsRead = (rule : Rule) (t : Tables) (j : ℕ) → j < length t.asks → FloorReads rule t j

-- the charge at station j, by what is handed in: the larger of cut times amount and the station's floor
unfoldable pub charge_in : Tables → Submission → (i j : ℕ) → ℕ
charge_in t s i j = max (s.cut * get_or t.amounts i 0) (get_or s.lists.floors j 0)

-- whoever is seated is charged that, in what is marked yes
abbrev pub CorrectCharges : Type 0
CorrectCharges =
    (rule : Rule) (t : Tables) (s : Submission) → correct rule t s ≡ true → (i j : ℕ) → i < length t.amounts
    → get_or s.lists.results.stations i 0 ≡ suc j → get_or s.lists.results.charges i 0 ≡ charge_in t s i j

-- ---- acceptance

-- a call that gives a clearing or marks one is accepted exactly where its number names a rule, its market is accepted
-- and each of the six lists is as long as it has to be
pub record MarkingWithinLimits (rule : ℕ) (t : Tables) (f : FullResults) : Type 0 where
  pub rule_known : NamesRule rule
  pub market_accepted : Accepted t
  pub lists_fit : RightLengths t f.results
  pub places_long : length f.places ≡ length t.amounts * length t.asks
  pub floors_long : length f.floors ≡ length t.asks

abbrev pub MarkingAcceptedIffWithinLimits : Type 0
MarkingAcceptedIffWithinLimits =
    (rule : ℕ) (t : Tables) (f : FullResults)
    → (first_fault (marking_faults rule t f) ≡ accepted tt) ↔ MarkingWithinLimits rule t f

-- ---- over calls of the exported `clear_marked` and `mark`

-- a call of `clear_marked` that answered 0, whatever its lists and out parameters held before
pub record FullyCleared (rule : ℕ) (t : Tables) : Type 0 where
  pub entry : FullResults
  pub out : ℕ × ℕ
  pub exit : FullResults
  pub cut : ℕ
  pub margin : ℕ
  pub call : KeepsOut (clearing_fully rule t) entry out 0 exit (cut, margin)

-- what it gives, as it can be handed in
abbrev pub given : {rule : ℕ} {t : Tables} → FullyCleared rule t → Submission
given k = submission k.exit k.cut k.margin

-- a call of `mark` that answered 0
pub record MarkedCall (rule : ℕ) (t : Tables) (s : Submission) : Type 0 where
  pub out : ℕ
  pub correct : ℕ
  pub call : KeepsOut (marking rule t s) tt out 0 tt correct

-- there are such calls for every accepted market under either rule, with lists as long as they have to be
abbrev pub FullyClearedExists : Type 0
FullyClearedExists = (rule : ℕ) (t : Tables) → NamesRule rule → Accepted t → FullyCleared rule t

abbrev pub MarkedCallExists : Type 0
MarkedCallExists =
    (rule : ℕ) (t : Tables) (s : Submission) → MarkingWithinLimits rule t s.lists → MarkedCall rule t s

-- they answer 0 exactly within these limits
abbrev pub FullyClearedIffWithinLimits : Type 0
FullyClearedIffWithinLimits =
    (rule : ℕ) (t : Tables) (entry exit : FullResults) (out out' : ℕ × ℕ) (number : ℕ)
    → KeepsOut (clearing_fully rule t) entry out number exit out' → (number ≡ 0) ↔ MarkingWithinLimits rule t entry

abbrev pub MarkedIffWithinLimits : Type 0
MarkedIffWithinLimits =
    (rule : ℕ) (t : Tables) (s : Submission) (out out' number : ℕ)
    → KeepsOut (marking rule t s) tt out number tt out' → (number ≡ 0) ↔ MarkingWithinLimits rule t s.lists

-- the mark is 1 exactly where `clear_marked` on the same tables under the same rule gives what is handed in, else 0
pub record MarksGiven (rule : ℕ) (t : Tables) (s : Submission) (k : FullyCleared rule t)
    (c : MarkedCall rule t s) : Type 0 where
  pub yes : (c.correct ≡ 1) ↔ (s ≡ given k)
  pub no : (c.correct ≡ 0) ↔ (s ≡ given k → ⊥)

abbrev pub MarkedIffGiven : Type 0
MarkedIffGiven =
    (rule : ℕ) (t : Tables) (s : Submission) (k : FullyCleared rule t) (c : MarkedCall rule t s)
    → MarksGiven rule t s k c

-- whatever `clear_marked` gives is passed, and not refused
abbrev pub GivenIsPassed : Type 0
GivenIsPassed =
    (rule : ℕ) (t : Tables) (k : FullyCleared rule t) (out out' number : ℕ)
    → KeepsOut (marking rule t (given k)) tt out number tt out' → (number ≡ 0) × (out' ≡ 1)

-- the place of guest i and station j
unfoldable pub place_in : Tables → FullResults → (i j : ℕ) → ℕ
place_in t f i j = get_or f.places (i * length t.asks + j) 0

-- what a call shows of guest i and station j: 1 is a place held, and the charge there is by cut and floor, whether the
-- guest is seated there or not; whoever is seated there is charged that
pub record FullyShows (rule : ℕ) (t : Tables) (k : FullyCleared rule t) (i j : ℕ) : Type 0 where
  pub place_shown : (place_in t k.exit i j ≡ 1) ↔ HoldsPlace (position (rule_of rule)) t i j
  pub charge_shown : charge_in t (given k) i j ≡ charge_at (position (rule_of rule)) t i j
  pub seated_charge :
      get_or k.exit.results.stations i 0 ≡ suc j
      → get_or k.exit.results.charges i 0 ≡ charge_in t (given k) i j

abbrev pub FullyClearedShows : Type 0
FullyClearedShows =
    (rule : ℕ) (t : Tables) (k : FullyCleared rule t) (i j : ℕ) → i < length t.amounts → j < length t.asks
    → FullyShows rule t k i j

-- beside a call of `clear` on the same tables: the same results, cut and margin
pub record AgreesWithClear (rule : ℕ) (t : Tables) (k : FullyCleared rule t) (c : ClearedCall rule t) : Type 0 where
  pub results_same : k.exit.results ≡ c.exit
  pub cut_same : k.cut ≡ c.cut
  pub margin_same : k.margin ≡ c.margin

abbrev pub FullyClearedAsClear : Type 0
FullyClearedAsClear =
    (rule : ℕ) (t : Tables) (k : FullyCleared rule t) (c : ClearedCall rule t) → AgreesWithClear rule t k c

-- beside a call of `explain`: a place is 1 exactly where the code is 0
abbrev pub PlacesAsCodes : Type 0
PlacesAsCodes =
    (rule : ℕ) (t : Tables) (k : FullyCleared rule t) (e : ExplainedCall rule t) (i j : ℕ) → i < length t.amounts
    → j < length t.asks → (place_in t k.exit i j ≡ 1) ↔ (code_in t e.exit i j ≡ 0)

-- ---- request 9 over calls of `join`, and of `clear_marked` on all three markets

-- whoever holds a place in the joined market held it in its own gate's, and its charge at that station is no lower
pub record FullyShownAlready (own both : Tables) (i k j : ℕ) (s s' : Submission) : Type 0 where
  pub held : place_in both s'.lists k j ≡ 1 → place_in own s.lists i j ≡ 1
  pub charge_no_lower : charge_in own s i j ≤ charge_in both s' k j

pub record JoiningFullyGives (t u b : Tables) (j : ℕ) (s s' s'' : Submission) : Type 0 where
  pub first_gate : (i : ℕ) → i < length t.amounts → FullyShownAlready t b i i j s s''
  pub second_gate : (i : ℕ) → i < length u.amounts → FullyShownAlready u b i (length t.amounts + i) j s' s''

abbrev pub JoiningRaisesCharges : Type 0
JoiningRaisesCharges =
    (rule : ℕ) (t u : Tables) (c : JoinedCall t u) (k : FullyCleared rule t) (k' : FullyCleared rule u)
    (k'' : FullyCleared rule (market_of c.exit)) (j : ℕ) → j < length t.asks
    → JoiningFullyGives t u (market_of c.exit) j (given k) (given k') (given k'')
