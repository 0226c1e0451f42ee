-- Request 7: what the codes and the outcomes say, of tables and over calls of the exported `explain`.
-- Each statement is a type; its proof is a term of proofs/.
use Rattle.std.specs.Prelude.{ℕ, suc, ◌+◌, ◌*◌, ◌≤◌, ◌<◌, true, false, List, ◌↔◌, ◌≡◌, get_or, length}
use Rattle.model.specs.Counting.{greatest}
use Rattle.model.specs.Promises.{RepliesOut}
use Rattle.model.specs.Verdicts.{accepted, first_fault}
use Rattle.model.specs.market.Market.{Tables, bid_at, market, cut, opens, queue, provisional}
use Rattle.model.specs.market.Mechanism.{charge}
use Rattle.model.specs.market.Outcome.{Results, screened, decision}
use Rattle.model.specs.market.Faults.{Accepted, explaining_faults}
use Rattle.model.specs.market.Reasons.{codes, highest_code, OutcomeTable, outcome_lengths, guest_outcomes}
use Rattle.model.specs.market.Reasons.{Explanation}
use Rattle.model.specs.market.Rules.{rule_of}
use Rattle.model.specs.claims.Calls.{ClearedCall}
use Rattle.model.specs.claims.Meaning.{NamesRule}
use Rattle.model.specs.clauses.EntryPoints.{explaining}
use Rattle.model.specs.declared.rule.Rule.{Rule}

-- the facts, of guest i and station j: no bid, station not open, bid below the cut, outbid, place held
abbrev pub NoBid : Tables → (i j : ℕ) → Type 0
NoBid t i j = bid_at t i j ≡ 0

abbrev pub NotOpen : Rule → Tables → (j : ℕ) → Type 0
NotOpen rule t j = opens (market rule t) j ≡ false

abbrev pub BelowCut : Rule → Tables → (i j : ℕ) → Type 0
BelowCut rule t i j = bid_at t i j < cut (market rule t)

abbrev pub Outbid : Rule → Tables → (i j : ℕ) → Type 0
Outbid rule t i j =
    ((screened rule t).candidate i j ≡ true) × (provisional (queue (screened rule t) j) i ≡ false)

abbrev pub PlaceHeld : Rule → Tables → (i j : ℕ) → Type 0
PlaceHeld rule t i j = provisional (queue (screened rule t) j) i ≡ true

-- k is given exactly where its fact is true and no earlier one is. Who is a candidate has bid at least the cut at an
-- open station, so that 4 and 0 need no more than their own facts
pub record CodeTells (rule : Rule) (t : Tables) (i j k : ℕ) : Type 0 where
  pub no_bid : (k ≡ 1) ↔ NoBid t i j
  pub not_open : (k ≡ 2) ↔ ((NoBid t i j → ⊥) × NotOpen rule t j)
  pub below_cut : (k ≡ 3) ↔ ((NoBid t i j → ⊥) × (NotOpen rule t j → ⊥) × BelowCut rule t i j)
  pub outbid : (k ≡ 4) ↔ Outbid rule t i j
  pub place_held : (k ≡ 0) ↔ PlaceHeld rule t i j
  pub most : k ≤ 4

-- of every place of the code table
abbrev pub CodesTellFacts : Type 0
CodesTellFacts =
    (rule : Rule) (t : Tables) (i j : ℕ) → i < length t.amounts → j < length t.asks
    → CodeTells rule t i j (get_or (codes rule t) (i * length t.asks + j) 0)

-- guest i's outcome is a win exactly where it is assigned, with its station and charge, else a loss with its highest
-- code, which is 1 to 4
pub record OutcomeTells (rule : Rule) (t : Tables) (o : OutcomeTable) (i : ℕ) : Type 0 where
  pub won :
      (j : ℕ) → (decision rule t).assigned i ≡ suc j
      → (get_or o.stations i 0 ≡ suc j) × (get_or o.charges i 0 ≡ charge (screened rule t) (decision rule t) i j)
      × (get_or o.reasons i 0 ≡ 0)
  pub lost :
      (decision rule t).assigned i ≡ 0
      → (get_or o.stations i 0 ≡ 0) × (get_or o.charges i 0 ≡ 0) × (get_or o.reasons i 0 ≡ highest_code rule t i)
      × (1 ≤ get_or o.reasons i 0) × (get_or o.reasons i 0 ≤ 4)

abbrev pub OutcomesTellWinsAndLosses : Type 0
OutcomesTellWinsAndLosses =
    (rule : Rule) (t : Tables) → Accepted t → (i : ℕ) → i < length t.amounts
    → OutcomeTells rule t (guest_outcomes rule t) i

-- a call that explains is accepted exactly where its number names a rule, its market is accepted, the code table is n
-- times m long and each list of the outcome table n
pub record ExplainingWithinLimits (rule : ℕ) (t : Tables) (codes : ℕ) (outcomes : List ℕ) : Type 0 where
  pub rule_known : NamesRule rule
  pub market_accepted : Accepted t
  pub codes_long : codes ≡ length t.amounts * length t.asks
  pub outcomes_long : (k : ℕ) → k < length outcomes → get_or outcomes k 0 ≡ length t.amounts

abbrev pub ExplainingAcceptedIffWithinLimits : Type 0
ExplainingAcceptedIffWithinLimits =
    (rule : ℕ) (t : Tables) (codes : ℕ) (outcomes : List ℕ)
    → (first_fault (explaining_faults rule t codes outcomes) ≡ accepted tt)
    ↔ ExplainingWithinLimits rule t codes outcomes

-- ---- over calls of the exported `explain`

-- it answers 0 exactly within these limits, its outcome table in three lists
abbrev pub ExplainedIffWithinLimits : Type 0
ExplainedIffWithinLimits =
    (rule : ℕ) (t : Tables) (entry exit : Explanation) (number : ℕ) → RepliesOut (explaining rule t) entry number exit
    → (number ≡ 0) ↔ ExplainingWithinLimits rule t (length entry.codes) (outcome_lengths entry.outcomes)

-- a call that answered 0, whatever its tables held before
pub record ExplainedCall (rule : ℕ) (t : Tables) : Type 0 where
  pub entry : Explanation
  pub exit : Explanation
  pub call : RepliesOut (explaining rule t) entry 0 exit

-- there is one for every accepted market, under either rule
abbrev pub ExplainedCallExists : Type 0
ExplainedCallExists = (rule : ℕ) (t : Tables) → NamesRule rule → Accepted t → ExplainedCall rule t

-- the code at the place of guest i and station j
unfoldable pub code_in : Tables → Explanation → (i j : ℕ) → ℕ
code_in t e i j = get_or e.codes (i * length t.asks + j) 0

abbrev pub CodesTellFactsCalls : Type 0
CodesTellFactsCalls =
    (rule : ℕ) (t : Tables) (e : ExplainedCall rule t) (i j : ℕ) → i < length t.amounts → j < length t.asks
    → CodeTells (rule_of rule) t i j (code_in t e.exit i j)

abbrev pub OutcomesTellWinsAndLossesCalls : Type 0
OutcomesTellWinsAndLossesCalls =
    (rule : ℕ) (t : Tables) (e : ExplainedCall rule t) (i : ℕ) → i < length t.amounts
    → OutcomeTells (rule_of rule) t e.exit.outcomes i

-- beside a call of `clear` on the same tables under the same rule: the station and the charge are the clearing's; a win
-- exactly where it has a station, and where it has none a loss with the greatest code of the row
pub record TellsClearing (t : Tables) (e : Explanation) (r : Results) (i : ℕ) : Type 0 where
  pub station_is : get_or e.outcomes.stations i 0 ≡ get_or r.stations i 0
  pub charge_is : get_or e.outcomes.charges i 0 ≡ get_or r.charges i 0
  pub wins : (get_or e.outcomes.reasons i 0 ≡ 0) ↔ (1 ≤ get_or r.stations i 0)
  pub loses :
      get_or r.stations i 0 ≡ 0
      → (get_or e.outcomes.reasons i 0 ≡ greatest (length t.asks) (code_in t e i))
      × (1 ≤ get_or e.outcomes.reasons i 0) × (get_or e.outcomes.reasons i 0 ≤ 4)

abbrev pub ExplainTellsClear : Type 0
ExplainTellsClear =
    (rule : ℕ) (t : Tables) (e : ExplainedCall rule t) (k : ClearedCall rule t) (i : ℕ) → i < length t.amounts
    → TellsClearing t e.exit k.exit i
