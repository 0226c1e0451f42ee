-- Request 9: two gates, one market. Each statement is a type; its proof is a term of proofs/.
use Rattle.std.specs.Prelude.{ℕ, suc, ◌+◌, ◌*◌, ◌≤◌, ◌<◌, ◌↔◌, ◌≡◌, get_or, length}
use Rattle.model.specs.Promises.{RepliesOut}
use Rattle.model.specs.Verdicts.{accepted, first_fault}
use Rattle.model.specs.market.Market.{Tables, regular, bid_at}
use Rattle.model.specs.market.Faults.{Accepted}
use Rattle.model.specs.market.Rules.{position}
use Rattle.model.specs.market.Gates.{together, Joinable, joining_faults}
use Rattle.model.specs.market.Reasons.{Explanation}
use Rattle.model.specs.sheet.Lent.{LentTables}
use Rattle.model.specs.clauses.EntryPoints.{joining}
use Rattle.model.specs.claims.Truth.{HoldsPlace, charge_at}
use Rattle.model.specs.claims.Reasons.{ExplainedCall, code_in}
use Rattle.model.specs.declared.rule.Rule.{Rule}

-- a call that joins is accepted exactly where both markets are, they may be joined and each lent table fits the joined
-- counts
pub record JoiningWithinLimits (t u : Tables) (l : LentTables) : Type 0 where
  pub first_accepted : Accepted t
  pub second_accepted : Accepted u
  pub joinable : Joinable t u
  pub amounts_long : length l.amounts ≡ length t.amounts + length u.amounts
  pub tickets_long : length l.tickets ≡ length t.amounts + length u.amounts
  pub asks_long : length l.asks ≡ length t.asks
  pub bays_long : length l.bays ≡ length t.asks
  pub bids_long : length l.bids ≡ (length t.amounts + length u.amounts) * length t.asks

abbrev pub JoiningAcceptedIffWithinLimits : Type 0
JoiningAcceptedIffWithinLimits =
    (t u : Tables) (l : LentTables) → (first_fault (joining_faults t u l) ≡ accepted tt) ↔ JoiningWithinLimits t u l

-- the joined market is accepted
abbrev pub TogetherAccepted : Type 0
TogetherAccepted = (t u : Tables) → Accepted t → Accepted u → Joinable t u → Accepted (together t u)

-- guest k of the joined market is guest i of its own gate's: the same amount, ticket and bids
pub record SameGuest (own both : Tables) (i k : ℕ) : Type 0 where
  pub same_amount : get_or both.amounts k 0 ≡ get_or own.amounts i 0
  pub same_ticket : get_or both.tickets k 0 ≡ get_or own.tickets i 0
  pub same_bids : (j : ℕ) → j < length own.asks → bid_at both k j ≡ bid_at own i j

-- how `together` reads: it has the guests of both and no other, the first gate's in front
pub record GuestsOfBoth (t u : Tables) : Type 0 where
  pub guests : length (together t u).amounts ≡ length t.amounts + length u.amounts
  pub first_gate : (i : ℕ) → i < length t.amounts → SameGuest t (together t u) i i
  pub second_gate : (i : ℕ) → i < length u.amounts → SameGuest u (together t u) i (length t.amounts + i)

abbrev pub TogetherHasGuestsOfBoth : Type 0
TogetherHasGuestsOfBoth = (t u : Tables) → Accepted t → Accepted u → Joinable t u → GuestsOfBoth t u

-- whoever holds a place at station j in the joined market held it in its own gate's, and its charge there in the joined
-- market is no lower
pub record HeldAlready (rule : ℕ → ℕ) (own both : Tables) (i k j : ℕ) : Type 0 where
  pub held : HoldsPlace rule both k j → HoldsPlace rule own i j
  pub charge_no_lower : charge_at rule own i j ≤ charge_at rule both k j

pub record JoiningGives (rule : ℕ → ℕ) (t u : Tables) (j : ℕ) : Type 0 where
  pub first_gate : (i : ℕ) → i < length t.amounts → HeldAlready rule t (together t u) i i j
  pub second_gate :
      (i : ℕ) → i < length u.amounts → HeldAlready rule u (together t u) i (length t.amounts + i) j

abbrev pub JoiningGivesNoPlaceBy : (rule : ℕ → ℕ) → Type 0
JoiningGivesNoPlaceBy rule =
    (t u : Tables) → Accepted t → Accepted u → Joinable t u → (j : ℕ) → j < length t.asks → JoiningGives rule t u j

-- at any position of the cut that depends on the number of stations alone, so under each rule
abbrev pub JoiningGivesNoPlace : Type 0
JoiningGivesNoPlace = (rule : ℕ → ℕ) → JoiningGivesNoPlaceBy rule

abbrev pub JoiningGivesNoPlaceUnder : Type 0
JoiningGivesNoPlaceUnder = (rule : Rule) → JoiningGivesNoPlaceBy (position rule)

-- ---- over calls of the exported `join` and of `explain`

-- it answers 0 exactly within these limits
abbrev pub JoinedIffWithinLimits : Type 0
JoinedIffWithinLimits =
    (t u : Tables) (entry exit : LentTables) (number : ℕ) → RepliesOut (joining t u) entry number exit
    → (number ≡ 0) ↔ JoiningWithinLimits t u entry

-- the market in lent tables
abbrev pub market_of : LentTables → Tables
market_of l = regular l.asks l.bays l.amounts l.tickets l.bids

-- a call that answered 0, whatever its tables held before
pub record JoinedCall (t u : Tables) : Type 0 where
  pub entry : LentTables
  pub exit : LentTables
  pub call : RepliesOut (joining t u) entry 0 exit

-- there is one for any two accepted markets that may be joined
abbrev pub JoinedCallExists : Type 0
JoinedCallExists = (t u : Tables) → Accepted t → Accepted u → Joinable t u → JoinedCall t u

-- it leaves the joined market, which is accepted as both are
pub record Joined (t u b : Tables) : Type 0 where
  pub is : b ≡ together t u
  pub first_accepted : Accepted t
  pub second_accepted : Accepted u
  pub joinable : Joinable t u
  pub accepted_too : Accepted b

abbrev pub JoinedCallLeavesTogether : Type 0
JoinedCallLeavesTogether = (t u : Tables) (c : JoinedCall t u) → Joined t u (market_of c.exit)

-- as calls on its own gate's market and on the joined one show it: code 0 is a place held, and a charge is shown where
-- the guest is assigned
pub record ShownAlready (own both : Tables) (i k j : ℕ) (e e' : Explanation) : Type 0 where
  pub held : code_in both e' k j ≡ 0 → code_in own e i j ≡ 0
  pub charge_no_lower :
      get_or e.outcomes.stations i 0 ≡ suc j → get_or e'.outcomes.stations k 0 ≡ suc j
      → get_or e.outcomes.charges i 0 ≤ get_or e'.outcomes.charges k 0

pub record JoiningGivesInCalls (t u b : Tables) (j : ℕ) (e e' e'' : Explanation) : Type 0 where
  pub first_gate : (i : ℕ) → i < length t.amounts → ShownAlready t b i i j e e''
  pub second_gate : (i : ℕ) → i < length u.amounts → ShownAlready u b i (length t.amounts + i) j e' e''

abbrev pub JoiningGivesNoPlaceCalls : Type 0
JoiningGivesNoPlaceCalls =
    (rule : ℕ) (t u : Tables) (c : JoinedCall t u) (e : ExplainedCall rule t) (e' : ExplainedCall rule u)
    (e'' : ExplainedCall rule (market_of c.exit)) (j : ℕ) → j < length t.asks
    → JoiningGivesInCalls t u (market_of c.exit) j e.exit e'.exit e''.exit
