-- Request 11: what another row would have done. Each statement is a type; its proof is a term of proofs/.
use Rattle.std.specs.Prelude.{ℕ, ◌-◌, ◌≤◌, ◌<◌, List, ◌↔◌, ◌≡◌, ℤ, get_or, length, ◌≤ℤ◌}
use Rattle.model.specs.Limits.{max_price}
use Rattle.model.specs.Counting.{◌=?◌}
use Rattle.model.specs.Promises.{KeepsOut}
use Rattle.model.specs.Verdicts.{accepted, first_fault}
use Rattle.model.specs.market.Market.{Tables, bid_at}
use Rattle.model.specs.market.Mechanism.{truthful}
use Rattle.model.specs.market.Faults.{Accepted}
use Rattle.model.specs.market.Gains.{guest_gain}
use Rattle.model.specs.market.Outcome.{Results}
use Rattle.model.specs.market.Rules.{position}
use Rattle.model.specs.market.Changes.{with_row, changes, changed, places_changed, trying_faults}
use Rattle.model.specs.claims.Truth.{screened_by, holds_by, AlikeButForGuest}
use Rattle.model.specs.claims.Calls.{ClearedCall, guest_gain_in}
use Rattle.model.specs.claims.Meaning.{NamesRule}
use Rattle.model.specs.claims.Reasons.{ExplainedCall, code_in}
use Rattle.model.specs.clauses.EntryPoints.{trying}
use Rattle.model.specs.declared.rule.Rule.{Rule}

-- a row, or a list of worths, that fits t: m long, each within the limit of bids
pub record RowFits (t : Tables) (row : List ℕ) : Type 0 where
  pub row_length : length row ≡ length t.asks
  pub row_most : (j : ℕ) → j < length row → get_or row j 0 ≤ max_price

-- a call that tries a row is accepted exactly where its number names a rule, its market is accepted, its guest is one
-- of the market's, both its lists fit and the lent one is n long
pub record TryingWithinLimits (rule : ℕ) (t : Tables) (guest : ℕ) (worths row : List ℕ) (changes : ℕ) : Type 0 where
  pub rule_known : NamesRule rule
  pub market_accepted : Accepted t
  pub guest_least : 1 ≤ guest
  pub guest_most : guest ≤ length t.amounts
  pub worths_fit : RowFits t worths
  pub row_fits : RowFits t row
  pub changes_long : changes ≡ length t.amounts

abbrev pub TryingAcceptedIffWithinLimits : Type 0
TryingAcceptedIffWithinLimits =
    (rule : ℕ) (t : Tables) (guest : ℕ) (worths row : List ℕ) (changes : ℕ)
    → (first_fault (trying_faults rule t guest worths row changes) ≡ accepted tt)
    ↔ TryingWithinLimits rule t guest worths row changes

-- how `with_row` reads: guest i's bids are those of the row, and no other is changed
pub record RowReplaced (t : Tables) (i : ℕ) (row : List ℕ) : Type 0 where
  pub replaced : (j : ℕ) → j < length t.asks → bid_at (with_row t i row) i j ≡ get_or row j 0
  pub alike : AlikeButForGuest t (with_row t i row) i

abbrev pub WithRowReplacesRow : Type 0
WithRowReplacesRow = (t : Tables) (i : ℕ) (row : List ℕ) → i < length t.amounts → RowReplaced t i row

-- the changed market is accepted
abbrev pub WithRowAccepted : Type 0
WithRowAccepted = (t : Tables) (i : ℕ) (row : List ℕ) → Accepted t → RowFits t row → Accepted (with_row t i row)

-- c tells guest k's change, where guest i's row is changed: 1 where k is another and becomes seated, 2 where k is
-- another and becomes unseated, else 0
pub record ChangeTells (before after : ℕ → ℕ) (i k c : ℕ) : Type 0 where
  pub seated : (c ≡ 1) ↔ ((k ≡ i → ⊥) × (before k ≡ 0) × (after k ≡ 0 → ⊥))
  pub unseated : (c ≡ 2) ↔ ((k ≡ i → ⊥) × (before k ≡ 0 → ⊥) × (after k ≡ 0))
  pub most : c ≤ 2

-- of every place of the list of changes
abbrev pub ChangesTellSeats : Type 0
ChangesTellSeats =
    (n : ℕ) (before after : ℕ → ℕ) (i k : ℕ) → k < n
    → ChangeTells before after i k (get_or (changes n before after i) k 0)

-- under a rule for the position of the cut: each guest's assignment, and guest i's gain by its worths
abbrev pub assigned_by : (rule : ℕ → ℕ) → Tables → ℕ → ℕ
assigned_by rule t = (truthful (screened_by rule t)).assigned

abbrev pub gain_by : (rule : ℕ → ℕ) → Tables → (i : ℕ) (worths : List ℕ) → ℤ
gain_by rule t i worths = guest_gain (screened_by rule t) (truthful (screened_by rule t)) (λ j. get_or worths j 0) i

-- the others who become seated or unseated are no more than the stations at which guest i's held place changed
abbrev pub FewOthersChangeBy : (rule : ℕ → ℕ) → Type 0
FewOthersChangeBy rule =
    (t : Tables) (i : ℕ) (row : List ℕ) → Accepted t → i < length t.amounts → let t' = with_row t i row in
    changed (changes (length t.amounts) (assigned_by rule t) (assigned_by rule t') i)
    ≤ places_changed (length t.asks) (holds_by rule t i) (holds_by rule t' i)

-- with the worths as the first row, the second gain is not the larger
abbrev pub SecondGainNotLargerBy : (rule : ℕ → ℕ) → Type 0
SecondGainNotLargerBy rule =
    (t : Tables) (i : ℕ) (worths row : List ℕ) → Accepted t → i < length t.amounts → RowFits t row
    → ((j : ℕ) → j < length t.asks → get_or worths j 0 ≡ bid_at t i j)
    → gain_by rule (with_row t i row) i worths ≤ℤ gain_by rule t i worths

-- at any position of the cut that depends on the number of stations alone, so under each rule
abbrev pub FewOthersChange : Type 0
FewOthersChange = (rule : ℕ → ℕ) → FewOthersChangeBy rule

abbrev pub FewOthersChangeUnder : Type 0
FewOthersChangeUnder = (rule : Rule) → FewOthersChangeBy (position rule)

abbrev pub SecondGainNotLarger : Type 0
SecondGainNotLarger = (rule : ℕ → ℕ) → SecondGainNotLargerBy rule

abbrev pub SecondGainNotLargerUnder : Type 0
SecondGainNotLargerUnder = (rule : Rule) → SecondGainNotLargerBy (position rule)

-- ---- over calls of the exported `try`, and of `clear` and `explain` on both markets

-- it answers 0 exactly within these limits
abbrev pub TriedIffWithinLimits : Type 0
TriedIffWithinLimits =
    (rule : ℕ) (t : Tables) (guest : ℕ) (worths row entry exit : List ℕ) (out out' : ℤ × ℤ) (number : ℕ)
    → KeepsOut (trying rule t guest worths row) entry out number exit out'
    → (number ≡ 0) ↔ TryingWithinLimits rule t guest worths row (length entry)

-- a call that answered 0, whatever its list and its out parameters held before
pub record TriedCall (rule : ℕ) (t : Tables) (guest : ℕ) (worths row : List ℕ) : Type 0 where
  pub entry : List ℕ
  pub out : ℤ × ℤ
  pub exit : List ℕ
  pub first_gain : ℤ
  pub second_gain : ℤ
  pub call : KeepsOut (trying rule t guest worths row) entry out 0 exit (first_gain, second_gain)

-- there is one for every guest of every accepted market, under either rule, with lists that fit
abbrev pub TriedCallExists : Type 0
TriedCallExists =
    (rule : ℕ) (t : Tables) (guest : ℕ) (worths row : List ℕ) → NamesRule rule → Accepted t → 1 ≤ guest
    → guest ≤ length t.amounts → RowFits t worths → RowFits t row → TriedCall rule t guest worths row

-- beside calls of `clear` on both markets: the gains are by the stations and charges that those left, and the list
-- tells whose station came or went
pub record TellsClearings (t : Tables) (i : ℕ) (worths row exit : List ℕ) (first_gain second_gain : ℤ)
    (r r' : Results) : Type 0 where
  pub first_is : first_gain ≡ guest_gain_in t r (λ j. get_or worths j 0) i
  pub second_is : second_gain ≡ guest_gain_in (with_row t i row) r' (λ j. get_or worths j 0) i
  pub list_long : length exit ≡ length t.amounts
  pub tells :
      (k : ℕ) → k < length t.amounts
      → ChangeTells (λ g. get_or r.stations g 0) (λ g. get_or r'.stations g 0) i k (get_or exit k 0)

abbrev pub TryTellsClearings : Type 0
TryTellsClearings =
    (rule : ℕ) (t : Tables) (guest : ℕ) (worths row : List ℕ) (c : TriedCall rule t guest worths row)
    (k : ClearedCall rule t) (k' : ClearedCall rule (with_row t (guest - 1) row))
    → TellsClearings t (guest - 1) worths row c.exit c.first_gain c.second_gain k.exit k'.exit

-- the market with the row is accepted, so that there are such calls
abbrev pub TriedMarketAccepted : Type 0
TriedMarketAccepted =
    (rule : ℕ) (t : Tables) (guest : ℕ) (worths row : List ℕ) → TriedCall rule t guest worths row
    → Accepted (with_row t (guest - 1) row)

-- code 0 is a place held: the others in the list are no more than the stations where that came or went for the guest
abbrev pub FewOthersChangeCalls : Type 0
FewOthersChangeCalls =
    (rule : ℕ) (t : Tables) (guest : ℕ) (worths row : List ℕ) (c : TriedCall rule t guest worths row)
    (e : ExplainedCall rule t) (e' : ExplainedCall rule (with_row t (guest - 1) row))
    → changed c.exit
    ≤ places_changed (length t.asks) (λ j. code_in t e.exit (guest - 1) j =? 0)
    (λ j. code_in (with_row t (guest - 1) row) e'.exit (guest - 1) j =? 0)

-- with the worths as the first row
abbrev pub SecondGainNotLargerCalls : Type 0
SecondGainNotLargerCalls =
    (rule : ℕ) (t : Tables) (guest : ℕ) (worths row : List ℕ) (c : TriedCall rule t guest worths row)
    → ((j : ℕ) → j < length t.asks → get_or worths j 0 ≡ bid_at t (guest - 1) j)
    → c.second_gain ≤ℤ c.first_gain
