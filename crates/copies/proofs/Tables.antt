-- Five tables are those where each list is.
use Prim.Native.Nat.{ℕ}
use mathlib.Core.List.{List}
use mathlib.Core.Path.{◌≡◌}
use Rattle.model.specs.sheet.Lent.{lent_tables}

pub tables_are :
    {amounts amounts' tickets tickets' asks asks' bays bays' bids bids' : List ℕ} → amounts ≡ amounts'
    → tickets ≡ tickets' → asks ≡ asks' → bays ≡ bays' → bids ≡ bids'
    → lent_tables amounts tickets asks bays bids ≡ lent_tables amounts' tickets' asks' bays' bids'
tables_are a k s b d = λ x. record { amounts = a x; tickets = k x; asks = s x; bays = b x; bids = d x }
