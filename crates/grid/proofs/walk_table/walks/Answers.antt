use Prim.Native.Nat.{ℕ, ◌+◌, ◌*◌}
use mathlib.Core.Bool.{Bool, true}
use mathlib.Core.List.{List}
use mathlib.Core.Path.{◌≡◌, refl, sym}
use native.Mathlib.Omega.{arith}
use lib.ListN.{length}
use Rattle.model.specs.Limits.{max_squared_distance}
use Rattle.model.specs.Counting.{◌<?◌, ◌≤?◌, ◌and◌, list}
use Rattle.model.specs.places.Bids.{walk}
use Rattle.model.proofs.Tests.{first, second, le_yes, lt_yes}
use Rattle.model.proofs.Loops.{is_list}
use Rattle.model.proofs.places.Walks.{walk_is}
use Rattle.grid.proofs.TableRule.{every, at_each}
use Rattle.grid.proofs.walk_table.walks.Goals as goal

-- The rule is tested once over the whole table, and carried to each entry.
-- d is the walk for q
right : ℕ → ℕ → Bool
right q d = d * d ≤? 100 * q and 100 * q <? (d + 1) * (d + 1)

is_walk : (q d : ℕ) → right q d ≡ true → d ≡ walk q
unfolding right
is_walk q d e = sym (walk_is q d (le_yes _ _ (first _ _ e)) (lt_yes _ _ (second _ _ e)))

are_walks :
    (table : List ℕ) → length table ≡ max_squared_distance + 1 → every right 0 table ≡ true
    → table ≡ list (max_squared_distance + 1) walk
are_walks table long e =
    is_list (max_squared_distance + 1) walk table long (λ q l. is_walk q _ (at_each right table e q (omega arith)))

pub returns : goal.returns
unfolding every right ◌and◌ ◌≤?◌ ◌<?◌
returns c = are_walks _ refl refl
