-- A gain, as the code has what it is made from.
use Rattle.std.specs.Prelude.{ℕ, ◌*◌, List, ℤ, get_or}
use Rattle.std.proofs.Math.IntN.{sub_ℕ}
use Rattle.model.specs.market.Mechanism.{at}

-- of a guest with this amount, by its station's number, 0 for none, and its charge
unfoldable pub gain_from : (worths : List ℕ) (station amount charge : ℕ) → ℤ
gain_from worths station amount charge = sub_ℕ (at (λ j. get_or worths j 0 * amount) station) charge
