-- A byte, sorted.
use Rattle.std.specs.Prelude.{◌≡◌, ℕ, ◌-◌, true, false}
use Rattle.model.specs.Counting.{◌=?◌}
use Rattle.model.specs.csv.Places.{comma, cr, lf, is_digit}
use Rattle.market_csv.specs.declared.bytes.Kind.{Kind}
use Rattle.market_csv.specs.declared.bytes.Kind.TheVariants.{Digit, Comma, Cr, Lf, Other}

-- neither digit, comma, CR nor LF
pub record Stray (b : ℕ) : Type 0 where
  pub no_digit : is_digit b ≡ false
  pub no_comma : b =? comma ≡ false
  pub no_cr : b =? cr ≡ false
  pub no_lf : b =? lf ≡ false

unfoldable pub Sorted : ℕ → Kind → Type 0
Sorted b (Digit d) = (is_digit b ≡ true) × (d ≡ b - 48)
Sorted b Comma = b ≡ comma
Sorted b Cr = b ≡ cr
Sorted b Lf = b ≡ lf
Sorted b Other = Stray b
