-- The text of a clearing and of a refusal. Document 01, end of 'Cases'. A text is a list of bytes.
use Rattle.std.specs.Prelude.{ℕ, List, [], ◌∷◌, ◌++◌, length}
use Rattle.model.specs.market.Outcome.{Outcome}
use Rattle.model.specs.text.Decimal.{field}
use Rattle.model.specs.text.Lines.{line_end, guest_lines, station_lines}

-- 'cut ', 'margin ', 'refused '
abbrev pub cut_word : List ℕ
cut_word = 99 ∷ 117 ∷ 116 ∷ 32 ∷ []

abbrev pub margin_word : List ℕ
margin_word = 109 ∷ 97 ∷ 114 ∷ 103 ∷ 105 ∷ 110 ∷ 32 ∷ []

abbrev pub refused_word : List ℕ
refused_word = 114 ∷ 101 ∷ 102 ∷ 117 ∷ 115 ∷ 101 ∷ 100 ∷ 32 ∷ []

-- first the cut, then guests, then stations, then the margin
unfoldable pub text : Outcome → List ℕ
text o = field cut_word o.cut ++ line_end
    ++ guest_lines o.results.stations o.results.charges (length o.results.stations)
    ++ station_lines o.results.sold o.results.paid (length o.results.sold)
    ++ field margin_word o.margin ++ line_end

unfoldable pub refusal_text : (number : ℕ) → List ℕ
refusal_text k = field refused_word k ++ line_end
