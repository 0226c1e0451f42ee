-- The lines of guests and stations. Document 01, end of 'Cases'. A text is a list of bytes.
use Rattle.std.specs.Prelude.{ℕ, ◌+◌, List, [], ◌∷◌, ◌++◌, get_or}
use Rattle.model.specs.Counting.{joined}
use Rattle.model.specs.text.Decimal.{field}

-- 'guest ', ' station ', ' charge ', 'station ', ' sold ', ' paid ', line end
abbrev pub guest_word : List ℕ
guest_word = 103 ∷ 117 ∷ 101 ∷ 115 ∷ 116 ∷ 32 ∷ []

abbrev pub at_station_word : List ℕ
at_station_word = 32 ∷ 115 ∷ 116 ∷ 97 ∷ 116 ∷ 105 ∷ 111 ∷ 110 ∷ 32 ∷ []

abbrev pub charge_word : List ℕ
charge_word = 32 ∷ 99 ∷ 104 ∷ 97 ∷ 114 ∷ 103 ∷ 101 ∷ 32 ∷ []

abbrev pub station_word : List ℕ
station_word = 115 ∷ 116 ∷ 97 ∷ 116 ∷ 105 ∷ 111 ∷ 110 ∷ 32 ∷ []

abbrev pub sold_word : List ℕ
sold_word = 32 ∷ 115 ∷ 111 ∷ 108 ∷ 100 ∷ 32 ∷ []

abbrev pub paid_word : List ℕ
paid_word = 32 ∷ 112 ∷ 97 ∷ 105 ∷ 100 ∷ 32 ∷ []

abbrev pub line_end : List ℕ
line_end = 10 ∷ []

unfoldable pub guest_line : (guest station charge : ℕ) → List ℕ
guest_line guest station charge =
    field guest_word guest ++ field at_station_word station ++ field charge_word charge ++ line_end

unfoldable pub station_line : (station sold paid : ℕ) → List ℕ
station_line station sold paid = field station_word station ++ field sold_word sold ++ field paid_word paid ++ line_end

-- guests and stations by number, from 1
unfoldable pub guest_lines : (stations charges : List ℕ) → ℕ → List ℕ
guest_lines stations charges n = joined n (λ k. guest_line (k + 1) (get_or stations k 0) (get_or charges k 0))

unfoldable pub station_lines : (sold paid : List ℕ) → ℕ → List ℕ
station_lines sold paid m = joined m (λ k. station_line (k + 1) (get_or sold k 0) (get_or paid k 0))
