-- The page of what decided: a line for each guest. Document 02, request 7. A text is a list of bytes.
use Rattle.std.specs.Prelude.{ℕ, ◌+◌, cond, List, [], ◌∷◌, ◌++◌, get_or, length}
use Rattle.model.specs.Counting.{◌=?◌, joined}
use Rattle.model.specs.market.Reasons.{OutcomeTable}
use Rattle.model.specs.text.Decimal.{field}
use Rattle.model.specs.text.Lines.{guest_word, charge_word, line_end}

-- ' wins station ', ' loses: ', and the reasons 1 to 4
abbrev pub wins_word : List ℕ
wins_word = 32 ∷ 119 ∷ 105 ∷ 110 ∷ 115 ∷ 32 ∷ 115 ∷ 116 ∷ 97 ∷ 116 ∷ 105 ∷ 111 ∷ 110 ∷ 32 ∷ []

abbrev pub loses_word : List ℕ
loses_word = 32 ∷ 108 ∷ 111 ∷ 115 ∷ 101 ∷ 115 ∷ 58 ∷ 32 ∷ []

abbrev pub no_bid_word : List ℕ
no_bid_word = 110 ∷ 111 ∷ 32 ∷ 98 ∷ 105 ∷ 100 ∷ []

abbrev pub not_open_word : List ℕ
not_open_word = 115 ∷ 116 ∷ 97 ∷ 116 ∷ 105 ∷ 111 ∷ 110 ∷ 32 ∷ 110 ∷ 111 ∷ 116 ∷ 32 ∷ 111 ∷ 112 ∷ 101 ∷ 110 ∷ []

abbrev pub below_cut_word : List ℕ
below_cut_word = 98 ∷ 105 ∷ 100 ∷ 32 ∷ 98 ∷ 101 ∷ 108 ∷ 111 ∷ 119 ∷ 32 ∷ 116 ∷ 104 ∷ 101 ∷ 32 ∷ 99 ∷ 117 ∷ 116 ∷ []

abbrev pub outbid_word : List ℕ
outbid_word = 111 ∷ 117 ∷ 116 ∷ 98 ∷ 105 ∷ 100 ∷ []

-- of a code from 1 to 4
unfoldable pub reason_word : ℕ → List ℕ
reason_word k = cond (k =? 1) no_bid_word (cond (k =? 2) not_open_word (cond (k =? 3) below_cut_word outbid_word))

unfoldable pub win_line : (guest station charge : ℕ) → List ℕ
win_line guest station charge =
    field guest_word guest ++ field wins_word station ++ field charge_word charge ++ line_end

unfoldable pub loss_line : (guest code : ℕ) → List ℕ
loss_line guest code = field guest_word guest ++ loses_word ++ reason_word code ++ line_end

-- a win has no code
unfoldable pub outcome_line : (guest station charge loss : ℕ) → List ℕ
outcome_line guest station charge loss = cond (loss =? 0) (win_line guest station charge) (loss_line guest loss)

-- guests by number, from 1
unfoldable pub outcome_lines : OutcomeTable → ℕ → List ℕ
outcome_lines o n =
    joined n (λ k. outcome_line (k + 1) (get_or o.stations k 0) (get_or o.charges k 0) (get_or o.reasons k 0))

unfoldable pub reasons_text : OutcomeTable → List ℕ
reasons_text o = outcome_lines o (length o.stations)
