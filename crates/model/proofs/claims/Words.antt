-- The walk over a word, proved.
use Prim.Native.Nat.{ℕ, zero, suc, ◌-◌, ◌^◌, ◌≤◌, ◌<◌}
use mathlib.Core.List.{List, [], ◌∷◌}
use mathlib.Core.Logic.{⊎_elim}
use mathlib.Core.Path.{◌≡◌, refl, sym, ap, ◌∙◌}
use native.Mathlib.Omega.{arith}
use lib.Bits.{bit_and, and_le_r}
use lib.Count.{count_trailing_zeros}
use Rattle.model.specs.Counting.{passing}
use Rattle.model.specs.sheet.Fields.{has_bit}
use Rattle.model.specs.claims.Words.{Walked, end, place, PassingArePlaces, PlacesDetermineWord}
use Rattle.model.specs.claims.Words.{WalkGivesPlaces, WalkEnds}
use Rattle.model.proofs.Passing.{listed, passing_length, same_passing}
use Rattle.model.proofs.Tests.{lt_or_le}
use Rattle.model.proofs.sheet.Bits.{set_within, same_bits}
use Rattle.model.proofs.sheet.Walk.{step_end, step_lowest}

walk_lists : {word : ℕ} {places : List ℕ} → Walked word places → places ≡ passing 64 (has_bit word)
walk_lists (end s) = sym s.given.0
walk_lists (place {word} {j} {rest} {places} s w) = ap (λ ps. j ∷ ps) (walk_lists w) ∙ sym s.given

pub passing_are_places : PassingArePlaces
passing_are_places word h = record {
  each = λ j s. (listed 64 (has_bit word)).each j (set_within word 64 j h s) s;
  rising = (listed 64 (has_bit word)).rising;
  no_other = (listed 64 (has_bit word)).passes;
  counted = passing_length 64 (has_bit word);
}

pub places_determine_word : PlacesDetermineWord
places_determine_word v w h l e = same_bits 64 v w h l (same_passing 64 (has_bit v) (has_bit w) e)

pub walk_gives_places : WalkGivesPlaces
walk_gives_places word places h w = rw (walk_lists w) (passing_are_places word h)

-- each step leaves a smaller word
walk_within : (n word : ℕ) → word ≤ n → word < 2 ^ 64 → (places : List ℕ) × Walked word places
walk_within zero word l h = ([], end (step_end word word (omega arith) (omega arith)))
walk_within (suc n) word l h = ⊎_elim
    (λ (p : 0 < word).
    let smaller = and_le_r word (word - 1) in
    let (places, w) = walk_within n (bit_and word (word - 1)) (omega (arith, smaller)) (omega (arith, smaller)) in
    (count_trailing_zeros 64 word ∷ places, place (step_lowest word _ _ p h refl refl) w))
    (λ (z : word ≤ 0). ([], end (step_end word word (omega arith) (omega arith))))
    (lt_or_le 0 word)

pub walk_ends : WalkEnds
walk_ends word h = walk_within word word (omega arith) h
