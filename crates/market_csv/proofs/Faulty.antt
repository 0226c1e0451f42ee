-- What a text comes to at a place that is reached and has a fault, and at its end.
use Rattle.std.proofs.Common.{◌≡◌, ℕ, suc, ◌+◌, ◌<◌, ◌≤◌, Bool, true, false, not, ◌⊎◌, List, [], ◌∷◌, length, get_or}
use Rattle.std.proofs.Common.{refl, ap, ◌∙◌, inl, inr, ⊎_elim, arith}
use Rattle.model.specs.Limits.{max_stations}
use Rattle.model.specs.Counting.{◌<?◌, ◌≤?◌, ◌=?◌, ◌and◌, ◌or◌}
use Rattle.model.specs.Verdicts.{◌gives◌, accepted, refused, first_fault}
use Rattle.model.specs.csv.Places.{comma, cr, lf, is_digit, line_of, field_of, after_cr, starts_line}
use Rattle.model.specs.csv.Faults.{stations, fields_of, too_large, too_many, is_missing, misplaced, byte_faults}
use Rattle.model.specs.csv.Faults.{end_faults}
use Rattle.model.specs.csv.Faults.{csv_faults}
use Rattle.model.proofs.Tests.{decide, is_eq, or_left, or_right, and_false, both, is_lt}
use Rattle.model.proofs.csv.Steps.{digits_none, room, large_none}
use Rattle.market_csv.specs.Reached.{past, Reached}
use Rattle.market_csv.proofs.Steps.{stop, stop_end}
use Rattle.market_csv.proofs.Reaching.{MayEnd, cr_verdict}

-- ---- 23

pub large_byte :
    {s : List ℕ} {p l k q d : ℕ} → Reached s p l k q d → p < length s → is_digit (get_or s p 0) ≡ false
    → too_large (past s p) ≡ true → first_fault (csv_faults s) ≡ refused 23
unfolding byte_faults ◌and◌ first_fault
large_byte {s} {p} r h e t = r.verdict ∙ stop s _ p 23 h (rw (e, t) refl)

pub large_end :
    {s : List ℕ} {p l k q d : ℕ} → Reached s p l k q d → length s ≤ p → too_large (past s p) ≡ true
    → first_fault (csv_faults s) ≡ refused 23
unfolding end_faults first_fault
large_end {s} {p} r h t = r.verdict ∙ stop_end s _ p h ∙ rw t refl

-- ---- 2

pub many_asks :
    {s : List ℕ} {p k q d : ℕ} → Reached s p 0 k q d → p < length s → get_or s p 0 ≡ comma → k + 1 ≡ max_stations
    → too_large (past s p) ≡ false → first_fault (csv_faults s) ≡ refused 2
unfolding byte_faults too_many is_digit ◌≤?◌ ◌and◌ ◌or◌ ◌=?◌ first_fault
many_asks {s} {p} {k} r h b e t =
    let f : field_of (past s p) + 1 ≡ 40 = omega (arith, r.field_is) in
    r.verdict ∙ stop s _ p 2 h (rw (b, t, r.no_cr, r.line_is, f) refl)

rows_two :
    {a b : Bool} (c : Bool) → a ≡ false → b ≡ true
    → first_fault ((a gives 23) ∷ (b gives 2) ∷ (c gives 22) ∷ []) ≡ refused 2
unfolding first_fault
rows_two c e f = rw (e, f) refl

rows_three :
    {a b c : Bool} → a ≡ false → b ≡ false → c ≡ true
    → first_fault ((a gives 23) ∷ (b gives 2) ∷ (c gives 22) ∷ []) ≡ refused 22
unfolding first_fault
rows_three e f g = rw (e, f, g) refl

not_large : (a : Bool) {b : Bool} → b ≡ false → (a and b) ≡ false
not_large a e = rw e (and_false a)

pub many_guests_lem :
    {s : List ℕ} {p k q : ℕ} → Reached s p 202 k q 0 → p < length s → starts_line (past s p) ≡ true
    → first_fault (csv_faults s) ≡ refused 2
unfolding byte_faults too_many
many_guests_lem {s} {p} r h e =
    r.verdict
    ∙ stop s _ p 2 h
    (rows_two _ (not_large _ (large_none _ r.digits_are)) (or_right _ _ (both e (is_eq _ _ r.line_is))))

-- ---- 22 at a byte

malformed_at :
    (m : ℕ) (w : List ℕ) (b : ℕ) → too_large w ≡ false → too_many w b ≡ false → misplaced m w b ≡ true
    → first_fault (byte_faults m w b) ≡ refused 22
unfolding byte_faults
malformed_at m w b t n e = rows_three (not_large _ t) n e

-- 2 is not met by another byte than a comma, and by no comma that may stand there
mark_few : (w : List ℕ) (b : ℕ) → b =? comma ≡ false → line_of w < 202 → too_many w b ≡ false
unfolding too_many ◌and◌ ◌or◌
mark_few w b e h = rw (e, room w h) refl

comma_few :
    (w : List ℕ) → after_cr w ≡ false → (line_of w =? 0 and field_of w + 1 =? max_stations) ≡ false → line_of w < 202
    → too_many w comma ≡ false
unfolding too_many ◌and◌ ◌or◌ ◌=?◌
comma_few w c e h = rw (c, e, room w h) refl

cr_few : (v : List ℕ) (b : ℕ) → too_many (cr ∷ v) b ≡ false
unfolding too_many ◌and◌ ◌or◌ ◌=?◌ after_cr starts_line
cr_few v b = ⊎_elim
    (λ (t : b =? comma ≡ true). rw t refl) (λ (t : b =? comma ≡ false). rw t refl) (decide (b =? comma))

mark_misplaced :
    (m : ℕ) (w : List ℕ) (b : ℕ) → is_digit b ≡ false → b =? comma ≡ false → b =? cr ≡ false → after_cr w ≡ false
    → misplaced m w b ≡ true
unfolding misplaced ◌and◌ ◌or◌
mark_misplaced m w b d e f c = ⊎_elim
    (λ (t : b =? lf ≡ true). rw (d, e, f, c, t) refl)
    (λ (t : b =? lf ≡ false). rw (d, e, f, c, t) refl)
    (decide (b =? lf))

after_misplaced : (m : ℕ) (w : List ℕ) (b : ℕ) → after_cr w ≡ true → b =? lf ≡ false → misplaced m w b ≡ true
unfolding misplaced
after_misplaced m w b c e =
    let y : (after_cr w and not (b =? lf)) ≡ true = both c (ap not e) in
    or_left _ _ (or_left _ _ (or_left _ _ (or_left _ _ (or_right _ _ y))))

comma_misplaced :
    (m : ℕ) (w : List ℕ) → (is_missing w ≡ true) ⊎ (field_of w + 1 =? fields_of m (line_of w) ≡ true)
    → misplaced m w comma ≡ true
unfolding misplaced
comma_misplaced m w e = ⊎_elim
    (λ i. or_left _ _ (or_left _ _ (or_right _ _ (both (or_left _ _ (is_eq comma comma refl)) i))))
    (λ g. or_left _ _ (or_right _ _ (both (is_eq comma comma refl) g)))
    e

cr_misplaced :
    (m : ℕ) (w : List ℕ) → (is_missing w ≡ true) ⊎ (field_of w + 1 <? fields_of m (line_of w) ≡ true)
    → misplaced m w cr ≡ true
unfolding misplaced
cr_misplaced m w e = ⊎_elim
    (λ i. or_left _ _ (or_left _ _ (or_right _ _ (both (or_right _ _ (is_eq cr cr refl)) i))))
    (λ g. or_right _ _ (both (is_eq cr cr refl) g))
    e

-- another byte
pub mark_fault :
    {s : List ℕ} {p l k q d : ℕ} → Reached s p l k q d → p < length s → is_digit (get_or s p 0) ≡ false
    → get_or s p 0 =? comma ≡ false → get_or s p 0 =? cr ≡ false → too_large (past s p) ≡ false → l < 202
    → first_fault (csv_faults s) ≡ refused 22
mark_fault {s} {p} r h d e f t low =
    r.verdict
    ∙ stop s _ p 22 h
    (malformed_at _ _ _ t (mark_few _ _ e (omega (arith, r.line_is))) (mark_misplaced _ _ _ d e f r.no_cr))

-- a comma that ends an empty field, or is one too many
pub comma_fault :
    {s : List ℕ} {p l k q d : ℕ} → Reached s p l k q d → p < length s → get_or s p 0 ≡ comma
    → too_large (past s p) ≡ false
    → (l =? 0 and k + 1 =? max_stations) ≡ false → l < 202
    → (is_missing (past s p) ≡ true) ⊎ (k + 1 =? fields_of (stations s) l ≡ true)
    → first_fault (csv_faults s) ≡ refused 22
comma_fault {s} {p} {l} {k} r h b t few low e =
    let w = past s p in
    let few' : (line_of w =? 0 and field_of w + 1 =? max_stations) ≡ false = rw (r.line_is, r.field_is) few in
    let e' : (is_missing w ≡ true) ⊎ (field_of w + 1 =? fields_of (stations s) (line_of w) ≡ true) =
    rw (r.line_is, r.field_is) e in
    let n : line_of w < 202 = omega (arith, r.line_is) in
    let f : first_fault (byte_faults (stations s) w (get_or s p 0)) ≡ refused 22 =
    rw b (malformed_at _ w comma t (comma_few w r.no_cr few' n) (comma_misplaced _ w e')) in
    r.verdict ∙ stop s _ p 22 h f

-- a CR that ends an empty field, or comes too early
pub cr_fault :
    {s : List ℕ} {p l k q d : ℕ} → Reached s p l k q d → p < length s → get_or s p 0 ≡ cr → too_large (past s p) ≡ false
    → l < 202 → (is_missing (past s p) ≡ true) ⊎ (k + 1 <? fields_of (stations s) l ≡ true)
    → first_fault (csv_faults s) ≡ refused 22
unfolding ◌=?◌
cr_fault {s} {p} {l} {k} r h b t low e =
    let w = past s p in
    let e' : (is_missing w ≡ true) ⊎ (field_of w + 1 <? fields_of (stations s) (line_of w) ≡ true) =
    rw (r.line_is, r.field_is) e in
    let n : line_of w < 202 = omega (arith, r.line_is) in
    let f : first_fault (byte_faults (stations s) w (get_or s p 0)) ≡ refused 22 =
    rw b (malformed_at _ w cr t (mark_few w cr refl n) (cr_misplaced _ w e')) in
    r.verdict ∙ stop s _ p 22 h f

-- ---- the end

pub end_fault :
    {s : List ℕ} {p l k q d : ℕ} → Reached s p l k q d → length s ≤ p → too_large (past s p) ≡ false
    → (starts_line (past s p) and 1 <? l) ≡ false → first_fault (csv_faults s) ≡ refused 22
unfolding end_faults first_fault
end_fault {s} {p} {l} r h t e =
    let e' : (starts_line (past s p) and 1 <? line_of (past s p)) ≡ false = rw r.line_is e in
    r.verdict ∙ stop_end s _ p h ∙ rw (t, e') refl

pub end_good :
    {s : List ℕ} {p l k q : ℕ} → Reached s p l k q 0 → length s ≤ p → starts_line (past s p) ≡ true → 1 < l
    → first_fault (csv_faults s) ≡ accepted tt
unfolding end_faults first_fault
end_good {s} {p} {l} r h e low =
    let e' : (starts_line (past s p) and 1 <? line_of (past s p)) ≡ true =
    both e (is_lt _ _ (omega (arith, r.line_is))) in
    r.verdict ∙ stop_end s _ p h ∙ rw (large_none _ r.digits_are, e') refl

-- a CR with no LF after it
pub cr_alone :
    {s : List ℕ} {p l k q d : ℕ} → Reached s p l k q d → p < length s → get_or s p 0 ≡ cr → too_large (past s p) ≡ false
    → l < 202 → (length s ≤ suc p) ⊎ ((suc p < length s) × (get_or s (suc p) 0 =? lf ≡ false))
    → first_fault (csv_faults s) ≡ refused 22
unfolding past end_faults first_fault after_cr starts_line is_digit ◌≤?◌ ◌and◌ ◌=?◌
cr_alone {s} {p} {l} {k} r h b t low o = ⊎_elim
    (λ (i : is_missing (past s p) ≡ true). cr_fault r h b t low (inl i))
    (λ (i : is_missing (past s p) ≡ false). ⊎_elim
    (λ (g : k + 1 <? fields_of (stations s) l ≡ true). cr_fault r h b t low (inr g))
    (λ (g : k + 1 <? fields_of (stations s) l ≡ false).
    let may : MayEnd s p l k = record { small = t; before = low; there = i; enough = g } in
    let small : too_large (cr ∷ past s p) ≡ false = large_none _ (digits_none cr (past s p) refl) in
    cr_verdict r h b may ∙ ⊎_elim
    (λ (j : length s ≤ suc p). stop_end s _ (suc p) j ∙ rw (b, small) refl)
    (λ (j : (suc p < length s) × (get_or s (suc p) 0 =? lf ≡ false)). stop s _ (suc p) 22 j.0
    (rw b (malformed_at _ (cr ∷ past s p) _ small (cr_few _ _) (after_misplaced _ _ _ refl j.1))))
    o)
    (decide (k + 1 <? fields_of (stations s) l)))
    (decide (is_missing (past s p)))
