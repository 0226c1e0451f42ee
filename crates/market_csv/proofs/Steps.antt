-- One byte more of a text: its table of faults and its values, from a place on and from the next one on.
use Rattle.std.proofs.Common.{◌≡◌, ℕ, zero, suc, ◌<◌, ◌≤◌, true, false, List, [], ◌∷◌, length, get_or, drop, refl}
use Rattle.std.proofs.Common.{arith, drop_of_length-le, drop-cons}
use Rattle.model.specs.Counting.{◌=?◌, ◌or◌}
use Rattle.model.specs.Verdicts.{accepted, refused, first_fault}
use Rattle.model.specs.csv.Places.{comma, cr, value_of}
use Rattle.model.specs.csv.Faults.{byte_faults, end_faults, faults_from}
use Rattle.model.specs.csv.Content.{ending, values_from}
use Rattle.model.proofs.Verdicts.{fault_first, fault_second}
use Rattle.market_csv.specs.Reached.{past}

-- ---- the table of faults from a place on

pub pass :
    (s : List ℕ) (m p : ℕ) → p < length s → first_fault (byte_faults m (past s p) (get_or s p 0)) ≡ accepted tt
    → first_fault (faults_from m (past s p) (drop p s)) ≡ first_fault (faults_from m (past s (suc p)) (drop (suc p) s))
unfolding faults_from past
pass s m p h e = rw (drop-cons s p 0 h) (fault_second _ _ e)

pub stop :
    (s : List ℕ) (m p k : ℕ) → p < length s → first_fault (byte_faults m (past s p) (get_or s p 0)) ≡ refused k
    → first_fault (faults_from m (past s p) (drop p s)) ≡ refused k
unfolding faults_from
stop s m p k h e = rw (drop-cons s p 0 h) (fault_first _ _ e)

pub stop_end :
    (s : List ℕ) (m p : ℕ) → length s ≤ p
    → first_fault (faults_from m (past s p) (drop p s)) ≡ first_fault (end_faults (past s p))
unfolding faults_from
stop_end s m p h = rw (drop_of_length-le s h) refl

-- ---- the values from a place on

pub keep_values :
    (s : List ℕ) (p : ℕ) → p < length s → (get_or s p 0 =? comma or get_or s p 0 =? cr) ≡ false
    → values_from (past s p) (drop p s) ≡ values_from (past s (suc p)) (drop (suc p) s)
unfolding values_from past ending
keep_values s p h e = rw (drop-cons s p 0 h, e) refl

pub take_value :
    (s : List ℕ) (p : ℕ) → p < length s → (get_or s p 0 =? comma or get_or s p 0 =? cr) ≡ true
    → values_from (past s p) (drop p s) ≡ value_of (past s p) ∷ values_from (past s (suc p)) (drop (suc p) s)
unfolding values_from past ending
take_value s p h e = rw (drop-cons s p 0 h, e) refl

pub drop_head :
    (q : ℕ) (l : List ℕ) (x : ℕ) (r : List ℕ) → drop q l ≡ x ∷ r → (get_or l q 0 ≡ x) × (drop (suc q) l ≡ r)
drop_head zero [] x r e = let z : ◌≡◌ {A = ℕ} 0 1 = cc in absurd (omega arith)
drop_head (suc q) [] x r e = let z : ◌≡◌ {A = ℕ} 0 1 = cc in absurd (omega arith)
drop_head zero (y ∷ l) x r e = let f : y ≡ x = cc in let g : l ≡ r = cc in (f, g)
drop_head (suc q) (y ∷ l) x r e = drop_head q l x r e
