-- Laws of the first fault of a table and of two tables in turn, and of the answers that it gives.
use Prim.Native.Nat.{ℕ, zero, suc, ◌<◌}
use mathlib.Core.Bool.{Bool, true, false}
use mathlib.Core.List.{List, [], ◌∷◌, ◌++◌}
use mathlib.Core.Logic.{◌⊎◌, inl, inr, ⊎_elim}
use mathlib.Core.Path.{◌≡◌, refl, sym, ap, ◌∙◌}
use native.Mathlib.Nat.{not-suc-le-zero, eq-or-lt_of_le, le_of_suc-le-suc}
use native.Mathlib.Omega.{arith}
use Rattle.std.specs.Prelude.{Result}
use Rattle.model.specs.Counting.{joined}
use Rattle.model.specs.Numbers.{answer_of_verdict}
use Rattle.model.specs.declared.refusal.Refusal.{Refusal}
use Rattle.model.specs.Verdicts.{Row, ◌gives◌, Verdict, accepted, refused, first_fault, giving, updated, number_of}
use Rattle.model.proofs.Counting.{up, here}

pub fault_here : {b : Bool} {r : ℕ} (rows : List Row) → b ≡ true → first_fault ((b gives r) ∷ rows) ≡ refused r
unfolding first_fault
fault_here rows e = rw e refl

pub fault_later :
    {b : Bool} (r : ℕ) (rows : List Row) → b ≡ false → first_fault ((b gives r) ∷ rows) ≡ first_fault rows
unfolding first_fault
fault_later r rows e = rw e refl

pub fault_none : first_fault [] ≡ accepted tt
unfolding first_fault
fault_none = refl

pub no_fault :
    (b : Bool) (r : ℕ) (rows : List Row) → first_fault ((b gives r) ∷ rows) ≡ accepted tt
    → (b ≡ false) × (first_fault rows ≡ accepted tt)
unfolding first_fault
no_fault true r rows e = let z : ◌≡◌ {A = ℕ} 0 1 = cc in absurd (omega arith)
no_fault false r rows e = (refl, e)

pub fault_first : (xs ys : List Row) {r : ℕ} → first_fault xs ≡ refused r → first_fault (xs ++ ys) ≡ refused r
unfolding first_fault
fault_first [] ys e = let z : ◌≡◌ {A = ℕ} 0 1 = cc in absurd (omega arith)
fault_first ((true gives r) ∷ xs) ys e = e
fault_first ((false gives r) ∷ xs) ys e = fault_first xs ys e

pub fault_second : (xs ys : List Row) → first_fault xs ≡ accepted tt → first_fault (xs ++ ys) ≡ first_fault ys
unfolding first_fault
fault_second [] ys e = refl
fault_second ((true gives r) ∷ xs) ys e = let z : ◌≡◌ {A = ℕ} 0 1 = cc in absurd (omega arith)
fault_second ((false gives r) ∷ xs) ys e = fault_second xs ys e

pub no_faults :
    (xs ys : List Row) → first_fault (xs ++ ys) ≡ accepted tt
    → (first_fault xs ≡ accepted tt) × (first_fault ys ≡ accepted tt)
unfolding first_fault
no_faults [] ys e = (refl, e)
no_faults ((true gives r) ∷ xs) ys e = let z : ◌≡◌ {A = ℕ} 0 1 = cc in absurd (omega arith)
no_faults ((false gives r) ∷ xs) ys e = no_faults xs ys e

pub fault_free :
    {b : Bool} (r : ℕ) (rows : List Row) → b ≡ false → first_fault rows ≡ accepted tt
    → first_fault ((b gives r) ∷ rows) ≡ accepted tt
unfolding first_fault
fault_free r rows p e = rw p e

-- ---- tables one after the other
module _ (f : ℕ → List Row) where
  pub faults_none : first_fault (joined 0 f) ≡ accepted tt
  unfolding joined
  faults_none = fault_none

  -- after i tables with no fault the next one decides
  pub faults_suc : (i : ℕ) → first_fault (joined i f) ≡ accepted tt → first_fault (joined (suc i) f) ≡ first_fault (f i)
  unfolding joined
  faults_suc i e = fault_second (joined i f) _ e

  faults_still : (i : ℕ) {r : ℕ} → first_fault (joined i f) ≡ refused r → first_fault (joined (suc i) f) ≡ refused r
  unfolding joined
  faults_still i e = fault_first (joined i f) _ e

  pub faults_split :
      (i : ℕ) → first_fault (joined (suc i) f) ≡ accepted tt
      → (first_fault (joined i f) ≡ accepted tt) × (first_fault (f i) ≡ accepted tt)
  unfolding joined
  faults_split i e = no_faults (joined i f) _ e

  -- the first fault of one table is that of all
  pub faults_first :
      (n i : ℕ) {r : ℕ} → i < n → first_fault (joined i f) ≡ accepted tt → first_fault (f i) ≡ refused r
      → first_fault (joined n f) ≡ refused r
  faults_first zero i l e g = absurd (not-suc-le-zero l)
  faults_first (suc n) i l e g = ⊎_elim
      (λ (h : i ≡ n). rw (← h) (faults_suc i e ∙ g))
      (λ (h : i < n). faults_still n (faults_first n i h e g))
      (eq-or-lt_of_le (le_of_suc-le-suc l))

  -- no fault in all is none in each
  pub faults_each : (n i : ℕ) → first_fault (joined n f) ≡ accepted tt → i < n → first_fault (f i) ≡ accepted tt
  faults_each zero i e l = absurd (not-suc-le-zero l)
  faults_each (suc n) i e l = ⊎_elim
      (λ (h : i ≡ n). rw h (faults_split n e).1)
      (λ (h : i < n). faults_each n i (faults_split n e).0 h)
      (eq-or-lt_of_le (le_of_suc-le-suc l))

  pub faults_all :
      (n : ℕ) → ((i : ℕ) → i < n → first_fault (f i) ≡ accepted tt) → first_fault (joined n f) ≡ accepted tt
  faults_all zero h = faults_none
  faults_all (suc n) h = faults_suc n (faults_all n (λ i l. h i (up l))) ∙ h n here

  -- where no table has another fault than r, all have none or r
  pub faults_either :
      (n : ℕ) {r : ℕ}
      → ((i : ℕ) → i < n → (first_fault (f i) ≡ accepted tt) ⊎ (first_fault (f i) ≡ refused r))
      → (first_fault (joined n f) ≡ accepted tt) ⊎ (first_fault (joined n f) ≡ refused r)
  faults_either zero h = inl faults_none
  faults_either (suc n) {r} h = ⊎_elim
      (λ (e : first_fault (joined n f) ≡ accepted tt). ⊎_elim
      (λ (g : first_fault (f n) ≡ accepted tt). inl (faults_suc n e ∙ g))
      (λ (g : first_fault (f n) ≡ refused r). inr (faults_suc n e ∙ g))
      (h n here))
      (λ (e : first_fault (joined n f) ≡ refused r). inr (faults_still n e))
      (faults_either n (λ i l. h i (up l)))

-- ---- what an answer gives, by its verdict

pub giving_accepted : {B : Type 0} {v : Verdict} (b : B) → v ≡ accepted tt → giving v b ≡ accepted b
unfolding giving
giving_accepted b e = rw e refl

pub giving_refused : {B : Type 0} {v : Verdict} (b : B) (k : ℕ) → v ≡ refused k → giving v b ≡ refused k
unfolding giving
giving_refused b k e = rw e refl

pub updated_accepted : {B : Type 0} {v : Verdict} (new old : B) → v ≡ accepted tt → updated v new old ≡ new
unfolding updated
updated_accepted new old e = rw e refl

pub updated_refused : {B : Type 0} {v : Verdict} (new old : B) (k : ℕ) → v ≡ refused k → updated v new old ≡ old
unfolding updated
updated_refused new old k e = rw e refl

pub number_accepted : {v : Verdict} → v ≡ accepted tt → number_of v ≡ 0
unfolding number_of
number_accepted e = rw e refl

-- and the verdict, by what the answer gives
pub gave_accepted :
    {B : Type 0} (v : Verdict) (b c : B) → giving v b ≡ accepted c → (v ≡ accepted tt) × (b ≡ c)
unfolding giving
gave_accepted (accepted _) b c e = let g : b ≡ c = cc in (refl, g)
gave_accepted (refused k) b c e = let z : ◌≡◌ {A = ℕ} 0 1 = cc in absurd (omega arith)

pub gave_refused : {B : Type 0} (v : Verdict) (b : B) (k : ℕ) → giving v b ≡ refused k → v ≡ refused k
unfolding giving
gave_refused (accepted _) b k e = let z : ◌≡◌ {A = ℕ} 0 1 = cc in absurd (omega arith)
gave_refused (refused j) b k e = let g : j ≡ k = cc in ap refused g

-- ---- in the branch of the code's verdict
pub told : {v w : Result Unit Refusal} {x : Verdict} → v ≡ w → answer_of_verdict v ≡ x → answer_of_verdict w ≡ x
told e j = ap answer_of_verdict (sym e) ∙ j
