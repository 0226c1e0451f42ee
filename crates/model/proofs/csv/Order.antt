-- The first fault decides: before the first line has ended no row hangs on m, and then m is known.
use Prim.Native.Nat.{ℕ, suc, ◌+◌}
use mathlib.Core.Bool.{true, false, not}
use mathlib.Core.List.{List, [], ◌∷◌, ◌++◌}
use mathlib.Core.Logic.{◌⊎◌, inl, inr, ⊎_elim}
use mathlib.Core.Path.{◌≡◌, refl, sym, ap, subst, ◌∙◌}
use native.Mathlib.Omega.{arith}
use Rattle.model.specs.Counting.{◌<?◌, ◌=?◌, only}
use Rattle.model.specs.Verdicts.{Verdict, accepted, refused, first_fault}
use Rattle.model.specs.csv.Places.{comma, cr, lf, line_of, field_of, after_cr}
use Rattle.model.specs.csv.Faults.{first_fields, stations, fields_of, misplaced, byte_faults, faults_from, csv_faults}
use Rattle.model.specs.claims.Csv.{bytes_faults, FirstFaultDecides}
use Rattle.model.proofs.Tests.{decide, clash, both, or_left, or_right, eq_yes}
use Rattle.model.proofs.Verdicts.{no_fault, fault_first, fault_second}
use Rattle.model.proofs.csv.Steps.{line_other, field_other, field_comma}

-- in the first line, before its CR: m and m' are the fields so far and those of x and what follows
record InFirst (m m' : ℕ) (w x y z : List ℕ) : Type 0 where
  line_is : line_of w ≡ 0
  no_cr : after_cr w ≡ false
  m_is : m ≡ field_of w + stations (x ++ y)
  m'_is : m' ≡ field_of w + stations (x ++ z)

abbrev Alike : (m m' : ℕ) (w x y z : List ℕ) → Type 0
Alike m m' w x y z = (m ≡ m') ⊎ InFirst m m' w x y z

any_fields : (m m' : ℕ) → fields_of m 0 ≡ fields_of m' 0
unfolding fields_of only ◌<?◌
any_fields m m' = refl

same_rows : {m m' : ℕ} {w x y z : List ℕ} (b : ℕ) → Alike m m' w x y z → byte_faults m w b ≡ byte_faults m' w b
unfolding byte_faults misplaced
same_rows {m} {m'} {w} {x} {y} {z} b s = ⊎_elim
    (λ (e : m ≡ m'). rw e refl)
    (λ (f : InFirst m m' w x y z). rw (f.line_is, any_fields m m') refl)
    s

-- LF does not end the first line without CR
feed_fault :
    (m : ℕ) (w : List ℕ) (b : ℕ) → after_cr w ≡ false → first_fault (byte_faults m w b) ≡ accepted tt → b =? lf ≡ false
unfolding byte_faults misplaced
feed_fault m w b c e = ⊎_elim
    (λ (t : b =? lf ≡ true).
    absurd (clash (or_left _ _ (or_left _ _ (or_left _ _ (or_right _ _ (both t (ap not c))))))
    (no_fault _ _ _ (no_fault _ _ _ (no_fault _ _ _ e).1).1).0))
    (λ (t : b =? lf ≡ false). t)
    (decide (b =? lf))

next_alike :
    {m m' : ℕ} {w y z : List ℕ} (b : ℕ) (x : List ℕ) → first_fault (byte_faults m w b) ≡ accepted tt
    → InFirst m m' w (b ∷ x) y z → Alike m m' (b ∷ w) x y z
unfolding stations first_fields only after_cr
next_alike {m} {m'} {w} {y} {z} b x e f =
    let feed = feed_fault m w b f.no_cr e in
    ⊎_elim
    (λ (t : b =? cr ≡ true). inl (omega (arith, rw t at f.m_is, rw t at f.m'_is)))
    (λ (t : b =? cr ≡ false). ⊎_elim
    (λ (u : b =? comma ≡ true).
    let more = subst (λ c. field_of (c ∷ w) ≡ suc (field_of w)) (sym (eq_yes b comma u)) (field_comma w) in
    inr (record {
      line_is = line_other b w feed ∙ f.line_is;
      no_cr = t;
      m_is = omega (arith, more, rw (t, u) at f.m_is);
      m'_is = omega (arith, more, rw (t, u) at f.m'_is);
    }))
    (λ (u : b =? comma ≡ false). inr (record {
      line_is = line_other b w feed ∙ f.line_is;
      no_cr = t;
      m_is = omega (arith, field_other b w feed u, rw (t, u) at f.m_is);
      m'_is = omega (arith, field_other b w feed u, rw (t, u) at f.m'_is);
    }))
    (decide (b =? comma)))
    (decide (b =? cr))

verdicts : (v : Verdict) → (v ≡ accepted tt) ⊎ ((k : ℕ) × (v ≡ refused k))
verdicts (accepted tt) = inl refl
verdicts (refused k) = inr (k, refl)

decided :
    {m m' : ℕ} {y z : List ℕ} (k : ℕ) (w x : List ℕ) → Alike m m' w x y z → first_fault (bytes_faults m w x) ≡ refused k
    → first_fault (faults_from m' w (x ++ z)) ≡ refused k
unfolding bytes_faults faults_from first_fault
decided k w [] s e = let q : ◌≡◌ {A = ℕ} 0 1 = cc in absurd (omega arith)
decided {m} {m'} {y} {z} k w (b ∷ x) s e = ⊎_elim
    (λ (v : first_fault (byte_faults m w b) ≡ accepted tt).
    let next : Alike m m' (b ∷ w) x y z = ⊎_elim (λ (q : m ≡ m'). inl q) (λ f. next_alike b x v f) s in
    fault_second (byte_faults m' w b) _ (ap first_fault (sym (same_rows b s)) ∙ v)
    ∙ decided k (b ∷ w) x next (sym (fault_second (byte_faults m w b) _ v) ∙ e))
    (λ (v : (j : ℕ) × (first_fault (byte_faults m w b) ≡ refused j)).
    let same : refused v.0 ≡ refused k = sym (fault_first (byte_faults m w b) _ v.1) ∙ e in
    fault_first (byte_faults m' w b) _ (ap first_fault (sym (same_rows b s)) ∙ v.1) ∙ same)
    (verdicts (first_fault (byte_faults m w b)))

pub first_fault_decides : FirstFaultDecides
unfolding csv_faults line_of field_of after_cr
first_fault_decides bytes rest other k e = decided {y = rest} {z = other} k [] bytes
    (inr (record { line_is = refl; no_cr = refl; m_is = omega arith; m'_is = omega arith })) e
