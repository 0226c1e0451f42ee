-- The first line: asks, of which there may be any number up to 40.
use Rattle.std.proofs.Common.{◌≡◌, ℕ, suc, ◌+◌, ◌<◌, ◌≤◌, Bool, true, false, not, ◌&&◌, eqb, List, length, get_or, set}
use Rattle.std.proofs.Common.{sym, refl, ◌∙◌, inl, inr, ⊎_elim, add-one, arith, get_or-set_other, Ok, Err}
use Rattle.std.proofs.Common.{get_or-set_same, below_none, below_more, ne_eqb}
use Rattle.model.specs.Limits.{max_stations}
use Rattle.model.specs.Counting.{◌<?◌, ◌=?◌, ◌and◌, ◌or◌, only}
use Rattle.model.specs.declared.refusal.Refusal.{Refusal}
use Rattle.model.specs.declared.refusal.Refusal.TheVariants.{CountsOutOfRange, MalformedText}
use Rattle.model.specs.csv.Faults.{stations, fields_of, is_bid, is_narrow, most_by, most, is_missing}
use Rattle.model.specs.csv.Places.{starts_line}
use Rattle.model.specs.csv.Content.{value}
use Rattle.model.proofs.Tests.{clash, and_false, not_eq, not_lt, lt_or_le, eq_yes, eq_no}
use Rattle.market_csv.specs.Reached.{Place, past, Reached}
use Rattle.market_csv.specs.Ends.{AtEnd, FieldEnds, FieldIs, Open, ReadAs, FieldRead}
use Rattle.market_csv.specs.Rows.{FaultIs, AsksEnd}
use Rattle.market_csv.specs.declared.reader.Field.{Field}
use Rattle.market_csv.proofs.Reaching.{start, MayGoOn, MayEnd, comma_step, line_step, field_ends, line_starts}
use Rattle.market_csv.proofs.Reaching.{line_stations}
use Rattle.market_csv.proofs.Faulty.{comma_fault, cr_fault, many_asks}
use Rattle.market_csv.proofs.Takes.{missing_is}

pub record Asking (s asks : List ℕ) (p : Place) (j : ℕ) : Type 0 where
  pub few : j < 40
  pub same : p.text ≡ s
  pub reached : Reached s p.at 0 j j 0
  pub asks_are : (k : ℕ) → k < j → get_or asks k 0 ≡ value s k

pub asking_none : (p : Place) (asks : List ℕ) → p.at ≡ 0 → Asking p.text asks p 0
asking_none p asks z = record {
  few = omega arith;
  same = refl;
  reached = rw z (start p.text);
  asks_are = below_none (λ k. get_or asks k 0 ≡ value p.text k);
}

first_most : (j : ℕ) → 4_294_967_295 ≡ most 0 j
unfolding most most_by is_narrow ◌<?◌ ◌=?◌ ◌or◌ ◌and◌
first_most j = refl

first_fields_lem : (m : ℕ) → fields_of m 0 ≡ 0
unfolding fields_of only ◌<?◌
first_fields_lem m = omega arith

no_bid : (j : ℕ) → false ≡ is_bid 0 j
unfolding is_bid ◌<?◌ ◌and◌
no_bid j = refl

first_open : (s : List ℕ) (at : ℕ) → Open s at 0
unfolding ◌<?◌
first_open s at = inr (and_false _)

and_not : (e : Bool) → (e && not false) ≡ e
and_not true = refl
and_not false = refl

missing :
    {s : List ℕ} {j v : ℕ} {e : Bool} {end : ℕ} → FieldEnds s 0 j j v e end → is_missing (past s end) ≡ e
missing {j = j} {e = e} i = missing_is false i (no_bid j) ∙ and_not e

few_test : (j : ℕ) → (j + 1 ≡ max_stations → ⊥) → (0 =? 0 and j + 1 =? max_stations) ≡ false
unfolding ◌and◌ ◌=?◌
few_test j n = ne_eqb (j + 1) max_stations n

module _ {s : List ℕ} {j v : ℕ} {e : Bool} (end at : ℕ) (i : FieldEnds s 0 j j v e end) where
  -- a comma after the 40th ask
  comma_late : (b : Bool) → AtEnd s end b at → (not b && eqb (j + 1) max_stations) ≡ true → FaultIs s CountsOutOfRange
  unfolding AtEnd ◌=?◌
  comma_late false c t = many_asks i.reached c.there c.byte (eq_yes (j + 1) max_stations t) i.small
  comma_late true c t = absurd (clash t refl)

  -- an empty ask
  none_there :
      (b : Bool) → AtEnd s end b at → (not b && eqb (j + 1) max_stations) ≡ false → e ≡ true → FaultIs s MalformedText
  unfolding AtEnd ◌=?◌
  none_there false c t f =
      comma_fault i.reached c.there c.byte i.small (few_test j (eq_no (j + 1) max_stations t)) (omega arith)
      (inl (missing i ∙ f))
  none_there true c t f =
      cr_fault i.reached (omega (arith, c.there)) c.byte i.small (omega arith) (inl (missing i ∙ f))

  -- an ask, and a comma
  goes_on :
      (b : Bool) → AtEnd s end b at → b ≡ false → (not b && eqb (j + 1) max_stations) ≡ false → e ≡ false → j < 40
      → (v ≡ value s j) × Reached s at 0 (suc j) (suc j) 0 × (suc j < 40)
  unfolding AtEnd ◌or◌ ◌=?◌
  goes_on true c z t f h = absurd (clash refl z)
  goes_on false c z t f h =
      let n : j + 1 ≡ max_stations → ⊥ = eq_no (j + 1) max_stations t in
      let go : MayGoOn s end 0 j = record {
        small = i.small;
        few = few_test j n;
        before = omega arith;
        there = missing i ∙ f;
        not_last =
            not_eq (j + 1) _ (λ (z : j + 1 ≡ fields_of (stations s) 0). omega (arith, first_fields_lem (stations s)));
      } in
      let w = field_ends i.reached c.there (rw c.byte refl) in (
        i.value_is ∙ sym w.0,
        rw c.next (comma_step i.reached c.there c.byte go),
        ⊎_elim (λ (g : suc j < 40). g) (λ (g : 40 ≤ suc j). absurd (n (omega arith))) (lt_or_le (suc j) 40),
      )

  -- an ask, and a line end
  line_ends :
      (b : Bool) → AtEnd s end b at → b ≡ true → e ≡ false
      → (v ≡ value s j) × Reached s at 1 0 (suc j) 0 × (starts_line (past s at) ≡ true) × (stations s ≡ j + 1)
  unfolding AtEnd ◌or◌ ◌=?◌
  line_ends false c z f = absurd (clash z refl)
  line_ends true c z f =
      let hp : end < length s = omega (arith, c.there) in
      let go : MayEnd s end 0 j = record {
        small = i.small;
        before = omega arith;
        there = missing i ∙ f;
        enough = not_lt (j + 1) _ (omega (arith, first_fields_lem (stations s)));
      } in
      let w = field_ends i.reached hp (rw c.byte refl) in (
        i.value_is ∙ sym w.0,
        rw c.next (line_step i.reached c.there c.byte c.feed go),
        rw c.next (line_starts s (suc end) c.feed),
        line_stations i.reached hp c.byte refl,
      )

asks_more :
    (s asks : List ℕ) {j : ℕ} (v : ℕ) → ((k : ℕ) → k < j → get_or asks k 0 ≡ value s k) → v ≡ value s j
    → j < length asks → (k : ℕ) → k < j + 1 → get_or (set asks j v) k 0 ≡ value s k
asks_more s asks {j} v g e h = below_more (λ k. get_or (set asks j v) k 0 ≡ value s k) j
    (λ k l. get_or-set_other asks j k v 0 (omega arith) ∙ g k l) (get_or-set_same asks j v 0 h ∙ e)

module _ {s asks : List ℕ} {p : Place} {j : ℕ} (a : Asking s asks p j) (exit : Place) where
  pub ask_fault : (r : Refusal) → FieldRead p 4_294_967_295 exit (Err r) → FaultIs s r
  unfolding ReadAs
  ask_fault r f = rw a.same at (f 0 j j (rw a.same a.reached) (omega arith) (first_most j) (first_open _ _))

  module _ (x : Field) (f : FieldRead p 4_294_967_295 exit (Ok x)) where
    read : FieldIs s 0 j j exit x
    unfolding ReadAs
    read = rw a.same at (f 0 j j (rw a.same a.reached) (omega arith) (first_most j) (first_open _ _))

    pub late_ask : (not x.last && eqb (j + 1) max_stations) ≡ true → FaultIs s CountsOutOfRange
    late_ask t = let i = read in comma_late i.end exit.at i.ends x.last i.ender t

    pub empty_ask : (not x.last && eqb (j + 1) max_stations) ≡ false → x.empty ≡ true → FaultIs s MalformedText
    empty_ask t e = let i = read in none_there i.end exit.at i.ends x.last i.ender t e

    pub asking_turn :
        (not x.last && eqb (j + 1) max_stations) ≡ false → x.empty ≡ false → x.last ≡ false → j < length asks
        → Asking s (set asks j x.value) exit (j + 1)
    asking_turn t e l h =
        let i = read in
        let (v, r, few) = goes_on i.end exit.at i.ends x.last i.ender l t e a.few in
        let y : j + 1 ≡ suc j = add-one j in
        record {
          few = omega arith;
          same = i.same;
          reached = rw y r;
          asks_are = asks_more s asks x.value a.asks_are v h;
        }

    pub asks_end :
        x.empty ≡ false → x.last ≡ true → j < length asks → AsksEnd s (j + 1) exit (set asks j x.value)
    asks_end e l h =
        let i = read in
        let (v, r, starts, m) = line_ends i.end exit.at i.ends x.last i.ender l e in
        let y : j + 1 ≡ suc j = add-one j in
        record {
          stations_are = sym m;
          some = omega arith;
          few = omega (arith, a.few);
          starts = record { reached = rw y r; starts = starts; same = i.same };
          asks_are = asks_more s asks x.value a.asks_are v h;
        }
