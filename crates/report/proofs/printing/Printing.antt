-- A written page is what is promised: of a refusal, of a cleared market, of a written sheet.
use Prim.Native.Nat.{ℕ, ◌≤◌}
use mathlib.Core.List.{List, ◌++◌}
use mathlib.Core.Path.{◌≡◌, refl, sym, ap, ◌∙◌}
use native.Mathlib.Nat.{min-eq_left}
use native.Mathlib.Omega.{arith}
use lib.ListN.{length, length-append}
use lib.Seq.{paste}
use Rattle.model.specs.Limits.{max_guests, max_stations}
use Rattle.model.specs.Verdicts.{refused}
use Rattle.model.specs.market.Market.{Tables, market, market_by, screen}
use Rattle.model.specs.market.Outcome.{Results, Outcome, outcome_by, screened, outcome, efficient_outcome, outcome_in}
use Rattle.model.specs.market.Outcome.{outcome_of}
use Rattle.model.specs.declared.rule.Rule.{Rule}
use Rattle.model.specs.market.Faults.{verdict}
use Rattle.model.specs.declared.mechanism.Mechanism.{Mechanism}
use Rattle.model.specs.declared.mechanism.Mechanism.TheVariants.{Truthful, Efficient}
use Rattle.model.proofs.Counting.{length_list}
use Rattle.model.specs.text.Decimal.{field}
use Rattle.sheet.specs.Wrote.{Wrote}
use Rattle.report.proofs.text.Fields.{length_field}
use Rattle.sheet.proofs.Wrote.{wrote_all}
use Rattle.model.specs.text.Lines.{line_end, guest_lines, station_lines}
use Rattle.report.proofs.lines.Lines.{length_guest_lines, length_station_lines}
use Rattle.model.specs.text.Text.{cut_word, margin_word, refused_word, text, refusal_text}
use Rattle.model.proofs.clauses.Clears.{ClearedAs}
use Rattle.model.specs.text.MarketText.{market_text, market_text_of, sheet_page, sheet_page_of}
use Rattle.model.specs.clauses.Prints.{Prints}
use Rattle.model.specs.Limits.{max_page}
use Rattle.model.specs.Numbers.{number}
use Rattle.model.specs.declared.refusal.Refusal.{Refusal}
use Rattle.std.specs.Prelude.{Result, Ok, Err}
use Rattle.report.specs.Tried.{Tried}
use Rattle.model.specs.sheet.Shortest.{shortest, written}
use Rattle.model.specs.clauses.EntryPoints.{Writes}
use Rattle.model.proofs.claims.Writings.{writing_accepted_iff_within_limits}
use Rattle.model.proofs.clauses.Writes.{told_refused, told_written}
use Rattle.model.proofs.sheet.Shortest.{shortest_fits}

pub prints : {t l l' : List ℕ} {q : ℕ} → Wrote l 0 t l' q → length t ≤ max_page → Prints t l q l'
prints {t} {l} {l'} {q} w h =
    record { buffer_is = wrote_all l t l' q w; length_is = omega (arith, w.next); fits = omega (arith, w.next) }

pub length_refusal : (k : ℕ) → length (refusal_text k) ≤ max_page
unfolding refusal_text
length_refusal k = omega (arith, length-append (field refused_word k) line_end, length_field refused_word k)

length_text :
    (o : Outcome) → length o.results.stations ≤ max_guests → length o.results.sold ≤ max_stations
    → length (text o) ≤ max_page
unfolding text
length_text o n m =
    let g = guest_lines o.results.stations o.results.charges (length o.results.stations) in
    let s = station_lines o.results.sold o.results.paid (length o.results.sold) in
    omega (
      arith,
      length-append (field cut_word o.cut ++ line_end ++ g ++ s ++ field margin_word o.margin) line_end,
      length-append (field cut_word o.cut ++ line_end ++ g ++ s) (field margin_word o.margin),
      length-append (field cut_word o.cut ++ line_end ++ g) s,
      length-append (field cut_word o.cut ++ line_end) g,
      length-append (field cut_word o.cut) line_end,
      length_field cut_word o.cut,
      length_field margin_word o.margin,
      length_guest_lines o.results.stations o.results.charges (length o.results.stations),
      length_station_lines o.results.sold o.results.paid (length o.results.sold),
    )

-- a refusal of what was tried, before anything was written
pub prints_fault :
    {t l l' l'' : List ℕ} {q : ℕ} (x : Refusal) → Tried t l (Err x) l' → Wrote l' 0 (refusal_text (number x)) l'' q
    → Prints t l q l''
unfolding Tried
prints_fault x f w = rw f.0 (prints (rw f.1 at w) (length_refusal (number x)))

pub tried_refused :
    (l : List ℕ) (made : Tables → Outcome) (t : Tables) (x : Refusal) → verdict t ≡ refused (number x)
    → Tried (market_text_of made t) l (Err x) l
unfolding Tried market_text_of market_text
tried_refused l made t x e = (rw e refl, refl)

outcome_lengths_lem :
    (x : Mechanism) (rule : Rule) (t : Tables) → let r = (outcome_in x rule t).results in
    (length r.stations ≡ length t.amounts) × (length r.sold ≡ length t.asks)
unfolding outcome_in outcome efficient_outcome outcome_by screened market market_by screen
outcome_lengths_lem Truthful rule t = (length_list _ _, length_list _ _)
outcome_lengths_lem Efficient rule t = (length_list _ _, length_list _ _)

pub tried_cleared :
    {l l' : List ℕ} {q : ℕ} (x : Mechanism) (rule : Rule) (t : Tables) (k m : ℕ) (exit : Results)
    → ClearedAs (outcome_in x rule) t k m exit → length t.amounts ≤ max_guests → length t.asks ≤ max_stations
    → Wrote l 0 (text (outcome_of k m exit.stations exit.charges exit.sold exit.paid)) l' q
    → Tried (market_text_of (outcome_in x rule) t) l (Ok q) l'
unfolding Tried market_text_of market_text
tried_cleared x rule t k m exit c n s w =
    let o : outcome_of k m exit.stations exit.charges exit.sold exit.paid ≡ outcome_in x rule t = λ i.
    record { cut = c.cut_is i; margin = c.margin_is i; results = c.results_are i } in
    let (a, b) = outcome_lengths_lem x rule t in
    rw c.is_accepted (prints (rw o at w) (length_text (outcome_in x rule t) (omega arith) (omega arith)))

-- ---- sheets

pub tried_sheet :
    (t : Tables) (l l' : List ℕ) (answer : Result ℕ Refusal) → Writes t l answer l'
    → Tried (sheet_page_of (length l) t) l answer l'
unfolding Tried sheet_page_of sheet_page written
tried_sheet t l l' (Ok n) c =
    let (v, long, is) = told_written t l l' (Ok n) c n refl in
    let (a, room) = (writing_accepted_iff_within_limits t (length l)).0 v in
    rw v (record {
      buffer_is = is ∙ ap (paste l 0 (shortest t)) (sym (min-eq_left room));
      length_is = sym long;
      fits = rw (← long) (shortest_fits t a);
    })
tried_sheet t l l' (Err x) c = let (v, same) = told_refused t l l' (Err x) c x refl in (rw v refl, same)
