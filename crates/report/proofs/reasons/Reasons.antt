-- The lines of guests' records, and how long they are at most.
use Prim.Native.Nat.{ℕ, ◌+◌, ◌*◌, ◌≤◌, ◌<◌}
use mathlib.Core.List.{List, ◌++◌}
use mathlib.Core.Path.{◌≡◌, refl, sym, ap, subst, ◌∙◌}
use native.Mathlib.Omega.{arith}
use lib.ListN.{get_or, length, length-append}
use Rattle.model.specs.Limits.{max_guests, max_page}
use Rattle.model.specs.Counting.{◌=?◌, joined}
use Rattle.model.specs.Numbers.{code_of, station_of, charge_of, loss_of, number}
use Rattle.model.specs.Verdicts.{accepted, refused}
use Rattle.model.specs.market.Market.{Tables}
use Rattle.model.specs.market.Faults.{verdict}
use Rattle.model.specs.market.Reasons.{guest_outcomes}
use Rattle.model.specs.text.Decimal.{field}
use Rattle.model.specs.text.Lines.{guest_word, charge_word, line_end}
use Rattle.model.specs.text.ReasonsText.{wins_word, loses_word}
use Rattle.model.specs.text.ReasonsText.{reason_word, win_line, loss_line, outcome_line, outcome_lines, reasons_text}
use Rattle.model.specs.text.MarketText.{reasons_page, reasons_page_of}
use Rattle.model.specs.declared.money.Mills.{Mills}
use Rattle.model.specs.declared.rule.Rule.{Rule}
use Rattle.model.specs.declared.refusal.Refusal.{Refusal}
use Rattle.std.specs.Prelude.{Ok, Err}
use Rattle.model.specs.declared.reason.Reason.{Reason}
use Rattle.model.specs.declared.reason.Reason.TheVariants.{NoBid, NotOpen, BelowCut, Outbid}
use Rattle.model.specs.declared.reason.GuestResult.{GuestResult}
use Rattle.model.specs.declared.reason.GuestResult.TheVariants.{Win, Loss}
use Rattle.model.specs.declared.reason.GuestOutcome.{GuestOutcome}
use Rattle.model.proofs.Promises.{was_accepted, was_refused}
use Rattle.model.proofs.sheet.Joined.{joined_cong}
use Rattle.sheet.specs.Wrote.{Wrote}
use Rattle.explain.specs.Explained.{told_by, answer_of_explaining, telling_under, ExplainedUnder}
use Rattle.explain.specs.Outcomes.{record_at}
use Rattle.explain.specs.declared.explained.OutcomeArrays.{OutcomeArrays}
use Rattle.explain.proofs.Answers.{market_verdict, told_under, shows_station, shows_charge}
use Rattle.explain.proofs.Answers.{shows_loss, outcomes_long}
use Rattle.report.specs.Records.{record_line}
use Rattle.report.proofs.text.Fields.{length_field}
use Rattle.report.proofs.lines.Lines.{joined_end}
use Rattle.report.proofs.printing.Printing.{prints}
use Rattle.report.specs.Tried.{Tried}

-- ---- reasons

pub reason_word_lem : (r : Reason) → length (reason_word (code_of r)) ≤ 17
unfolding reason_word ◌=?◌
reason_word_lem NoBid = omega arith
reason_word_lem NotOpen = omega arith
reason_word_lem BelowCut = omega arith
reason_word_lem Outbid = omega arith

loss_short : (g : ℕ) (r : Reason) → length (loss_line g (code_of r)) ≤ 60
unfolding loss_line
loss_short g r =
    omega (
      arith,
      length-append (field guest_word g ++ loses_word ++ reason_word (code_of r)) line_end,
      length-append (field guest_word g ++ loses_word) (reason_word (code_of r)),
      length-append (field guest_word g) loses_word,
      length_field guest_word g,
      reason_word_lem r,
    )

win_short : (g s c : ℕ) → length (win_line g s c) ≤ 89
unfolding win_line
win_short g s c =
    omega (
      arith,
      length-append (field guest_word g ++ field wins_word s ++ field charge_word c) line_end,
      length-append (field guest_word g ++ field wins_word s) (field charge_word c),
      length-append (field guest_word g) (field wins_word s),
      length_field guest_word g,
      length_field wins_word s,
      length_field charge_word c,
    )

-- ---- records

win_is : (g s : ℕ) (c : Mills) → record_line g (record { result = Win s c }) ≡ win_line g s c.0
unfolding record_line outcome_line station_of charge_of loss_of ◌=?◌
win_is g s c = refl

loss_line_lem : (g : ℕ) (r : Reason) → outcome_line g 0 0 (code_of r) ≡ loss_line g (code_of r)
unfolding outcome_line ◌=?◌
loss_line_lem g NoBid = refl
loss_line_lem g NotOpen = refl
loss_line_lem g BelowCut = refl
loss_line_lem g Outbid = refl

loss_is : (g : ℕ) (r : Reason) → record_line g (record { result = Loss r }) ≡ loss_line g (code_of r)
unfolding record_line station_of charge_of loss_of
loss_is g r = loss_line_lem g r

-- the line of a record, by its case
pub wrote_win :
    {l l' : List ℕ} {p q s : ℕ} {c : Mills} (g : ℕ) (o : GuestOutcome) → o.result ≡ Win s c
    → Wrote l p (win_line g s c.0) l' q → Wrote l p (record_line g o) l' q
wrote_win {l} {l'} {p} {q} {s} {c} g o e w =
    subst (λ t. Wrote l p t l' q)
    (sym (win_is g s c) ∙ ap (λ (r : GuestResult). record_line g (record { result = r })) (sym e)) w

pub wrote_loss :
    {l l' : List ℕ} {p q : ℕ} {r : Reason} (g : ℕ) (o : GuestOutcome) → o.result ≡ Loss r
    → Wrote l p (loss_line g (code_of r)) l' q → Wrote l p (record_line g o) l' q
wrote_loss {l} {l'} {p} {q} {r} g o e w =
    subst (λ t. Wrote l p t l' q)
    (sym (loss_is g r) ∙ ap (λ (x : GuestResult). record_line g (record { result = x })) (sym e)) w

pub record_short : (g : ℕ) (o : GuestOutcome) → length (record_line g o) ≤ 89
record_short g o = go o.result
  where
    go : (x : GuestResult) → length (record_line g (record { result = x })) ≤ 89
    go (Win s c) = rw (win_is g s c) (win_short g s c.0)
    go (Loss r) = rw (loss_is g r) (omega (arith, loss_short g r))

-- ---- the page

module _ (rule : Rule) (t : Tables) (e : OutcomeArrays) (few : e.guests ≤ max_guests)
    (guests : e.guests ≡ length t.amounts) (is : told_by e ≡ guest_outcomes rule t) where
  line_is :
      (k : ℕ) → k < length t.amounts
      → record_line (k + 1) (record_at e k)
      ≡ outcome_line (k + 1) (get_or (guest_outcomes rule t).stations k 0)
      (get_or (guest_outcomes rule t).charges k 0) (get_or (guest_outcomes rule t).reasons k 0)
  unfolding record_line
  line_is k l = λ x. outcome_line (k + 1) (shows_station rule t e few guests is k l x)
      (shows_charge rule t e few guests is k l x) (shows_loss rule t e few guests is k l x)

  lines_are :
      joined e.guests (λ k. record_line (k + 1) (record_at e k)) ≡ reasons_text (guest_outcomes rule t)
  unfolding reasons_text outcome_lines
  lines_are =
      ap (λ n. joined n (λ k. record_line (k + 1) (record_at e k))) guests
      ∙ joined_cong (length t.amounts) _ _ (λ k l. line_is k l)
      ∙ ap (outcome_lines (guest_outcomes rule t)) (sym (outcomes_long rule t).0)

module _ (rule : Rule) (t : Tables) (n : ℕ) (table table' : List ℕ)
    (codes : length table ≡ length t.amounts * length t.asks) (outcomes : n ≡ length t.amounts) where
  pub tried_unexplained :
      (l : List ℕ) (x : Refusal) → ExplainedUnder rule t n table (Err x) table'
      → Tried (reasons_page_of (guest_outcomes rule) t) l (Err x) l
  unfolding Tried reasons_page_of reasons_page answer_of_explaining telling_under
  tried_unexplained l x s =
      let v : verdict t ≡ refused (number x)
      = sym (market_verdict t (length table) n codes outcomes) ∙ (was_refused s refl).0 in
      (rw v refl, refl)

  pub tried_explained :
      {l l' : List ℕ} {q : ℕ} (e : OutcomeArrays) → ExplainedUnder rule t n table (Ok e) table'
      → Wrote l 0 (joined e.guests (λ k. record_line (k + 1) (record_at e k))) l' q
      → Tried (reasons_page_of (guest_outcomes rule) t) l (Ok q) l'
  unfolding Tried reasons_page_of reasons_page answer_of_explaining telling_under
  tried_explained e s w =
      let v : verdict t ≡ accepted tt
      = sym (market_verdict t (length table) n codes outcomes) ∙ (was_accepted s refl).0 in
      let (few, guests, told) = told_under rule t n table e s in
      let lines = lines_are rule t e few guests told in
      let short = joined_end _ 89 (λ k. record_short _ _) e.guests w in
      let long : length (joined e.guests (λ k. record_line (k + 1) (record_at e k))) ≤ max_page
      = omega (arith, w.next, few) in
      rw v (prints (rw lines at w) (rw lines at long))
