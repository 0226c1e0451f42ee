-- Request 8 over calls, proved: a market has one sheet, and the writer makes it.
use Prim.Native.Nat.{ℕ}
use mathlib.Core.List.{List}
use mathlib.Core.Path.{◌≡◌, sym, ◌∙◌, subst}
use lib.ListN.{length}
use Rattle.model.specs.Numbers.{answer_of_reading}
use Rattle.model.specs.market.Market.{Tables}
use Rattle.model.specs.sheet.Layout.{States, Bytes}
use Rattle.model.specs.sheet.Shortest.{shortest, written}
use Rattle.model.specs.sheet.Content.{read_sheet}
use Rattle.model.specs.clauses.EntryPoints.{reading, writing}
use Rattle.model.specs.claims.Writings.{Gave, Took}
use Rattle.model.specs.claims.OneSheet.{EmptyBidIsTurnedAway, StatedIsGiven, ReadFromOneSheet}
use Rattle.model.specs.claims.OneSheet.{TakenExactlyIfGiven, ReadIsWritten, EmptyBidCallExists, TookAndGaveExist}
use Rattle.std.specs.Prelude.{Err}
use Rattle.model.specs.declared.refusal.Refusal.TheVariants.{EmptyBid}
use Rattle.model.proofs.Verdicts.{giving_accepted, giving_refused, gave_refused, updated_accepted}
use Rattle.model.proofs.Verdicts.{updated_refused}
use Rattle.model.proofs.Promises.{keeps_refused}
use Rattle.model.proofs.claims.Sheets.{zeros, zeros_sized, sheet_verdict}
use Rattle.model.proofs.claims.Writings.{writing_accepted_iff_within_limits, gave, took_states, gave_exists}
use Rattle.model.proofs.claims.Writings.{took_exists}
use Rattle.model.proofs.sheet.Bytes.{stated_is_bytes}
use Rattle.model.proofs.sheet.Shortest.{words, shortest_states, stated_is_shortest}
use Rattle.model.proofs.sheet.Truth.{empty_bid_is_refused}

pub empty_bid_is_turned_away : EmptyBidIsTurnedAway
unfolding reading read_sheet
empty_bid_is_turned_away t set i j entry exit answer g l k b z right c =
    let v = sheet_verdict _ entry right ∙ gave_refused _ _ 19 (empty_bid_is_refused t set i j g l k b z) in
    (c.answered ∙ giving_refused _ 19 v, c.left ∙ updated_refused _ _ 19 v)

pub stated_is_given : StatedIsGiven
stated_is_given s s' t w g = (gave t s' g).1 ∙ sym (stated_is_shortest s t w)

-- a sheet that was read is the writer's
took_shortest : (s : List ℕ) (t : Tables) → Bytes s → Took s t → s ≡ shortest t
took_shortest s t y c = stated_is_shortest s t (took_states s t y c)

pub read_from_one_sheet : ReadFromOneSheet
read_from_one_sheet s s' t y y' c c' = took_shortest s' t y' c' ∙ sym (took_shortest s t y c)

pub taken_exactly_if_given : TakenExactlyIfGiven
taken_exactly_if_given s t y = (
  (λ w. subst (λ s. Gave t s) (sym (took_shortest s t y w.0))
      (gave_exists t w.1 (words t (took_states s t y w.0).fitting))),
  (λ g. let (a, e) = gave t s g in
      (took_exists s t (subst (λ s. States s t) (sym e) (shortest_states t a g.tickets_are)), a)),
)

pub read_is_written : ReadIsWritten
unfolding writing written
read_is_written s t entry exit answer y c a room called =
    let e = took_shortest s t y c in
    let v = (writing_accepted_iff_within_limits t (length entry)).1 (a, rw (← e) room) in
    rw e (called.answered ∙ giving_accepted _ v, called.left ∙ updated_accepted _ _ v)

pub empty_bid_call_exists : EmptyBidCallExists
unfolding reading read_sheet answer_of_reading
empty_bid_call_exists t set i j g l k b z =
    let v = sheet_verdict _ zeros zeros_sized ∙ gave_refused _ _ 19 (empty_bid_is_refused t set i j g l k b z) in
    (zeros, Err EmptyBid, zeros_sized, keeps_refused v)

pub took_and_gave_exist : TookAndGaveExist
took_and_gave_exist t a w =
    let states = shortest_states t a w in
    (stated_is_bytes (shortest t) t states, states, took_exists (shortest t) t states, gave_exists t a w)
