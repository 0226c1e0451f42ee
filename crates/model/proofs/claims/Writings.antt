-- Request 1 over calls, proved: what was written is the shortest sheet, what was taken is what the sheet is read as.
use Prim.Native.Nat.{ℕ, ◌+◌, ◌*◌}
use mathlib.Core.List.{List}
use mathlib.Core.Path.{◌≡◌, refl, sym, ap, ap₂, ◌∙◌, subst}
use native.Mathlib.Nat.{le_refl}
use native.Mathlib.Omega.{arith}
use lib.ListN.{length, take}
use lib.Seq.{paste, take-paste, take_all}
use Rattle.model.specs.Numbers.{answer_of_writing}
use Rattle.model.specs.Verdicts.{accepted}
use Rattle.model.specs.market.Market.{Tables}
use Rattle.model.specs.market.Faults.{Accepted, market_faults, verdict}
use Rattle.model.specs.sheet.Content.{tables_of, read_sheet}
use Rattle.model.specs.sheet.Layout.{States, Bytes}
use Rattle.model.specs.sheet.Shortest.{shortest, writing_faults, written}
use Rattle.model.specs.sheet.Lent.{LentTables, reading_faults, table_lengths, filled}
use Rattle.model.specs.clauses.EntryPoints.{reading, writing}
use Rattle.model.specs.claims.Writings.{WritingAcceptedIffWithinLimits, Gave, market_in, Took, WrittenIsRead}
use Rattle.model.specs.claims.Writings.{WrittenAsRead, SecondAltersNothing, GaveExists, TookExists}
use Rattle.std.specs.Prelude.{Ok}
use Rattle.model.proofs.Tests.{lt_no, not_lt}
use Rattle.model.proofs.Verdicts.{fault_none, no_fault, no_faults, fault_second, fault_free, giving_accepted}
use Rattle.model.proofs.Promises.{keeps_accepted, was_accepted}
use Rattle.model.proofs.claims.Sheets.{stated_is_read, read_call_exists}
use Rattle.model.proofs.sheet.Shortest.{shortest_states, shortest_is_read, stated_is_shortest}
use Rattle.model.proofs.sheet.Truth.{tables_are, reads_exactly_what_is_stated}

pub writing_accepted_iff_within_limits : WritingAcceptedIffWithinLimits
unfolding writing_faults verdict
writing_accepted_iff_within_limits t room = (
  (λ e. let (market, row) = no_faults (market_faults t) _ e in (market, lt_no _ _ (no_fault _ _ _ row).0)),
  (λ w. fault_second (market_faults t) _ w.0 ∙ fault_free _ _ (not_lt _ _ w.1) fault_none),
)

-- the first places of what is pasted from the start
first_places : (xs l : List ℕ) (n : ℕ) → n ≡ length xs → take n (paste l 0 xs (length xs)) ≡ xs
first_places xs l n e =
    let z : 0 + length xs ≡ n = omega arith in
    rw (← z) (take-paste l 0 xs (length xs) (omega arith) (omega arith) ∙ take_all (length xs) xs (omega arith))

-- ---- what a call of `write` gave

pub gave : (t : Tables) (s : List ℕ) → Gave t s → Accepted t × (s ≡ shortest t)
unfolding writing written
gave t s g =
    let (v, long, full) = was_accepted g.called g.answered in (
      ((writing_accepted_iff_within_limits t _).0 v).0,
      g.is ∙ ap (take (length s)) full ∙ first_places (shortest t) g.entry (length s) (sym long),
    )

-- ---- what a call of `read` took

pub market_filled :
    (t : Tables) (l : LentTables) (n m : ℕ) → n ≡ length t.amounts → m ≡ length t.asks
    → length t.tickets ≡ length t.amounts → length t.bays ≡ length t.asks
    → length t.bids ≡ length t.amounts * length t.asks → t.width ≡ length t.asks
    → market_in (filled t l) n m ≡ t
unfolding filled
market_filled t l n m e f tickets bays bids width = λ i. record {
  asks = first_places t.asks l.asks m f i;
  bays = first_places t.bays l.bays m (f ∙ sym bays) i;
  amounts = first_places t.amounts l.amounts n e i;
  tickets = first_places t.tickets l.tickets n (e ∙ sym tickets) i;
  bids = first_places t.bids l.bids (n * m) (ap₂ ◌*◌ e f ∙ sym bids) i;
  width = (f ∙ sym width) i;
}

pub took : (s : List ℕ) (t : Tables) → Took s t → read_sheet s ≡ accepted t
unfolding reading read_sheet reading_faults table_lengths
took s t c =
    let (v, counts, FilledIn) = was_accepted c.called c.answered in
    let are = tables_are s in
    giving_accepted _ (no_fault _ _ _ v).1
    ∙ ap accepted (sym (c.is ∙ ap (λ l. market_in l c.n c.m) FilledIn
    ∙ market_filled (tables_of s) c.entry c.n c.m (ap (λ p. p.0) (sym counts) ∙ sym are.n_is)
    (ap (λ p. p.1) (sym counts) ∙ sym are.m_is) are.tickets_long are.bays_long are.bids_long
    are.width_is))

-- ---- the statements

pub written_is_read : WrittenIsRead
written_is_read t s entry exit answer g z c =
    let (a, e) = gave t s g in
    stated_is_read s t entry exit answer z c (subst (λ s. States s t) (sym e) (shortest_states t a g.tickets_are))

-- a sheet that was read states what was taken
pub took_states : (s : List ℕ) (t : Tables) → Bytes s → Took s t → States s t
took_states s t y c = (reads_exactly_what_is_stated s t y).0 (took s t c)

pub written_as_read : WrittenAsRead
written_as_read s s' t y c g = (gave t s' g).1 ∙ sym (stated_is_shortest s t (took_states s t y c))

pub second_alters_nothing : SecondAltersNothing
second_alters_nothing t u s s' g c h =
    let (a, e) = gave t s g in
    let same : accepted u ≡ accepted t = sym (took s u c) ∙ ap read_sheet e
    ∙ shortest_is_read t a g.tickets_are in
    let is : u ≡ t = cc in
    (is, (gave u s' h).1 ∙ ap shortest is ∙ sym e)

-- ---- there are such calls

pub gave_exists : GaveExists
unfolding writing written answer_of_writing
gave_exists t a w =
    let v = (writing_accepted_iff_within_limits t (length (shortest t))).1 (a, le_refl _) in
    record {
      tickets_are = w;
      entry = shortest t;
      exit = written t (shortest t);
      answer = Ok (length (shortest t));
      called = keeps_accepted v refl refl;
      answered = refl;
      is = sym (first_places (shortest t) (shortest t) (length (shortest t)) refl);
    }

pub took_exists : TookExists
took_exists s t h =
    let c = read_call_exists s t h in
    let f = h.fitting.shape in
    record {
      entry = c.entry;
      exit = c.exit;
      answer = c.answer;
      n = length t.amounts;
      m = length t.asks;
      called = c.call;
      answered = c.read.answered;
      is = sym (ap (λ l. market_in l (length t.amounts) (length t.asks)) c.read.left
          ∙ market_filled t c.entry _ _ refl refl f.tickets_length f.bays_length f.bids_length
          f.width_is);
    }
