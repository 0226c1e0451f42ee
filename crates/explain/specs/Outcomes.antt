-- A guest's record. Nothing that the export promises depends on this file.
use Rattle.std.specs.Prelude.{ℕ, cond, get_or}
use Rattle.model.specs.Limits.{max_guests}
use Rattle.model.specs.Counting.{◌<?◌, ◌=?◌, only}
use Rattle.model.specs.declared.money.Mills.{Mills}
use Rattle.model.specs.declared.reason.Reason.{Reason}
use Rattle.model.specs.declared.reason.Reason.TheVariants.{NoBid, NotOpen, BelowCut, Outbid}
use Rattle.model.specs.declared.reason.GuestResult.TheVariants.{Win, Loss}
use Rattle.model.specs.declared.reason.GuestOutcome.{GuestOutcome}
use Rattle.explain.specs.declared.explained.OutcomeArrays.{OutcomeArrays}

-- the reason of a code from 1 to 4
unfoldable pub reason_of : ℕ → Reason
reason_of k = cond (k =? 1) NoBid (cond (k =? 2) NotOpen (cond (k =? 3) BelowCut Outbid))

-- a win has no code
unfoldable pub record_of : (station : ℕ) (charge : Mills) (loss : ℕ) → GuestOutcome
record_of station charge loss = record { result = cond (loss =? 0) (Win station charge) (Loss (reason_of loss)) }

-- guest i's record
abbrev pub mills : ℕ → Mills
mills x = record { 0 = x }

unfoldable pub record_at : OutcomeArrays → ℕ → GuestOutcome
record_at e i =
    record_of (only (i <? max_guests) (get_or e.stations i 0)) (mills (only (i <? max_guests) (get_or e.charges i 0)))
    (only (i <? max_guests) (get_or e.reasons i 0))
