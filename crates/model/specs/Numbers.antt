-- Document 01's number and values for each answer of a call.
use Rattle.std.specs.Prelude.{ℕ, ℤ, Bool, Result, Ok, Err}
use Rattle.model.specs.Counting.{only}
use Rattle.model.specs.Verdicts.{Answer, accepted, refused}
use Rattle.model.specs.declared.answers.Counts.{Counts}
use Rattle.model.specs.declared.answers.Figures.{Figures}
use Rattle.model.specs.declared.answers.Gains.{Gains}
use Rattle.model.specs.declared.reason.Reason.{Reason}
use Rattle.model.specs.declared.reason.Reason.TheVariants.{NoBid, NotOpen, BelowCut, Outbid}
use Rattle.model.specs.declared.reason.GuestResult.{GuestResult}
use Rattle.model.specs.declared.reason.GuestResult.TheVariants.{Win, Loss}
use Rattle.model.specs.declared.refusal.Refusal.{Refusal}
use Rattle.model.specs.declared.refusal.Refusal.TheVariants.{SheetEnds, CountsOutOfRange, StrayBit}
use Rattle.model.specs.declared.refusal.Refusal.TheVariants.{TrailingBytes, LengthsDiffer, AskOutOfRange}
use Rattle.model.specs.declared.refusal.Refusal.TheVariants.{BaysOutOfRange, AmountOutOfRange, BidOutOfRange}
use Rattle.model.specs.declared.refusal.Refusal.TheVariants.{LentLengths, RoundOutOfTurn, AccountOverLimit}
use Rattle.model.specs.declared.refusal.Refusal.TheVariants.{BookSize, OutputTooShort, TicketsRepeat}
use Rattle.model.specs.declared.refusal.Refusal.TheVariants.{CellOffGrid, PriceOrFallOutOfRange, UnknownRule}
use Rattle.model.specs.declared.refusal.Refusal.TheVariants.{EmptyBid, StationsDiffer, TicketInBoth}
use Rattle.model.specs.declared.refusal.Refusal.TheVariants.{MalformedText, FieldTooLarge}
use Rattle.model.specs.declared.refusal.Refusal.TheVariants.{NoSuchGuest, DeskOutOfRange}

abbrev pub number : Refusal → ℕ
number SheetEnds = 1
number CountsOutOfRange = 2
number StrayBit = 3
number TrailingBytes = 4
number LengthsDiffer = 5
number AskOutOfRange = 6
number BaysOutOfRange = 7
number AmountOutOfRange = 8
number BidOutOfRange = 9
number LentLengths = 10
number RoundOutOfTurn = 11
number AccountOverLimit = 12
number BookSize = 13
number OutputTooShort = 14
number TicketsRepeat = 15
number CellOffGrid = 16
number PriceOrFallOutOfRange = 17
number UnknownRule = 18
number EmptyBid = 19
number StationsDiffer = 20
number TicketInBoth = 21
number MalformedText = 22
number FieldTooLarge = 23
number NoSuchGuest = 24
number DeskOutOfRange = 25

-- of the reader: n and m
unfoldable pub answer_of_reading : Result Counts Refusal → Answer (ℕ × ℕ)
answer_of_reading (Ok counts) = accepted (counts.guests, counts.stations)
answer_of_reading (Err r) = refused (number r)

-- of the writer: the sheet's length
unfoldable pub answer_of_writing : Result ℕ Refusal → Answer ℕ
answer_of_writing (Ok length) = accepted length
answer_of_writing (Err r) = refused (number r)

-- of a clearing: the cut and the margin
unfoldable pub answer_of_clearing : Result Figures Refusal → Answer (ℕ × ℕ)
answer_of_clearing (Ok figures) = accepted (figures.cut.0, figures.margin.0)
answer_of_clearing (Err r) = refused (number r)

-- of a row that is tried: both gains
unfoldable pub answer_of_trying : Result Gains Refusal → Answer (ℤ × ℤ)
answer_of_trying (Ok gains) = accepted (gains.first, gains.second)
answer_of_trying (Err r) = refused (number r)

-- of a clearing that is handed in: 1 where it is correct, else 0
unfoldable pub answer_of_marking : Result Bool Refusal → Answer ℕ
answer_of_marking (Ok correct) = accepted (only correct 1)
answer_of_marking (Err r) = refused (number r)

-- of a posting, of placing bids, and of every check
unfoldable pub answer_of_verdict : Result Unit Refusal → Answer Unit
answer_of_verdict (Ok done) = accepted tt
answer_of_verdict (Err r) = refused (number r)

-- of a check that gives what it has checked
unfoldable pub answer_of_check : {A : Type 0} → Result A Refusal → Answer Unit
answer_of_check (Ok checked) = accepted tt
answer_of_check (Err r) = refused (number r)

-- of a reason: its code (document 02, request 7)
abbrev pub code_of : Reason → ℕ
code_of NoBid = 1
code_of NotOpen = 2
code_of BelowCut = 3
code_of Outbid = 4

-- of a guest's outcome: the station and charge of a win, the code of a loss; 0 where there is none
unfoldable pub station_of : GuestResult → ℕ
station_of (Win station charge) = station
station_of (Loss reason) = 0

unfoldable pub charge_of : GuestResult → ℕ
charge_of (Win station charge) = charge.0
charge_of (Loss reason) = 0

unfoldable pub loss_of : GuestResult → ℕ
loss_of (Win station charge) = 0
loss_of (Loss reason) = code_of reason
