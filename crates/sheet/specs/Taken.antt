-- What taking fields promises. Nothing that `sheet::read` promises depends on this file.
use Rattle.std.specs.Prelude.{ℕ, ◌+◌, ◌*◌, ◌≤◌, ◌<◌, Bool, List, ◌≡◌, length}
use Rattle.model.specs.Counting.{some}
use Rattle.model.specs.sheet.Fields.{little_endian}
use Rattle.model.specs.sheet.Rows.{is_empty}
use Rattle.sheet.specs.declared.fields.Cursor.{Cursor}

-- at the start of the sheet s
pub record Started (s : List ℕ) (to : Cursor) : Type 0 where
  pub place : to.at ≡ 0
  pub sheet : to.sheet.now ≡ s

-- k bytes on in the same sheet
pub record Moved (from : Cursor) (k : ℕ) (to : Cursor) : Type 0 where
  pub place : to.at ≡ from.at + k
  pub sheet : to.sheet.now ≡ from.sheet.now

-- the field of the next k bytes is x
pub record Taken (from : Cursor) (k x : ℕ) (to : Cursor) : Type 0 where
  pub value : x ≡ little_endian from.sheet.now from.at k
  pub moved : Moved from k to

-- whether one of the next k bids is 0
pub record Scanned (from : Cursor) (k : ℕ) (empty : Bool) (to : Cursor) : Type 0 where
  pub found : empty ≡ some k (λ i. is_empty from.sheet.now (from.at + 4 * i))
  pub moved : Moved from (4 * k) to

-- of the next n fields of 4 bytes the first k are whole; where these are not all, the sheet ends inside the next
pub record Whole (from : Cursor) (n k : ℕ) : Type 0 where
  pub few : k ≤ n
  pub within : from.at + 4 * k ≤ length from.sheet.now
  pub ends : k < n → length from.sheet.now < from.at + 4 * k + 4
