-- The limits of documents 01 and 02. The constants in src/limits.rt are proved to be these: `stated_limits` there
-- answers `limits` here.
use Rattle.std.specs.Prelude.{ℕ, ◌*◌}
use Rattle.model.specs.declared.limits.Limits.{Limits}

abbrev pub max_guests : ℕ
max_guests = 200

abbrev pub max_stations : ℕ
max_stations = 40

-- of an ask, a bid and a stated price, in mills per kWh, and of a fall, in mills per tenth of a cell
abbrev pub max_price : ℕ
max_price = 1_000_000

-- of a guest, in kWh
abbrev pub max_amount : ℕ
max_amount = 1_000

-- of a station, in bays
abbrev pub max_bays : ℕ
max_bays = 200

-- of any account or kWh sum of the book
abbrev pub max_account : ℕ
max_account = 1_000_000_000_000_000

-- the last round number there is
abbrev pub max_round : ℕ
max_round = 4_294_967_295

-- the desks that share a book; they are numbered from 0
abbrev pub max_desks : ℕ
max_desks = 8

-- the places of the reader's bid table
abbrev pub max_bids : ℕ
max_bids = max_guests * max_stations

-- no sheet is longer: 4 bytes, 40 stations of 6, and 200 rows of 2 + 4 + 5 + 40 * 4 (`SheetsAreShort`)
abbrev pub max_sheet : ℕ
max_sheet = 34_444

-- a bound on the length of a printed page: a sheet, or a text, which is shorter (the cut, 200 guests, 40 stations and
-- the margin have 20,093 bytes where each number is taken as 20 digits)
abbrev pub max_page : ℕ
max_page = max_sheet

-- of a cell's coordinates, and of the squared distance of two cells
abbrev pub max_cell : ℕ
max_cell = 31

abbrev pub max_squared_distance : ℕ
max_squared_distance = 1_922

abbrev pub limits : Limits
limits = record {
  guests = max_guests;
  stations = max_stations;
  price = max_price;
  amount = max_amount;
  bays = max_bays;
  account = max_account;
  round = max_round;
  desks = max_desks;
  bids = max_bids;
  sheet = max_sheet;
  page = max_page;
  cell = max_cell;
  square = max_squared_distance;
}
