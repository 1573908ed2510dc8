-- Where in a file a reader stands, and how its scanner moves it on.
use Rattle.std.specs.Prelude.{ℕ, ◌+◌, ◌-◌, ◌<◌, ◌≤◌, false, List, length}
use Rattle.planar_code.specs.Reading.{input_limit}
use Rattle.planar_code.specs.Front.{IsCounted}
use Rattle.planar_code.specs.State.{State}
use Rattle.planar_code.specs.Scan.{Scan}
use Rattle.planar_code.specs.declared.record_scanner.Scanned.{Scanned}
use Rattle.planar_code.specs.declared.record_scanner.Scanned.TheVariants.{More, Ended, Bad}
use Rattle.planar_code.specs.declared.record_reader.Taken.{Taken}
use Rattle.planar_code.specs.declared.record_reader.Taken.TheVariants.{More as TakenMore, Ended as TakenEnded, Bad as TakenBad}
use Rattle.planar_code.specs.declared.record_reader.Place.{Place}

-- what contracts see of a reader with these parts
abbrev pub state_of : Scan → Place → State
state_of scan place =
    record { pending = scan.bytes; start = place.start; header_may_come = place.header_may_come; lists = scan.lists }

-- the place behind bytes that ended no header
abbrev pub moved : Place → Scanned → Place
moved place (More k) = record place { pending_len = place.pending_len + k }
moved place (Ended k) =
    record { start = place.start + (place.pending_len + k); header_may_come = false; pending_len = 0; in_header = false }
moved place (Bad k) = record place { pending_len = place.pending_len + (k - 1) }

-- what the reader answers of them
abbrev pub told : Place → Scanned → Taken
told place (More k) = TakenMore
told place (Ended k) = TakenEnded k
told place (Bad k) = TakenBad k place.start

-- a reader with these parts may take a piece: there is room for it, and the file stays within its limit
pub record CanRead (scan : Scan) (place : Place) (piece : List ℕ) : Type 0 where
  pub counted : IsCounted place.header_may_come scan.bytes place.pending_len place.in_header
  pub room : length piece ≤ scan.room
  pub limit : place.start + place.pending_len + length piece ≤ input_limit

-- a bad count is at least one byte
abbrev pub HasByte : Scanned → Type 0
HasByte (More k) = Unit {0}
HasByte (Ended k) = Unit {0}
HasByte (Bad k) = 0 < k
