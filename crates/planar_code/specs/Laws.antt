-- Laws on how inputs are read.
use Rattle.std.specs.Prelude.{ℕ, ◌+◌, ◌≡◌, List, ◌++◌, length}
use Rattle.map_lists.specs.Lists.{Lists}
use Rattle.planar_code.specs.Reading.{IsRecord, IsReading, Ending}
use Rattle.planar_code.specs.Step.{StandsAt, FailsAt}
use Rattle.planar_code.specs.declared.whole_input.Step.{Step}
use Rattle.planar_code.specs.declared.whole_input.Step.TheVariants as found
use Rattle.planar_code.specs.declared.whole_input.CodeFault.{CodeFault}
use Rattle.planar_code.specs.declared.whole_input.CodeFault.TheVariants.{NoMemory}

-- each input is read in one way at most
abbrev pub OneReading : Type 0
OneReading =
    (input : List ℕ) (records records' : List Lists) (ending ending' : Ending) → IsReading input records ending → IsReading input records' ending'
    → (records ≡ records') × (ending ≡ ending')

-- each input is read in one way at least
abbrev pub EachInputIsRead : Type 0
EachInputIsRead = (input : List ℕ) → (records : List Lists) × (ending : Ending) × IsReading input records ending

-- A record is read wherever it stands, and whatever follows it: no other step is at its first byte, and no fault but out of memory.
abbrev pub RecordIsRead : Type 0
RecordIsRead =
    (front bytes rest : List ℕ) (lists : Lists) → IsRecord bytes lists
    → ((step : Step) → StandsAt (front ++ (bytes ++ rest)) (length front) step → step ≡ found.Lists lists (length front + length bytes))
    × ((fault : CodeFault) → FailsAt (front ++ (bytes ++ rest)) (length front) fault → fault ≡ NoMemory)
