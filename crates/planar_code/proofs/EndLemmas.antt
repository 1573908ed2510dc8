-- How the bytes consumed end, and with which records an input begins.
use Rattle.std.proofs.Common.{◌≡◌, ℕ, ◌≤◌, List, [], ◌∷◌, length, refl, arith}
use Rattle.map_lists.specs.Lists.{Lists}
use Rattle.planar_code.specs.Reading.{Ending, IsReading, BeginsWith, input_limit}
use Rattle.planar_code.specs.State.{State}
use Rattle.planar_code.specs.Progress.{Progress}
use Rattle.planar_code.specs.Ends.{ending_by, ending_here}
use Rattle.planar_code.proofs.ProgressLemmas.{Progress-well, Progress-in_record}

ends-by : (pending : List ℕ) (consumed : List ℕ) (records : List Lists) (state : State) → Progress consumed records state → length consumed ≤ input_limit → state.pending ≡ pending → IsReading consumed records (ending_by pending state.start)
ends-by [] consumed records state p within is = Progress-well consumed records state p is within
ends-by (b ∷ pending) consumed records state p within is = Progress-in_record consumed records state p (rw is (omega arith)) within

-- what the bytes consumed read as if no more come
pub Progress-ends : (consumed : List ℕ) (records : List Lists) (state : State) → Progress consumed records state → length consumed ≤ input_limit → IsReading consumed records (ending_here state)
Progress-ends consumed records state p within = ends-by state.pending consumed records state p within refl

-- an input begins with the records that it has
pub reading-begins : (input : List ℕ) (records : List Lists) (ending : Ending) → IsReading input records ending → BeginsWith input records
reading-begins input records ending reading = record { bytes = reading.bytes; rest = reading.rest; parts = reading.parts; are = reading.are; within = reading.within }
