-- Numbers of faces.
pub mod FaceNumbersRows
mod Cases
pub mod Known
-- Contours as two stacks, and counts along them.
pub mod ContourCountsRows
pub mod Sums
pub mod Moves
pub mod CountLemmas
-- What the orders rest on.
pub mod Flags
pub mod Rows
pub mod Once
pub mod Noting
pub mod Traced
pub mod RemovedFaces
pub mod GoneRuns
pub mod Stretches
pub mod Taken
pub mod TakenAt
pub mod CutLemmas
pub mod RowLemmas
pub mod Outs
pub mod Advanced
pub mod LastRounds
pub mod StandLemmas
pub mod Advancing
pub mod Choosing
pub mod Beginnings
