-- A map whose edges all go upwards, by its darts: falls, faces and the numbers of faces.
pub mod Upward
pub mod Falls
pub mod Faces
pub mod RisingNumbers
pub mod NoCycle
pub mod DualNumbering
pub mod Turns
-- The map by its darts, its numberings, and its bars.
pub mod Bipolar
pub mod Numberings
pub mod Bars
-- The lemmas on darts by their ids, and on rows of faces.
pub mod Darts
mod CutRows
mod Agree
pub mod ColumnLemmas
mod Numbered
mod FaceNumbering
-- The numbers of twins, by a table of them.
pub mod TwinNumbers
-- What facts that are kept with maps tell.
pub mod Known
-- The rows that longest paths between faces give.
pub mod FaceAgree
mod Refused
