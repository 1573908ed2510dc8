-- The lemmas on checks of visibility drawings.
mod ColumnLemmas
mod TurnLemmas
pub mod OverlapLemmas
mod Cases
mod OrderLemmas
mod TableLemmas
mod ClearLemmas
mod ReachLemmas
mod Rounds
mod HeightLemmas
mod Refused
