-- Lemmas on canonical orders.
mod Cases
mod Built
pub mod Lefts
mod OrderLaws
mod RowEnds
mod LastCycle
pub mod Counters
pub mod Marks
mod Contours
mod Refused
mod EntryLemmas
pub mod Filled
mod Known
mod PlaceLemmas
mod Pushes
