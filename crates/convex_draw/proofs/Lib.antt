-- Lemmas on points by counts of faces.
mod Rows
mod Writes
mod Passing
mod Walks
mod Written
mod Gone
mod Puts
mod Unders
mod RunSpots
mod Downs
mod Onto
pub mod Listed
-- Lemmas on convex drawings.
pub mod ByRows
pub mod GridLemmas
mod PointLemmas
mod Refused
-- Lemmas on the figures of records.
pub mod FirstDart
mod Triangulated
mod FlatNumbers
mod ByLists
