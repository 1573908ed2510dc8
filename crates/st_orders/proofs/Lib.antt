-- How vertices are given their places.
pub mod PlacingLemmas
pub mod OrderLemmas
pub mod TableLemmas
pub mod WholeLemmas
pub mod FinishLemmas
mod RankLemmas
mod Cases
mod Refused
