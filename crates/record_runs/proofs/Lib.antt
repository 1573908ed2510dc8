-- Lemmas on runs.
mod BlockLemmas
mod StopLemmas
mod EndLemmas
mod Refused
pub mod PartLemmas
