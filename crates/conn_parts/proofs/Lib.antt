-- Lemmas on records as biconnected maps.
pub mod RefusalLemmas
mod Cases
mod BiconnectedMapsRefused
-- What numbers of components say.
pub mod PartLemmas
mod Refused
-- What the lists of a graph hold.
pub mod GraphLemmas
