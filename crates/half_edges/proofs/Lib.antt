-- The lemmas on which several of the crate's functions rest.
pub mod ArenaLemmas
mod Cases
pub mod TableArena
pub mod LinkLemmas
pub mod PairLemmas
pub mod WriteLemmas
pub mod FreeLemmas
pub mod TakenLemmas
pub mod MapLemmas
pub mod EdgeLemmas
pub mod StepLemmas
pub mod GivenLemmas
pub mod ReserveLemmas
pub mod InducedLemmas
pub mod RoundLemmas
