pub mod BitLemmas
pub mod PairLemmas
pub mod EdgeLemmas
mod Cases
