pub mod LineLemmas
mod Cases
