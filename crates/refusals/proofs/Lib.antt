-- Lemmas on the first condition that lists break.
pub mod RefusalLemmas
mod Cases
mod Refused
