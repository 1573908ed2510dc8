pub mod InnerLemmas
pub mod VerdictLemmas
mod Cases
mod Refused
