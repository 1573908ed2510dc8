-- Lemmas on verdicts of figures.
pub mod VerdictLemmas
mod Refused
