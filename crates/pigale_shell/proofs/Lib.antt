-- Lemmas on runs.
mod PlanarLemmas
mod OutcomeLemmas
mod MadeLemmas
mod OneTextLemmas
mod Cases
mod Refused
mod PartLemmas
