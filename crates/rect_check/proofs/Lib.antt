-- Lemmas on rectangular duals.
mod PairLemmas
mod AreaLemmas
mod EdgeLemmas
mod RunLemmas
mod SweepLemmas
mod MeetLemmas
mod Cases
mod Refused
