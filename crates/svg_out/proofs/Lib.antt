-- Lemmas on edges in their order and on the lines of pictures, and worked cases.
mod EdgeLemmas
mod EdgeCounts
mod LineLemmas
mod Cases
