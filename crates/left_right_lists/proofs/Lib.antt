-- Depths and trees.
mod Searched
mod Tabled
mod Grown
-- Edges that lead upwards, and their sides.
mod Collected
mod SideLemmas
-- What wrong bodies would give.
mod Refused
-- Orders in which vertices stand.
mod OrderLemmas
mod PlacedLemmas
mod Ordered
-- Runs of edges.
mod RunLemmas
mod Forked
mod Stepped
mod Filled
