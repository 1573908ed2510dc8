-- The lemmas on woods.
mod Cases
mod Covers
mod Names
mod Rows
pub mod Paths
mod Orders
mod Refused
mod SchnyderRegionsPaths
mod CrossedEdges
mod ClosedPathLemmas
mod CountLemmas
mod SchnyderRegionsRefused
