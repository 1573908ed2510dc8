-- The lemmas on ends, and on the figure.
mod EndRows
mod SidesKnown
mod SpanLemmas
mod StartLemmas
mod Drawn
mod ListDrawn
mod Connected
mod DrawerLemmas
mod Refused
-- Lemmas on the figures of records by bars.
pub mod FirstDart
