-- Lemmas on records as triangulations.
pub mod CompletionLemmas
mod DrawingOrdersRefused
-- Lemmas for figures.
pub mod FigureLemmas
mod FigureCases
mod FiguresRefused
-- Lemmas on drawings by Schnyder's coordinates.
mod ZeroParts
mod Passes
mod Puts
mod Writes
mod Sums
mod RunGaps
mod DrawLemmas
mod SchnyderGridRefused
