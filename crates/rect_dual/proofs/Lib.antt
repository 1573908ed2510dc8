-- Lemmas on turns.
pub mod Turns
mod RectTurnsRefused
-- Lemmas on sides.
mod Pieces
mod RectSidesSides
mod RectSidesRefused
-- Lemmas on lines.
pub mod Lines
pub mod Walks
mod LineListsRefused
-- Lemmas on lines of vertices over a contour.
pub mod Ways
pub mod Links
pub mod Left
pub mod Low
mod SideLinesRefused
-- Lemmas on the lines of a run.
pub mod Begin
pub mod RectNumbersRows
pub mod SideLemmas
-- Lemmas on boxes in tables.
pub mod RectDrawSides
pub mod RectDrawRows
pub mod Drawn
mod RectDrawRefused
-- Lemmas on edge labellings.
pub mod TableLemmas
pub mod OfRun
pub mod OfOrder
pub mod DartLemmas
mod EdgeLabelsRefused
