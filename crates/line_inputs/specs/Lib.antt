-- How an input of figures is read.
pub mod FigureLinesReading
pub mod Heads
pub mod Given
pub mod FigureLinesFormat
pub mod FigureLinesProgress
pub mod Steps
pub mod FigureLinesState
pub mod FigureLinesLaws
-- Inputs of graph6 lines.
pub mod GraphLinesReading
pub mod GraphLinesFormat
pub mod GraphLinesWhole
pub mod GraphLinesProgress
pub mod GraphLinesState
pub mod GraphLinesLaws
