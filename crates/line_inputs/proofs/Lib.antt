-- Lemmas on how an input of figures is read.
pub mod MoreLemmas
pub mod ItemLemmas
pub mod FigureLinesLineLemmas
pub mod FigureLinesPartLemmas
mod RunLemmas
pub mod FigureLinesReadLemmas
pub mod FigureLinesUniqueLemmas
mod ReadToLemmas
pub mod ToldLemmas
pub mod ReadsLemmas
mod FigureLinesRefused
-- Lemmas on inputs of lines.
pub mod HeaderLemmas
pub mod GraphLinesLineLemmas
pub mod GraphLinesReadLemmas
pub mod GraphLinesUniqueLemmas
pub mod GraphLinesPartLemmas
pub mod GraphLinesWholeLemmas
mod GraphLinesRefused
