-- Lemmas on the text of figures.
mod BackwardLemmas
pub mod TextLemmas
pub mod DecimalLemmas
pub mod RowLemmas
pub mod NumeralLemmas
pub mod WordLemmas
mod OtherLemmas
pub mod UptoLemmas
pub mod RoundLemmas
pub mod ColumnLemmas
mod PlainLemmas
mod FrontLemmas
pub mod WitnessLemmas
pub mod LawLemmas
mod Cases
pub mod UniqueRows
pub mod UniqueFigures
mod NumeralTexts
