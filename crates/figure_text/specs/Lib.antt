-- The text of figures.
pub mod Words
pub mod Lines
pub mod Pieces
pub mod Text
pub mod Plain
pub mod Reading
pub mod Drafts
pub mod Front
pub mod Figures
pub mod Laws
pub mod Numerals
