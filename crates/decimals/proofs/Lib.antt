-- Numbers that are cut while their digits are read.
pub mod DigitLemmas
