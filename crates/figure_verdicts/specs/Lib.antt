-- What is answered to a figure.
pub mod Validity
pub mod Verdicts
pub mod Laws
