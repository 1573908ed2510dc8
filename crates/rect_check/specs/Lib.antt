-- What a check of a rectangular dual answers, and its laws.
pub mod Faults
pub mod Verdicts
pub mod Laws
pub mod Loops
pub mod Meets
pub mod Axes
