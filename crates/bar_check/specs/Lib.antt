-- What a check of a visibility drawing answers, and its laws.
pub mod Faults
pub mod Verdicts
pub mod Laws
pub mod Loops
pub mod Tables
pub mod Reach
