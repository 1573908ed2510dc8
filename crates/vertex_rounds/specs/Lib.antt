-- What rounds of vertices go over, and what searches of darts answer.
pub mod Least
pub mod Rounds
pub mod First
