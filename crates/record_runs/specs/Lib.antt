-- What a run over the records of an input reads and writes.
pub mod Texts
pub mod Outcome
pub mod Run
pub mod Parts
