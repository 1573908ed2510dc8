-- The lemmas on faults and tables.
pub mod FaultLemmas
pub mod FlatLemmas
pub mod MarkLemmas
pub mod LineLemmas
pub mod PassLemmas
pub mod PassedLemmas
pub mod TableLemmas
pub mod TwinLemmas
pub mod FirstFaults
mod CellLemmas
mod Refused
