-- Witnesses of nonplanarity.
pub mod Witnesses
pub mod Faults
pub mod Verdicts
pub mod Inner
