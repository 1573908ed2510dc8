-- The conditions on records, and which of them comes first.
pub mod Conditions
pub mod Laws
