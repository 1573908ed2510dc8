-- Lemmas that contracts' callers use.
pub mod Growth
