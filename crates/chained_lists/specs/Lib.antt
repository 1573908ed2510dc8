-- Lists of numbers by links.
pub mod Chains
pub mod Held
