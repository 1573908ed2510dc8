-- Lines of text that are graphs, and what is wrong with others.
pub mod Lines
pub mod Faults
pub mod Laws
pub mod Header
