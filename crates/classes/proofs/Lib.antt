-- The lemmas on classes and orbits.
pub mod Counting
pub mod Classes
pub mod Orbits
pub mod Bound
pub mod Swap
pub mod Walks
pub mod Marks
pub mod LawLemmas
