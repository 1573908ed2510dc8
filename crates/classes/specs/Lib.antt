-- Classes, orbits and permutations.
pub mod Classes
pub mod Laws
