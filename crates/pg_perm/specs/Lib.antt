-- What the contracts of this crate cite, beside classes and orbits.
pub mod Law
pub mod Marks
pub mod Perm
pub mod Repeat
