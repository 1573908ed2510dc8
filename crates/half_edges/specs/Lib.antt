-- What contracts see of a half-edge map.
pub mod Arena
pub mod Edges
pub mod Induced
pub mod Links
pub mod Map
pub mod MapFacts
pub mod Rounds
pub mod Tables
