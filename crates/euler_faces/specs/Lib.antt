-- Darts by their numbers, under the ids of a map.
pub mod Chains
pub mod ChainSearch
pub mod Corners
pub mod FaceSearch
pub mod FaceWalks
pub mod Numbers
pub mod Search
pub mod Slots
pub mod Stored
