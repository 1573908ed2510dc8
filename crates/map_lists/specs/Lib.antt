-- Rotation lists, and how lists are cut into pieces.
pub mod Cuts
pub mod Lists
