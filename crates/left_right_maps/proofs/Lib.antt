-- What the laws rest on.
pub mod Inserts
pub mod Orders
pub mod Goes
pub mod Toured
pub mod Tour
pub mod Uncrossed
pub mod RootedPlane
pub mod Opens
pub mod Ends
pub mod Lines
pub mod Parts
pub mod Whole
pub mod Forests
mod Refused
