-- What contracts see of a reader of records.
pub mod State
pub mod Fed
pub mod Taken
pub mod Place
pub mod Step
pub mod Progress
pub mod Open
pub mod Ends
pub mod Scan
pub mod Front
pub mod Laws
pub mod Reading
pub mod Whole
pub mod Write
