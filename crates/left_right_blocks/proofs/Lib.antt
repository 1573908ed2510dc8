-- Lists whose elements all pass, and what forks demand.
pub mod Eaches
pub mod ShortDemands
-- Blocks put into one another.
pub mod Merged
pub mod Shaped
-- Ties.
pub mod Kept
-- Steps.
pub mod Steps
pub mod Merging
pub mod Dropping
pub mod Trimming
pub mod Deepest
pub mod Stated
pub mod Forking
pub mod Gathering
