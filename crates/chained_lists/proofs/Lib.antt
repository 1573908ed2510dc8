-- Links.
pub mod Links
