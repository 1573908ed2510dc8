-- The generator of maps.
pub mod Darts
pub mod Faces
pub mod Laws
pub mod Stacked
