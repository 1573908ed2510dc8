-- Records as maps that have a rectangular dual.
pub mod RectMaps
pub mod Refusals
pub mod Laws
pub mod Loops
pub mod Upper
pub mod Corners
