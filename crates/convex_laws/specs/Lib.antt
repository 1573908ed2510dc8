-- Drawings whose faces have middles.
pub mod Middles
pub mod FaceMiddlesLaws
-- Drawings by counts of faces.
pub mod FaceDrawings
-- Drawings of maps by counts of faces.
pub mod ConvexDrawings
-- Runs of polyhedral maps.
pub mod RunsOfMaps
pub mod ConvexMaps
-- The steps of a run as rows of numbers.
pub mod Rows
-- Convex woods.
pub mod ConvexWoods
pub mod ConvexWoodsLaws
-- Rows of removals.
pub mod Removed
-- Closed walks, their sides, and the faces inside.
pub mod Walks
pub mod ClosedWalksLaws
pub mod Inside
-- Regions of convex woods.
pub mod Regions
pub mod Signs
pub mod RegionDrawings
pub mod FaceRegionsLaws
