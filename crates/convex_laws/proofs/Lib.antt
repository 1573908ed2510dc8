-- The lemmas on drawings whose faces have middles.
pub mod Triangles
pub mod Plane
pub mod Larger
-- The lemmas on drawings by counts of faces.
pub mod Joined
-- The lemmas on convex drawings.
pub mod Inverse
pub mod Rounds
pub mod Maps
pub mod ConvexDrawingsTurned
mod Cases
-- What the law of runs of maps rests on.
pub mod Longer
pub mod Grown
pub mod Last
pub mod Built
pub mod ConvexRunsWhole
pub mod Drawn
-- The lemmas on convex woods.
pub mod ConvexWoodsTurned
pub mod FaceNumbers
pub mod AllDarts
pub mod Outs
pub mod Orders
pub mod Heights
pub mod ConvexWoodsWhole
-- What the law rests on.
pub mod Steps
pub mod Ends
pub mod Ranked
pub mod Ended
-- Lemmas on closed walks.
pub mod Flips
pub mod Covers
pub mod Degrees
pub mod Sides
pub mod WalkLemmas
mod WalkCases
-- Lemmas on regions.
pub mod OneRegion
pub mod RegionWalks
pub mod FaceTests
pub mod TestOrders
pub mod EdgeTests
pub mod WayTests
pub mod ThirdWays
pub mod RunSides
pub mod OuterFace
pub mod WoodSides
pub mod SignLemmas
pub mod WoodRegions
pub mod Readings
