-- Points, areas, segments and directions, over whole numbers of any size.
pub mod Geometry
pub mod Range
-- The darts of a drawing whose faces are triangles, each walked counterclockwise but one.
pub mod Faced
pub mod Law
