-- Maps in which two faces have at most a vertex or an edge in common, and three-connected ones.
pub mod Polyhedral
pub mod PolyhedralMapsLaws
-- Faces taken off a plane map from its contour.
pub mod Contours
pub mod Removals
pub mod FacePeelingLaws
