-- Runs that rectangular duals rest on.
pub mod Labels
pub mod Numbers
pub mod Corners
pub mod Later
-- Boxes over a run.
pub mod Boxes
pub mod RectBoxesLaws
-- Leading vertices of the contour.
pub mod Leads
-- Edges of a run at their ends.
pub mod Ends
pub mod Rounds
