-- Lemmas on darts by their numbers.
pub mod NumberLemmas
pub mod WalkFaces
mod IsolatedLemmas
pub mod SearchLemmas
mod FaceWalkLemmas
mod OrbitLemmas
mod TriangleLemmas
mod NextLemmas
-- Lemmas on the search by chains of faces.
pub mod SideMarks
mod ChainLemmas
