-- Lemmas on marks that faces set.
pub mod MarkLemmas
pub mod WalkMarks
pub mod PairMarks
mod FacePairsCases
mod StampLemmas
mod MeetingLemmas
mod RingLemmas
mod FacesKnown
mod ClearLemmas
mod Bad
mod ShortFaces
mod FacePairsRefused
-- Lemmas on records as three-connected maps.
pub mod BiconnectedLemmas
mod ConvexMapsCases
mod ConvexMapsRefused
