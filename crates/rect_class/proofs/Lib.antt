-- Lemmas on maps that have a rectangular dual.
mod HeadLemmas
mod UpperLemmas
mod Cases
mod FrameDarts
mod TriangleLemmas
mod CornerLemmas
mod InnerLemmas
mod RectMapLemmas
mod Counted
mod Refused
