-- Lemmas on records and readings that callers use.
pub mod RecordLemmas
pub mod ProgressLemmas
pub mod EndLemmas
pub mod PieceLemmas
pub mod OpenLemmas
pub mod PlaceLemmas
pub mod ScansLemmas
pub mod AdvanceLemmas
pub mod SplitLemmas
pub mod PassLemmas
pub mod GatherLemmas
pub mod ScanLemmas
pub mod FrontLemmas
pub mod NextLemmas
pub mod ReadingLemmas
pub mod WholeLemmas
pub mod ReadsLemmas
pub mod WriteLemmas
mod Refused
mod StandsLemmas
