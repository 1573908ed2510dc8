-- The lemmas on pieces of lists.
pub mod CutLemmas
