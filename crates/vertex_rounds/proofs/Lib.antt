-- The lemmas on rounds of vertices and on first darts.
pub mod RoundLemmas
pub mod LeastRounds
pub mod LeastLemmas
pub mod FirstLemmas
pub mod DartIds
pub mod OnceLemmas
