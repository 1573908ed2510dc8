-- Answers to the question whether a graph is planar.
pub mod Embeddings
-- Which edges lists have, as bits.
pub mod Marks
-- What the job `embed` answers to a graph.
pub mod Figures
-- Which graphs are drawn.
pub mod Laws
-- What the left-right test answers.
pub mod Found
