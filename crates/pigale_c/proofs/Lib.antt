-- Lemmas on maps, edges and points as arrays, and on runs.
mod ArrayLemmas
mod EdgeFaultLemmas
mod EdgeLemmas
mod EdgeListLemmas
mod EmbedLemmas
mod FailureLemmas
mod LabelLemmas
mod ManyFigureLemmas
mod ManyGraphLemmas
mod ManyLemmas
mod Refused
mod RunLemmas
mod WalkLemmas
mod WordLemmas
