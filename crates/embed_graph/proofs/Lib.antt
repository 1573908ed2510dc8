-- What the calls rest on.
pub mod Stays
mod ContractedEmbeddingsRefused
-- Lemmas on the edges of lists as bits.
pub mod MarkLemmas
mod Refused
-- What wrong bodies would give.
mod EmbedFiguresRefused
-- Figures of graphs.
mod Figured
