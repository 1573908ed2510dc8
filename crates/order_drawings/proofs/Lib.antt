-- The lemmas on the runs of canonical orders.
pub mod OrderIsRun
pub mod OrderRunsOrderRows
-- The lemmas on drawings by runs.
mod RunLemmas
-- Lemmas on the rows and the points of an order.
mod RowLemmas
mod OrderTablesOrderRows
pub mod OrderLemmas
pub mod PointLemmas
-- The lemmas on drawings by Schnyder's coordinates.
mod SchnyderLemmas
