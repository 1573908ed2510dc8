-- Drawings of maps, and their law.
pub mod Drawing
pub mod DrawingsLaw
-- Lines, steps and the law of the sweep.
pub mod PlaneSweepLines
pub mod Steps
pub mod Swept
pub mod PlaneSweepLaw
-- What a sweep goes over, and what it tests at a vertex.
pub mod Orders
pub mod SweepCheckLines
pub mod Tests
