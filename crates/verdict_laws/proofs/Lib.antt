-- Lemmas on the first of several kinds, and on least ids.
pub mod Firsts
-- One lemma for each verdict.
pub mod GridVerdicts
pub mod ConvexVerdicts
pub mod BarVerdicts
pub mod RectVerdicts
pub mod WitnessVerdicts
pub mod FigureVerdicts
-- One for each list of conditions.
pub mod Breaks
