-- Biconnected maps of genus zero, and the first condition that other lists break.
use Rattle.std.specs.Prelude.{ℕ, ◌≤◌, ◌≡◌, ◌≢◌, Some, None}
use Rattle.map_lists.specs.Lists.{Lists}
use Rattle.map_theory.specs.Maps.{IsSimpleMap, IsPlane, vertex_count, component_count}
use Rattle.graph_search.specs.Cuts.{IsCutVertex, IsLeastCutVertex}
use Rattle.refusals.specs.Conditions.{first_refusal}
use Rattle.refusals.specs.declared.conditions.Refusal.{Refusal}
use Rattle.refusals.specs.declared.conditions.Refusal.TheVariants.{NotConnected, CutVertex}

-- The lists are a connected map of genus zero with at least `least` vertices, none of which is a cut vertex.
pub record IsBiconnectedMap (least : ℕ) (lists : Lists) : Type 0 where
  pub simple : IsSimpleMap lists
  pub some : least ≤ vertex_count lists
  pub plane : IsPlane lists
  pub connected : component_count lists ≡ 1
  pub uncut : (v : ℕ) → ¬ IsCutVertex lists v

-- The condition is the first one that the lists break, of those that a biconnected map with at least `least` vertices has to meet.
abbrev pub BreaksFirst : ℕ → Lists → Refusal → Type 0
BreaksFirst least lists NotConnected = (first_refusal least lists ≡ None) × (component_count lists ≢ 1)
BreaksFirst least lists (CutVertex v) = (first_refusal least lists ≡ None) × (component_count lists ≡ 1) × IsLeastCutVertex lists v.0
BreaksFirst least lists refusal = first_refusal least lists ≡ Some refusal
