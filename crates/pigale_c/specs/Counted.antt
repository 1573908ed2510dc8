-- The counts of a map by its arrays.
use Rattle.std.specs.Prelude.{ℕ, ◌≡◌, List, Some, None}
use Rattle.map_lists.specs.Lists.{Lists}
use Rattle.map_theory.specs.Maps.{vertex_count, edge_count, face_count, component_count, genus}
use Rattle.simple_maps.specs.Faults.{first_fault}
use Rattle.refusals.specs.Conditions.{fault_refusal}
use Rattle.pigale_c.specs.Arrays.{lists_in, IsGivenMap}
use Rattle.pigale_c.specs.Failures.{Fails}
use Rattle.pigale_c.specs.declared.counts.Counts.{Counts}
use Rattle.pigale_c.specs.declared.outcome.Outcome.{Outcome}
use Rattle.pigale_c.specs.declared.outcome.Outcome.TheVariants.{Served, Failed}

-- the counts of lists
abbrev pub counts_of : Lists → Counts
counts_of lists = record { n = vertex_count lists; m = edge_count lists; f = face_count lists; c = component_count lists; genus = genus lists }

-- the arrays are a simple map, and the counts are its; or the call failed, and no count was written
abbrev pub IsCounted : List ℕ → List ℕ → Counts → Counts → Outcome → Type 0
IsCounted ends neighbours old new Served =
    IsGivenMap ends neighbours × (first_fault (lists_in ends neighbours) ≡ None) × (new ≡ counts_of (lists_in ends neighbours))
IsCounted ends neighbours old new (Failed failure) =
    Fails (IsGivenMap ends neighbours) (λ refusal. fault_refusal (lists_in ends neighbours) ≡ Some refusal) failure × (new ≡ old)
IsCounted ends neighbours old new outcome = ⊥
