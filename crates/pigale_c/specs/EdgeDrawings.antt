-- Verdicts on drawings of edges in arrays.
use Rattle.std.specs.Prelude.{ℕ, ◌<◌, ◌≡◌, List, length, ℤ, Some, None}
use Rattle.map_lists.specs.Lists.{Lists}
use Rattle.simple_maps.specs.Faults.{first_fault}
use Rattle.refusals.specs.Conditions.{fault_refusal}
use Rattle.refusals.specs.declared.conditions.Refusal.{Refusal}
use Rattle.draw_check.specs.Verdicts.{IsPlaneVerdict}
use Rattle.pigale_c.specs.Arrays.{points_in, ArePlaces}
use Rattle.pigale_c.specs.EdgeLists.{IsEdgeLists}
use Rattle.pigale_c.specs.EdgeFailures.{FailsOnEdges}
use Rattle.pigale_c.specs.declared.edges.EdgeEnds.{EdgeEnds}
use Rattle.pigale_c.specs.declared.outcome.Outcome.{Outcome}
use Rattle.pigale_c.specs.declared.outcome.Outcome.TheVariants.{Drawing, Failed}

-- from 1 to 4095 points, none beyond 2^20 in size, and fewer than 2^24 edges
pub record IsGivenPoints (edges : List EdgeEnds) (xs ys : List ℤ) : Type 0 where
  pub some_point : 0 < length xs
  pub few_points : length xs < 4096
  pub few_edges : length edges < 16777216
  pub places : ArePlaces (length xs) xs ys

-- this holds of lists of the neighbours that n vertices have by these edges
abbrev pub OfEdges : ℕ → List EdgeEnds → (Lists → Type 0) → Type 0
OfEdges n edges P = (lists : Lists) × IsEdgeLists n edges lists × P lists

-- a condition of a simple map that the edges break
abbrev pub BreaksAsMap : ℕ → List EdgeEnds → Refusal → Type 0
BreaksAsMap n edges refusal = OfEdges n edges (λ lists. fault_refusal lists ≡ Some refusal)

-- The edges are those of a simple graph, and the verdict is the one on its drawing; or the call failed.
abbrev pub IsJudgedEdges : List EdgeEnds → List ℤ → List ℤ → Outcome → Type 0
IsJudgedEdges edges xs ys (Drawing verdict) =
    IsGivenPoints edges xs ys × OfEdges (length xs) edges (λ lists. (first_fault lists ≡ None) × IsPlaneVerdict lists (points_in xs ys) verdict)
IsJudgedEdges edges xs ys (Failed failure) = FailsOnEdges (IsGivenPoints edges xs ys) (length xs) edges (BreaksAsMap (length xs) edges) failure
IsJudgedEdges edges xs ys outcome = ⊥
