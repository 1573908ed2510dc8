-- Verdicts on straight-line drawings by arrays.
use Rattle.std.specs.Prelude.{ℕ, ◌≡◌, ◌≢◌, ◌⊎◌, List, ℤ, Some, None}
use Rattle.map_lists.specs.Lists.{Lists}
use Rattle.map_theory.specs.Maps.{HasDart}
use Rattle.simple_maps.specs.Faults.{first_fault}
use Rattle.refusals.specs.Conditions.{fault_refusal}
use Rattle.half_edges.specs.Map.{first_dart}
use Rattle.pg_plane.specs.declared.grid_points.Point.{Point}
use Rattle.draw_check.specs.Verdicts.{IsVerdict}
use Rattle.draw_check.specs.Outer.{IsOuterVerdict}
use Rattle.draw_check.specs.declared.verdict.OuterVerdict.{OuterVerdict}
use Rattle.draw_check.specs.declared.verdict.OuterVerdict.TheVariants.{Yes as IsOuter}
use Rattle.draw_check.specs.declared.verdict.Verdict.TheVariants.{Yes}
use Rattle.convex_check.specs.Verdicts.{IsConvexVerdict}
use Rattle.convex_check.specs.declared.verdict.ConvexVerdict.{ConvexVerdict}
use Rattle.convex_check.specs.declared.verdict.ConvexVerdict.TheVariants.{OuterBent}
use Rattle.pigale_c.specs.Arrays.{lists_in, points_in, IsGivenDrawing}
use Rattle.pigale_c.specs.Failures.{Fails}
use Rattle.pigale_c.specs.declared.outcome.Outcome.{Outcome}
use Rattle.pigale_c.specs.declared.outcome.Outcome.TheVariants.{Drawing, Convex, Outer, Failed}

-- the arrays are a drawing of a simple map, and the verdict is the one on it in this grid; or the call failed
abbrev pub IsJudged : List ℕ → List ℕ → List ℤ → List ℤ → ℤ → ℤ → Outcome → Type 0
IsJudged ends neighbours xs ys width height (Drawing verdict) =
    IsGivenDrawing ends neighbours xs ys × (first_fault (lists_in ends neighbours) ≡ None) × IsVerdict (lists_in ends neighbours) (points_in xs ys) width height verdict
IsJudged ends neighbours xs ys width height (Failed failure) =
    Fails (IsGivenDrawing ends neighbours xs ys) (λ refusal. fault_refusal (lists_in ends neighbours) ≡ Some refusal) failure
IsJudged ends neighbours xs ys width height outcome = ⊥

-- vertex 0 has a first dart
abbrev pub HasBase : Lists → Type 0
HasBase lists = HasDart lists (first_dart lists 0).0 (first_dart lists 0).1

-- the verdict on the bends of a drawing, over the first dart of vertex 0; where there is none, the outer face is no triangle
abbrev pub IsBendVerdict : Lists → List Point → ConvexVerdict → Type 0
IsBendVerdict lists points verdict =
    (HasBase lists × IsConvexVerdict lists points (first_dart lists 0) verdict) ⊎ ((¬ HasBase lists) × (verdict ≡ OuterBent))

-- the first fault of a drawing that is to be convex; or it has none, and this is the verdict on its bends
abbrev pub IsShaped : Lists → List Point → ℤ → ℤ → Outcome → Type 0
IsShaped lists points width height (Drawing verdict) = IsVerdict lists points width height verdict × (verdict ≢ Yes)
IsShaped lists points width height (Convex verdict) = IsVerdict lists points width height Yes × IsBendVerdict lists points verdict
IsShaped lists points width height outcome = ⊥

-- the arrays are a drawing of a simple map, and the outcome is right for it in this grid; or the call failed
abbrev pub IsJudgedConvex : List ℕ → List ℕ → List ℤ → List ℤ → ℤ → ℤ → Outcome → Type 0
IsJudgedConvex ends neighbours xs ys width height (Failed failure) =
    Fails (IsGivenDrawing ends neighbours xs ys) (λ refusal. fault_refusal (lists_in ends neighbours) ≡ Some refusal) failure
IsJudgedConvex ends neighbours xs ys width height outcome =
    IsGivenDrawing ends neighbours xs ys × (first_fault (lists_in ends neighbours) ≡ None) × IsShaped (lists_in ends neighbours) (points_in xs ys) width height outcome

-- the verdict on the outer face of a drawing, which is to be that of the first dart of vertex 0; where there is none, nothing is asked
abbrev pub IsBaseVerdict : Lists → List Point → OuterVerdict → Type 0
IsBaseVerdict lists points verdict =
    (HasBase lists × IsOuterVerdict lists points (first_dart lists 0) verdict) ⊎ ((¬ HasBase lists) × (verdict ≡ IsOuter))

-- the arrays are a drawing of a simple map, and the verdict is the one on its outer face; or the call failed
abbrev pub IsJudgedOuter : List ℕ → List ℕ → List ℤ → List ℤ → Outcome → Type 0
IsJudgedOuter ends neighbours xs ys (Outer verdict) =
    IsGivenDrawing ends neighbours xs ys × (first_fault (lists_in ends neighbours) ≡ None) × IsBaseVerdict (lists_in ends neighbours) (points_in xs ys) verdict
IsJudgedOuter ends neighbours xs ys (Failed failure) =
    Fails (IsGivenDrawing ends neighbours xs ys) (λ refusal. fault_refusal (lists_in ends neighbours) ≡ Some refusal) failure
IsJudgedOuter ends neighbours xs ys outcome = ⊥
