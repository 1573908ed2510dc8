-- Drawings of maps in arrays.
use Rattle.std.specs.Prelude.{ℕ, ◌≡◌, List, length, ℤ, Some, None}
use Rattle.map_lists.specs.Lists.{Lists}
use Rattle.map_theory.specs.Maps.{IsPlane}
use Rattle.refusals.specs.Conditions.{first_refusal}
use Rattle.refusals.specs.declared.conditions.Refusal.{Refusal}
use Rattle.pg_plane.specs.declared.figures.GridFigure.{GridFigure}
use Rattle.convex_peeling.specs.Polyhedral.{IsThreeConnected}
use Rattle.convex_class.specs.Convexity.{BreaksConvex}
use Rattle.grid_figures.specs.ShiftFiguresFigures.{IsShiftFigure}
use Rattle.grid_figures.specs.SchnyderFiguresFigures.{IsSchnyderFigure}
use Rattle.convex_draw.specs.Figures.{IsConvexFigure}
use Rattle.pigale_c.specs.Arrays.{lists_in, points_in, IsGivenMap}
use Rattle.pigale_c.specs.Failures.{Fails}
use Rattle.pigale_c.specs.declared.outcome.Outcome.{Outcome}
use Rattle.pigale_c.specs.declared.outcome.Outcome.TheVariants.{Served, Failed}

-- a map, and room for two coordinates of each vertex
pub record IsGivenGrid (ends neighbours : List ℕ) (xs ys : List ℤ) : Type 0 where
  pub map : IsGivenMap ends neighbours
  pub x : length xs ≡ length ends
  pub y : length ys ≡ length ends

-- The map is served, and the arrays have the points of a figure of it; or the call failed, and the arrays are as they were.
abbrev pub IsDrawn : (Lists → Type 0) → (Lists → Refusal → Type 0) → (Lists → GridFigure → Type 0) → List ℕ → List ℕ → List ℤ → List ℤ → List ℤ → List ℤ → Outcome → Type 0
IsDrawn Draws Breaks IsFigure ends neighbours xs ys xs' ys' Served =
    IsGivenGrid ends neighbours xs ys × Draws (lists_in ends neighbours) × (figure : GridFigure) × IsFigure (lists_in ends neighbours) figure × (points_in xs' ys' ≡ figure.points)
IsDrawn Draws Breaks IsFigure ends neighbours xs ys xs' ys' (Failed failure) =
    Fails (IsGivenGrid ends neighbours xs ys) (Breaks (lists_in ends neighbours)) failure × (xs' ≡ xs) × (ys' ≡ ys)
IsDrawn Draws Breaks IsFigure ends neighbours xs ys xs' ys' outcome = ⊥

-- simple maps of genus zero with at least three vertices are served
abbrev pub IsServed : Lists → Type 0
IsServed lists = first_refusal 3 lists ≡ None

abbrev pub IsFirstRefusal : Lists → Refusal → Type 0
IsFirstRefusal lists refusal = first_refusal 3 lists ≡ Some refusal

-- by the shift method, by Schnyder's, and with convex faces
abbrev pub IsShiftDrawn : List ℕ → List ℕ → List ℤ → List ℤ → List ℤ → List ℤ → Outcome → Type 0
IsShiftDrawn = IsDrawn IsServed IsFirstRefusal IsShiftFigure

abbrev pub IsSchnyderDrawn : List ℕ → List ℕ → List ℤ → List ℤ → List ℤ → List ℤ → Outcome → Type 0
IsSchnyderDrawn = IsDrawn IsServed IsFirstRefusal IsSchnyderFigure

abbrev pub IsConvexDrawn : List ℕ → List ℕ → List ℤ → List ℤ → List ℤ → List ℤ → Outcome → Type 0
IsConvexDrawn = IsDrawn (λ lists. IsPlane lists × IsThreeConnected lists) BreaksConvex IsConvexFigure
