-- Rectangles in arrays.
use Rattle.std.specs.Prelude.{ℕ, ◌≡◌, List, length, ℤ, Some, None}
use Rattle.simple_maps.specs.Faults.{first_fault}
use Rattle.refusals.specs.Conditions.{fault_refusal}
use Rattle.pg_plane.specs.declared.figures.RectFigure.{RectFigure}
use Rattle.rect_check.specs.Verdicts.{IsRectVerdict}
use Rattle.rect_class.specs.RectMaps.{IsRectMap}
use Rattle.rect_class.specs.Refusals.{BreaksRect}
use Rattle.rect_dual.specs.Figures.{IsRectFigure}
use Rattle.pigale_c.specs.Arrays.{lists_in, IsGivenMap}
use Rattle.pigale_c.specs.Failures.{Fails}
use Rattle.pigale_c.specs.declared.outcome.Outcome.{Outcome}
use Rattle.pigale_c.specs.declared.outcome.Outcome.TheVariants.{Served, Rects, Failed}

-- the rectangles of four arrays: left, right, lower and upper sides
abbrev pub rects_in : List ℤ → List ℤ → List ℤ → List ℤ → RectFigure
rects_in lefts rights lows highs = record { x1 = lefts; x2 = rights; y1 = lows; y2 = highs }

-- there is a rectangle for each of n vertices
pub record AreRectsFor (n : ℕ) (fig : RectFigure) : Type 0 where
  pub x1 : length fig.x1 ≡ n
  pub x2 : length fig.x2 ≡ n
  pub y1 : length fig.y1 ≡ n
  pub y2 : length fig.y2 ≡ n

-- a map, and a rectangle for each vertex
pub record IsGivenRects (ends neighbours : List ℕ) (fig : RectFigure) : Type 0 where
  pub map : IsGivenMap ends neighbours
  pub rects : AreRectsFor (length ends) fig

-- the arrays are rectangles of a simple map, and the verdict is the one on them; or the call failed
abbrev pub AreJudgedRects : List ℕ → List ℕ → RectFigure → Outcome → Type 0
AreJudgedRects ends neighbours fig (Rects verdict) =
    IsGivenRects ends neighbours fig × (first_fault (lists_in ends neighbours) ≡ None) × IsRectVerdict (lists_in ends neighbours) fig verdict
AreJudgedRects ends neighbours fig (Failed failure) =
    Fails (IsGivenRects ends neighbours fig) (λ refusal. fault_refusal (lists_in ends neighbours) ≡ Some refusal) failure
AreJudgedRects ends neighbours fig outcome = ⊥

-- The map is served, and the arrays have a figure of it; or the call failed, and the arrays are as they were.
abbrev pub AreDrawnRects : List ℕ → List ℕ → RectFigure → RectFigure → Outcome → Type 0
AreDrawnRects ends neighbours old new Served =
    IsGivenRects ends neighbours old × IsRectMap (lists_in ends neighbours) × IsRectFigure (lists_in ends neighbours) new
AreDrawnRects ends neighbours old new (Failed failure) =
    Fails (IsGivenRects ends neighbours old) (BreaksRect (lists_in ends neighbours)) failure × (new ≡ old)
AreDrawnRects ends neighbours old new outcome = ⊥
