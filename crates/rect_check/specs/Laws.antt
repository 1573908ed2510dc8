-- The law of the verdict: it is Yes exactly where the figure is a rectangular dual.
use Rattle.std.specs.Prelude.{◌≡◌, ◌↔◌}
use Rattle.map_lists.specs.Lists.{Lists}
use Rattle.pg_plane.specs.declared.figures.RectFigure.{RectFigure}
use Rattle.drawings.specs.Duals.{IsRectangularDual}
use Rattle.rect_check.specs.Verdicts.{IsRectVerdict}
use Rattle.rect_check.specs.declared.verdict.RectVerdict.{RectVerdict}
use Rattle.rect_check.specs.declared.verdict.RectVerdict.TheVariants.{Yes}

-- A verdict is `Yes` exactly where the figure is a rectangular dual.
abbrev pub YesIsDual : Type 0
YesIsDual =
    (lists : Lists) (fig : RectFigure) (verdict : RectVerdict) → IsRectVerdict lists fig verdict → ((verdict ≡ Yes) ↔ (IsRectangularDual lists fig))
