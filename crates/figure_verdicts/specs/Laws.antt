-- The laws of the verdict on a figure.
use Rattle.std.specs.Prelude.{◌↔◌, ◌≡◌}
use Rattle.figure_text.specs.declared.figure.Figure.{Figure}
use Rattle.line_inputs.specs.Given.{IsGiven}
use Rattle.figure_verdicts.specs.Validity.{IsValidFigure}
use Rattle.figure_verdicts.specs.Verdicts.{IsFigureVerdict}
use Rattle.figure_verdicts.specs.declared.verdict.FigureVerdict.{FigureVerdict}
use Rattle.figure_verdicts.specs.declared.verdict.FigureVerdict.TheVariants.{Yes}

-- The verdict is Yes exactly on the valid figures.
abbrev pub YesIsValidFigure : Type 0
YesIsValidFigure = (figure : Figure) → IsGiven figure → IsFigureVerdict figure Yes ↔ IsValidFigure figure

-- A valid figure has no other verdict.
abbrev pub ValidIsYes : Type 0
ValidIsYes = (figure : Figure) (verdict : FigureVerdict) → IsGiven figure → IsFigureVerdict figure verdict → IsValidFigure figure → verdict ≡ Yes
