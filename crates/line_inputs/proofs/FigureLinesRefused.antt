-- What a wrong body would make of a figure's lines.
use Rattle.std.proofs.Common.{◌≡◌, ℕ, length, arith}
use Rattle.figure_text.specs.declared.figure.Figure.{Figure}
use Rattle.figure_text.specs.declared.vertex_lines.Draft.{Draft}
use Rattle.line_inputs.specs.Steps.{IsGrown}
use Rattle.line_inputs.specs.declared.figure_lines.first_line.Head.{Head}
use Rattle.line_inputs.specs.declared.figure_lines.closed_line.After.TheVariants.{Whole}

-- a figure of two vertices is whole with its first line
figure_ends_a_line_early : (head : Head) (first : ℕ) (draft : Draft) (figure : Figure) → length draft.lists ≡ 1 → IsGrown head 2 first draft (Whole figure) → ⊥
figure_ends_a_line_early head first draft figure e g = omega (arith, e, g.0)
