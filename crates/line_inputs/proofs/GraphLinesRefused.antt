-- An ending that a wrong body would give.
use Rattle.std.proofs.Common.{ℕ, List, Some}
use Rattle.graph6_text.specs.declared.graph6_lines.G6Fault.TheVariants.{TooMany}
use Rattle.line_inputs.specs.GraphLinesProgress.{Judges}
use Rattle.line_inputs.specs.declared.graph_lines.ending.Ending.TheVariants.{BadLine}

-- a line of too many vertices is a bad line
too_many_vertices_are_a_bad_line : (k j n : ℕ) (line : List ℕ) → Judges k line (TooMany n) (Some (BadLine j)) → ⊥
too_many_vertices_are_a_bad_line k j n line h = h.2 tt
