-- What lines have given while they are read one by one.
use Rattle.std.specs.Prelude.{ℕ, ℤ, List, [], ◌∷◌, ◌++◌}
use Rattle.figure_text.specs.declared.line_shapes.Kind.{Kind}
use Rattle.figure_text.specs.declared.line_shapes.Kind.TheVariants.{Grid, Bars, Rects, Witness}
use Rattle.figure_text.specs.declared.vertex_lines.Draft.{Draft}
use Rattle.figure_text.specs.declared.line_words.Word.{Word}
use Rattle.figure_text.specs.Words.{word_at}
use Rattle.figure_text.specs.Lines.{integer_of}
use Rattle.figure_text.specs.Pieces.{front_length}
use Rattle.figure_text.specs.Reading.{point_of, vertices_from, of_lines}

-- word number n, as a whole number
abbrev pub integer_in : ℕ → List Word → ℤ
integer_in n words = integer_of (word_at words n)

-- what the lines of some vertices give
abbrev pub drafted : Kind → List (List ℕ) → Draft
drafted (Grid job) lines =
    record { lists = of_lines (vertices_from 4) lines; points = of_lines point_of lines; y = []; x1 = []; x2 = []; y2 = [] }
drafted Bars lines =
    record {
      lists = of_lines (vertices_from 6) lines;
      points = [];
      y = of_lines (integer_in 2) lines;
      x1 = of_lines (integer_in 4) lines;
      x2 = of_lines (integer_in 5) lines;
      y2 = [];
    }
drafted Rects lines =
    record {
      lists = of_lines (vertices_from 7) lines;
      points = [];
      y = of_lines (integer_in 5) lines;
      x1 = of_lines (integer_in 2) lines;
      x2 = of_lines (integer_in 3) lines;
      y2 = of_lines (integer_in 6) lines;
    }
drafted (Witness kind) lines = record { lists = of_lines (vertices_from 1) lines; points = []; y = []; x1 = []; x2 = []; y2 = [] }

-- the numbers before the vertices of one line more, by the place of each among the words
abbrev pub with_values : Kind → Draft → (ℕ → ℤ) → Draft
with_values (Grid job) draft value = record draft { points = draft.points ++ record { x = value 2; y = value 3 } ∷ [] }
with_values Bars draft value =
    record draft { y = draft.y ++ value 2 ∷ []; x1 = draft.x1 ++ value 4 ∷ []; x2 = draft.x2 ++ value 5 ∷ [] }
with_values Rects draft value =
    record draft {
      y = draft.y ++ value 5 ∷ [];
      x1 = draft.x1 ++ value 2 ∷ [];
      x2 = draft.x2 ++ value 3 ∷ [];
      y2 = draft.y2 ++ value 6 ∷ [];
    }
with_values (Witness kind) draft value = draft

-- one line more, by its words
abbrev pub with_row : Kind → Draft → List Word → Draft
with_row kind draft words =
    record (with_values kind draft (λ i. integer_in i words)) { lists = draft.lists ++ vertices_from (front_length kind) words ∷ [] }
