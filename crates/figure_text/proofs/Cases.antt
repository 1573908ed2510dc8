-- The definitions, run on worked cases. Each is a computation: the two sides come to the same value.
use Rattle.std.specs.Prelude.{ℕ, ◌≡◌, List, [], ◌∷◌, ◌++◌, codes, refl, flat_map, map}
use Rattle.std.specs.Fmt.{digits}
use Rattle.kuratowski.specs.declared.witness.Kind.{Kind}
use Rattle.kuratowski.specs.declared.witness.Kind.TheVariants.{K5, K33}
use Rattle.kuratowski.specs.declared.witness.Witness.{Witness}
use Rattle.kuratowski.specs.Witnesses.{pairs_of}
use Rattle.figure_text.specs.Figures.{ids}
use Rattle.figure_text.specs.Text.{witness_first_line, vertex_line, vertex_lines, witness_text}

-- lines, each closed by byte 10
abbrev closed : List (List ℕ) → List ℕ
closed lines = flat_map (λ l. l ++ 10 ∷ []) lines

-- the witness whose paths are single edges
abbrev of_edges : Kind → List ℕ → Witness
of_edges kind branch = record { kind = kind; branch = ids branch; paths = map (λ p. ids (p.0 ∷ p.1 ∷ [])) (pairs_of kind) }

five : witness_text 1 (codes "D~{") (of_edges K5 (0 ∷ 1 ∷ 2 ∷ 3 ∷ 4 ∷ [])) ≡ closed (
    codes "figure 1 witness K5 D~{"
    ∷ codes "branch 1 2 3 4 5"
    ∷ codes "path 1 2"
    ∷ codes "path 1 3"
    ∷ codes "path 1 4"
    ∷ codes "path 1 5"
    ∷ codes "path 2 3"
    ∷ codes "path 2 4"
    ∷ codes "path 2 5"
    ∷ codes "path 3 4"
    ∷ codes "path 3 5"
    ∷ codes "path 4 5" ∷ [])
unfolding witness_first_line vertex_lines vertex_line digits
five = refl

three_by_three : witness_text 1 (codes "EFz_") (of_edges K33 (0 ∷ 1 ∷ 2 ∷ 3 ∷ 4 ∷ 5 ∷ [])) ≡ closed (
    codes "figure 1 witness K33 EFz_"
    ∷ codes "branch 1 2 3 4 5 6"
    ∷ codes "path 1 4"
    ∷ codes "path 1 5"
    ∷ codes "path 1 6"
    ∷ codes "path 2 4"
    ∷ codes "path 2 5"
    ∷ codes "path 2 6"
    ∷ codes "path 3 4"
    ∷ codes "path 3 5"
    ∷ codes "path 3 6" ∷ [])
unfolding witness_first_line vertex_lines vertex_line digits
three_by_three = refl
