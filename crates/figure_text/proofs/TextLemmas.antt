-- Lines by their parts, and one line more.
use Rattle.std.proofs.Common.{◌≡◌, ℕ, zero, suc, ℤ, ◌+◌, ◌<◌, List, [], ◌∷◌, ◌++◌, length, map, flat_map, refl, sym, ap, ◌∙◌, add-one, get_or, arith, append_assoc}
use Rattle.std.specs.Prelude.{decimal, codes, false, ◌==◌}
use Rattle.std.proofs.lemmas.Bool.Decides.{nat_tests}
use Rattle.std.proofs.lemmas.Grind.{flat_map-append}
use Rattle.map_lists.specs.Lists.{Lists}
use Rattle.map_lists.specs.declared.ids.VertexId.{VertexId}
use Rattle.figure_text.specs.declared.front_pieces.Piece.{Piece}
use Rattle.kuratowski.specs.declared.witness.Witness.{Witness}
use Rattle.figure_text.specs.declared.line_words.Name.{Name}
use Rattle.figure_text.specs.declared.line_words.Name.TheVariants as name
use Rattle.figure_text.specs.Lines.{row_name}
use Rattle.figure_text.specs.Pieces.{row_front}
use Rattle.figure_text.specs.Text.{joined, name_text, front_words, vertex_line, vertex_lines, vertex_numbers, witness_lists, witness_lines}

pub vertex_lines-more : (pieces : List Piece) (numbers : ℕ → List ℤ) (lists : Lists) (v : ℕ) → vertex_lines pieces numbers lists (v + 1) ≡ vertex_lines pieces numbers lists v ++ vertex_line pieces v (numbers v) (get_or lists v [])
unfolding vertex_lines
vertex_lines-more pieces numbers lists v = rw add-one refl

numerals : (us : List ℕ) → flat_map (λ w. 32 ∷ w) (map (λ u. decimal (u + 1)) us) ≡ flat_map (λ u. 32 ∷ decimal (u + 1)) us
numerals [] = refl
numerals (u ∷ us) = ap (λ (x : List ℕ). (32 ∷ decimal (u + 1)) ++ x) (numerals us)

-- a line of words, by its first words and the numbers behind them
joined-numerals : (words : List (List ℕ)) (us : List ℕ) → 0 < length words → joined (words ++ map (λ u. decimal (u + 1)) us) ≡ joined words ++ flat_map (λ u. 32 ∷ decimal (u + 1)) us
joined-numerals [] us some = absurd (omega arith)
joined-numerals (w ∷ words) us some =
    ap (λ (x : List ℕ). w ++ x) (flat_map-append (λ x. 32 ∷ x) words (map (λ u. decimal (u + 1)) us) ∙ ap (λ (x : List ℕ). flat_map (λ x. 32 ∷ x) words ++ x) (numerals us))
    ∙ sym (append_assoc w (flat_map (λ x. 32 ∷ x) words) (flat_map (λ u. 32 ∷ decimal (u + 1)) us))

vertex_line-parts : (pieces : List Piece) (v : ℕ) (zs : List ℤ) (us : List ℕ) → 0 < length (front_words pieces v zs) → vertex_line pieces v zs us ≡ joined (front_words pieces v zs) ++ (flat_map (λ u. 32 ∷ decimal (u + 1)) us ++ 10 ∷ [])
unfolding vertex_line
vertex_line-parts pieces v zs us some =
    ap (λ (x : List ℕ). x ++ 10 ∷ []) (joined-numerals (front_words pieces v zs) us some) ∙ append_assoc (joined (front_words pieces v zs)) (flat_map (λ u. 32 ∷ decimal (u + 1)) us) (10 ∷ [])

-- such a line, written from its end to its front
pub line-written : (pieces : List Piece) (v : ℕ) (zs : List ℤ) (us front behind end rest : List ℕ) → 0 < length (front_words pieces v zs) → front ≡ joined (front_words pieces v zs) ++ behind → behind ≡ flat_map (λ u. 32 ∷ decimal (u + 1)) us ++ end → end ≡ 10 ∷ rest → front ≡ vertex_line pieces v zs us ++ rest
line-written pieces v zs us front behind end rest some is_front is_behind is_end =
    is_front
    ∙ ap (λ (x : List ℕ). joined (front_words pieces v zs) ++ x) (is_behind ∙ ap (λ (x : List ℕ). flat_map (λ u. 32 ∷ decimal (u + 1)) us ++ x) is_end ∙ sym (append_assoc (flat_map (λ u. 32 ∷ decimal (u + 1)) us) (10 ∷ []) rest))
    ∙ sym (append_assoc (joined (front_words pieces v zs)) (flat_map (λ u. 32 ∷ decimal (u + 1)) us ++ 10 ∷ []) rest)
    ∙ ap (λ (x : List ℕ). x ++ rest) (sym (vertex_line-parts pieces v zs us some))

-- the line of the branches or of a path, by its vertices
numerals-of : (us : List VertexId) → flat_map (λ w. 32 ∷ w) (map (λ u. decimal (u + 1)) (vertex_numbers us)) ≡ flat_map (λ (u : VertexId). 32 ∷ decimal (u.0 + 1)) us
numerals-of [] = refl
numerals-of (u ∷ us) = ap (λ (x : List ℕ). (32 ∷ decimal (u.0 + 1)) ++ x) (numerals-of us)

row_line-parts : (v : ℕ) (us : List VertexId) → vertex_line row_front v [] (vertex_numbers us) ≡ name_text (row_name (v + 1)) ++ (flat_map (λ (u : VertexId). 32 ∷ decimal (u.0 + 1)) us ++ 10 ∷ [])
unfolding vertex_line
row_line-parts v us =
    ap (λ (x : List ℕ). (name_text (row_name (v + 1)) ++ x) ++ 10 ∷ []) (numerals-of us) ∙ append_assoc (name_text (row_name (v + 1))) (flat_map (λ (u : VertexId). 32 ∷ decimal (u.0 + 1)) us) (10 ∷ [])

-- the list of path p
pub path-list : (p : ℕ) (paths : List (List VertexId)) → get_or (map vertex_numbers paths) p [] ≡ vertex_numbers (get_or paths p [])
path-list p [] = refl
path-list zero (path ∷ paths) = refl
path-list (suc p) (path ∷ paths) = path-list p paths

row-list : (witness : Witness) (p : ℕ) → get_or (witness_lists witness) (p + 1) [] ≡ vertex_numbers (get_or witness.paths p [])
row-list witness p = rw add-one (path-list p witness.paths)

-- the line of the branches, and that of one path more
pub witness_lines-first : (witness : Witness) → witness_lines witness 1 ≡ codes "branch" ++ (flat_map (λ (u : VertexId). 32 ∷ decimal (u.0 + 1)) witness.branch ++ 10 ∷ [])
unfolding vertex_lines
witness_lines-first witness = row_line-parts 0 witness.branch

later_row : (p : ℕ) → row_name (p + 1 + 1) ≡ name.Path
later_row p = let later : (p + 1 + 1 == 1) ≡ false = grind (arith, nat_tests) in rw later refl

pub witness_lines-more : (witness : Witness) (p : ℕ) → witness_lines witness (p + 1 + 1) ≡ witness_lines witness (p + 1) ++ (codes "path" ++ (flat_map (λ (u : VertexId). 32 ∷ decimal (u.0 + 1)) (get_or witness.paths p []) ++ 10 ∷ []))
witness_lines-more witness p =
    let path = get_or witness.paths p [] in
    vertex_lines-more row_front (λ v. []) (witness_lists witness) (p + 1)
    ∙ ap (λ (us : List ℕ). witness_lines witness (p + 1) ++ vertex_line row_front (p + 1) [] us) (row-list witness p)
    ∙ ap (λ (x : List ℕ). witness_lines witness (p + 1) ++ x) (row_line-parts (p + 1) path ∙ ap (λ (n : Name). name_text n ++ (flat_map (λ (u : VertexId). 32 ∷ decimal (u.0 + 1)) path ++ 10 ∷ [])) (later_row p))
