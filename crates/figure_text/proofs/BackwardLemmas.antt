-- A list from its end: one entry more, and the text of it before the texts of those behind.
use Rattle.std.proofs.Common.{◌≡◌, ℕ, ◌+◌, ◌*◌, ◌-◌, ◌<◌, List, [], ◌∷◌, ◌++◌, length, take, drop, flat_map, get_or, refl, subst, arith, rules, ap, sym, ◌∙◌, add-one, append_assoc, ℤ}
use Rattle.std.proofs.Math.Nat.{mul-suc}
use Rattle.std.specs.Prelude.{codes, decimal}
use Rattle.std.specs.List.{sum_by}
use Rattle.std.proofs.lemmas.List.{drop-drop, drop_more}
use Rattle.std.proofs.lemmas.List.Sums.{sum_by_more}
use Rattle.map_lists.specs.Lists.{Lists}
use Rattle.figure_text.specs.declared.front_pieces.Piece.{Piece}
use Rattle.figure_text.specs.Text.{joined, first_line, vertex_line, vertex_lines, fronts_room}
use Rattle.figure_text.proofs.TextLemmas.{vertex_lines-more}

module _ {X : Type 0} (xs : List X) (k : ℕ) (d : X) (less : k < length xs) where
  drop_back : drop (length xs - (k + 1)) xs ≡ get_or xs (length xs - 1 - k) d ∷ drop (length xs - k) xs
  drop_back =
      let here : length xs - (k + 1) ≡ length xs - 1 - k = omega arith in
      let behind : length xs - 1 - k + 1 ≡ length xs - k = omega arith in
      rw (here, drop_more xs (length xs - 1 - k) d (omega arith), behind) refl

  pub texts_back : (text : X → List ℕ) (bytes behind : List ℕ) → bytes ≡ text (get_or xs (length xs - 1 - k) d) ++ (flat_map text (drop (length xs - k) xs) ++ behind) → bytes ≡ flat_map text (drop (length xs - (k + 1)) xs) ++ behind
  texts_back text bytes behind is = rw (drop_back, append_assoc) is

  pub entry_back : (bytes behind : List X) → bytes ≡ get_or xs (length xs - 1 - k) d ∷ (drop (length xs - k) xs ++ behind) → bytes ≡ drop (length xs - (k + 1)) xs ++ behind
  entry_back bytes behind is = rw drop_back is

-- the line before those that are written
pub lines_back :
    (pieces : List Piece) (numbers : ℕ → List ℤ) (lists : Lists) (k : ℕ) (line rest whole : List ℕ) → k < length lists
    → line ≡ vertex_line pieces (length lists - 1 - k) (numbers (length lists - 1 - k)) (get_or lists (length lists - 1 - k) []) ++ rest
    → vertex_lines pieces numbers lists (length lists - k) ++ rest ≡ whole → vertex_lines pieces numbers lists (length lists - (k + 1)) ++ line ≡ whole
lines_back pieces numbers lists k line rest whole less is before =
    let here : length lists - (k + 1) ≡ length lists - 1 - k = omega arith in
    let behind : length lists - k ≡ length lists - 1 - k + 1 = omega arith in
    rw (here, is, ← append_assoc, ← vertex_lines-more pieces numbers lists (length lists - 1 - k), ← behind) before

-- no line is left before them
pub lines_whole : (pieces : List Piece) (numbers : ℕ → List ℤ) (lists : Lists) (k : ℕ) (rest whole : List ℕ) → k ≡ length lists → vertex_lines pieces numbers lists (length lists - k) ++ rest ≡ whole → rest ≡ whole
unfolding vertex_lines
lines_whole pieces numbers lists k rest whole all before =
    let none : length lists - k ≡ 0 = omega arith in
    subst (λ m. vertex_lines pieces numbers lists m ++ rest ≡ whole) none before

-- the room for the lines before those that are written, and for one of them
pub room_back : (lists : Lists) (k : ℕ) → k < length lists
    → sum_by length (take (length lists - k) lists) ≡ sum_by length (take (length lists - (k + 1)) lists) + length (get_or lists (length lists - 1 - k) [])
room_back lists k less =
    let here : length lists - (k + 1) ≡ length lists - 1 - k = omega arith in
    let behind : length lists - k ≡ length lists - 1 - k + 1 = omega arith in
    rw (here, behind) (sum_by_more length lists (length lists - 1 - k) [] (omega arith))

-- the same of the fronts
pub fronts_back : (longest n k : ℕ) → k < n → fronts_room longest (n - k) ≡ fronts_room longest (n - (k + 1)) + (longest + 1)
unfolding fronts_room
fronts_back longest n k less =
    let behind : n - k ≡ n - (k + 1) + 1 = omega arith in
    ap (λ (m : ℕ). (longest + 1) * m) (behind ∙ add-one (n - (k + 1))) ∙ mul-suc (longest + 1) (n - (k + 1))

-- the fronts of lines, put together from their ends
pub bar_words : (v y a b rest : List ℕ) → v ++ 32 ∷ 121 ∷ 32 ∷ (y ++ 32 ∷ 120 ∷ 32 ∷ (a ++ 32 ∷ (b ++ 58 ∷ rest))) ≡ joined (v ∷ codes "y" ∷ y ∷ codes "x" ∷ a ∷ (b ++ 58 ∷ []) ∷ []) ++ rest
bar_words v y a b rest = search (rules, append_assoc)

pub rect_words : (v a b c d rest : List ℕ) → v ++ 32 ∷ 120 ∷ 32 ∷ (a ++ 32 ∷ (b ++ 32 ∷ 121 ∷ 32 ∷ (c ++ 32 ∷ (d ++ 58 ∷ rest)))) ≡ joined (v ∷ codes "x" ∷ a ∷ b ∷ codes "y" ∷ c ∷ (d ++ 58 ∷ []) ∷ []) ++ rest
rect_words v a b c d rest = search (rules, append_assoc)

-- a first line, part by part from its end
pub first_line-written : (k m n l : ℕ) (word rest a b c d e f : List ℕ)
    → a ≡ codes "figure" ++ b → b ≡ 32 ∷ decimal m ++ c → m ≡ k → c ≡ 32 ∷ d → d ≡ word ++ e → e ≡ 32 ∷ decimal l ++ f → l ≡ n → f ≡ 10 ∷ rest
    → a ≡ first_line k word n ++ rest
unfolding first_line
first_line-written k m n l word rest a b c d e f ab bc mk cd de ef ln fr = rw (ab, bc, mk, cd, de, ef, ln, fr) (search (rules, append_assoc))

-- what stands behind the space at `start`
pub behind_space : (row rest : List ℕ) (start : ℕ) → drop start row ≡ 32 ∷ rest → drop (start + 1) row ≡ rest
behind_space row rest start is = sym (drop-drop 1 start row) ∙ ap (λ (xs : List ℕ). drop 1 xs) is
