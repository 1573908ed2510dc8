-- What is printed of a vertex is read as it was: its front by the pieces of its kind, and its neighbours.
use Rattle.std.proofs.Common.{◌≡◌, ◌≢◌, ℕ, zero, suc, ◌+◌, ◌-◌, ◌<◌, ◌≤◌, ℤ, pos, negsuc, neg_ℤ, List, [], ◌∷◌, ◌++◌, length, map, drop, refl, sym, ap, ap₂, ◌∙◌, subst, arith, lit≤, length-append, append-nil, get_or}
use Rattle.std.specs.Prelude.{codes, decimal, min, All, IsTrue}
use Rattle.std.specs.Fmt.{signed_decimal}
use Rattle.std.proofs.lemmas.List.{map-append}
use Rattle.std.proofs.lemmas.List.Elements.{All-nil, All-cons, All-append, All-map, All-weaker, All-head, All-tail, All-from_recursion}
use Rattle.figure_text.specs.declared.line_shapes.Kind.{Kind}
use Rattle.figure_text.specs.declared.front_pieces.Piece.{Piece}
use Rattle.figure_text.specs.declared.front_pieces.Piece.TheVariants.{Place, Literal, Row, Value, Last}
use Rattle.figure_text.specs.declared.line_words.Name.{Name}
use Rattle.figure_text.specs.declared.line_words.Name.TheVariants as name
use Rattle.figure_text.specs.declared.line_words.Word.{Word}
use Rattle.figure_text.specs.declared.line_words.Word.TheVariants.{Number, Closing, Named}
use Rattle.figure_text.specs.Words.{word_of, words_of, parts_of}
use Rattle.figure_text.specs.Lines.{is_natural, row_name, vertex_of, signed_value, IsVertex}
use Rattle.figure_text.specs.Pieces.{pieces, front_length, Fits, IsWithin, Along, is_long}
use Rattle.figure_text.specs.Reading.{IsPlain, IsGoodRow, vertices_from}
use Rattle.figure_text.specs.Text.{joined, name_text, front_words, vertex_line}
use Rattle.figure_text.specs.Laws.{sign_of, IsCoordinate}
use Rattle.figure_text.proofs.NumeralLemmas.{Dark, decimal-dark, signed-dark, colon-dark, word_of-signed, word_of-decimal, word_of-closing}
use Rattle.figure_text.proofs.WordLemmas.{parts_of-last, parts_of-next, Inline-spaced, IsPlain-inline}

-- neighbours as words
abbrev pub neighbour_words : List ℕ → List Word
neighbour_words us = map (λ u. word_of (decimal (u + 1))) us

pub neighbour-dark : (u : ℕ) → u < 65535 → Dark (decimal (u + 1))
neighbour-dark u small = decimal-dark (u + 1) (omega arith)

pub neighbour-word : (u : ℕ) → u < 65535 → word_of (decimal (u + 1)) ≡ Number (sign_of (pos (u + 1)))
neighbour-word u small = word_of-decimal (u + 1) (omega arith)

pub neighbours-natural : (us : List ℕ) → All (λ u. u < 65535) us → All (λ w. IsTrue (is_natural w)) (neighbour_words us)
neighbours-natural us small =
    All-map (λ w. IsTrue (is_natural w)) (λ u. word_of (decimal (u + 1))) us
    (All-weaker (λ u. u < 65535) (λ u. IsTrue (is_natural (word_of (decimal (u + 1))))) (λ u h. rw (neighbour-word u h) refl) us small)

pub neighbours-vertices : (us : List ℕ) → All (λ u. u < 65535) us → All (λ w. IsVertex w) (neighbour_words us)
neighbours-vertices us small =
    All-map (λ w. IsVertex w) (λ u. word_of (decimal (u + 1))) us
    (All-weaker (λ u. u < 65535) (λ u. IsVertex (word_of (decimal (u + 1)))) (λ u h. rw (neighbour-word u h) (omega arith, omega arith)) us small)

pub neighbours-again : (us : List ℕ) → All (λ u. u < 65535) us → map vertex_of (neighbour_words us) ≡ us
neighbours-again [] small = refl
neighbours-again (u ∷ us) small =
    let here : u < 65535 = All-head (λ u. u < 65535) u us small in
    let same : min 65535 (u + 1 - 1) ≡ u = omega arith in
    ap₂ (λ (x : ℕ) (xs : List ℕ). x ∷ xs) (ap vertex_of (neighbour-word u here) ∙ same) (neighbours-again us (All-tail (λ u. u < 65535) u us small))

-- a coordinate is read as it was
pub value-again : (z : ℤ) → IsCoordinate z → signed_value (sign_of z) ≡ z
value-again (pos n) small = let same : min 1048576 n ≡ n = omega arith in ap pos same
value-again (negsuc n) small = let same : min 1048576 (suc n) ≡ suc n = omega arith in ap (λ (k : ℕ). neg_ℤ (pos k)) same

-- as they are printed
numerals-words : (us : List ℕ) → map word_of (map (λ u. decimal (u + 1)) us) ≡ neighbour_words us
numerals-words [] = refl
numerals-words (u ∷ us) = ap (λ (ws : List Word). word_of (decimal (u + 1)) ∷ ws) (numerals-words us)

-- words of figures
pub name-dark : (name : Name) → Dark (name_text name)
name-dark x0 = grind (arith, All-from_recursion, codes, lit≤)

name-read : (name : Name) → word_of (name_text name) ≡ Named name
name-read x0 = grind arith

-- words with spaces between them
pub joined-parts : (ws : List (List ℕ)) → 0 < length ws → All Dark ws → parts_of (joined ws) ≡ ws
joined-parts [] some all = absurd (omega arith)
joined-parts (w ∷ []) some all = ap parts_of (append-nil w) ∙ parts_of-last w (All-head Dark w [] all)
joined-parts (w ∷ x ∷ ws) some all =
    parts_of-next w (joined (x ∷ ws)) (All-head Dark w (x ∷ ws) all)
    ∙ ap (λ (ps : List (List ℕ)). w ∷ ps) (joined-parts (x ∷ ws) (omega arith) (All-tail Dark w (x ∷ ws) all))

pub joined-words : (ws : List (List ℕ)) → 0 < length ws → All Dark ws → words_of (joined ws) ≡ map word_of ws
joined-words ws some all = ap (λ (ps : List (List ℕ)). map word_of ps) (joined-parts ws some all)

pub joined-plain : (ws : List (List ℕ)) → All Dark ws → IsPlain (joined ws)
joined-plain [] all = All-nil (λ b. b ≢ 10)
joined-plain (w ∷ ws) all = IsPlain-inline (joined (w ∷ ws)) (Inline-spaced (λ x. x) Dark (λ x h. h) ws (All-tail Dark w ws all) w (All-head Dark w ws all))

-- the words that a front is read as
abbrev pub read_words : List Piece → ℕ → List ℤ → List Word
read_words [] v zs = []
read_words (Place ∷ ps) v zs = Number (sign_of (pos (v + 1))) ∷ read_words ps v zs
read_words (Literal name ∷ ps) v zs = Named name ∷ read_words ps v zs
read_words (Row ∷ ps) v zs = Named (row_name (v + 1)) ∷ read_words ps v zs
read_words (Value ∷ ps) v [] = []
read_words (Value ∷ ps) v (z ∷ zs) = Number (sign_of z) ∷ read_words ps v zs
read_words (Last ∷ ps) v [] = []
read_words (Last ∷ ps) v (z ∷ zs) = Closing (sign_of z) ∷ read_words ps v zs

both : {v v' : Word} {ws ws' : List Word} → v ≡ v' → ws ≡ ws' → v ∷ ws ≡ v' ∷ ws'
both first others = ap₂ (λ (v : Word) (ws : List Word). v ∷ ws) first others

front-read : (ps : List Piece) (v : ℕ) (zs : List ℤ) → v < 4095 → All IsCoordinate zs → map word_of (front_words ps v zs) ≡ read_words ps v zs
front-read [] v zs place fine = refl
front-read (Place ∷ ps) v zs place fine = both (word_of-decimal (v + 1) (omega arith)) (front-read ps v zs place fine)
front-read (Literal name ∷ ps) v zs place fine = both (name-read name) (front-read ps v zs place fine)
front-read (Row ∷ ps) v zs place fine = both (name-read (row_name (v + 1))) (front-read ps v zs place fine)
front-read (Value ∷ ps) v [] place fine = refl
front-read (Value ∷ ps) v (z ∷ zs) place fine =
    let here = All-head IsCoordinate z zs fine in both (word_of-signed z (omega (arith, here))) (front-read ps v zs place (All-tail IsCoordinate z zs fine))
front-read (Last ∷ ps) v [] place fine = refl
front-read (Last ∷ ps) v (z ∷ zs) place fine =
    let here = All-head IsCoordinate z zs fine in both (word_of-closing z (omega (arith, here))) (front-read ps v zs place (All-tail IsCoordinate z zs fine))

front-dark : (ps : List Piece) (v : ℕ) (zs : List ℤ) → v < 4095 → All IsCoordinate zs → All Dark (front_words ps v zs)
front-dark [] v zs place fine = All-nil Dark
front-dark (Place ∷ ps) v zs place fine = All-cons Dark (decimal (v + 1)) (front_words ps v zs) (decimal-dark (v + 1) (omega arith)) (front-dark ps v zs place fine)
front-dark (Literal name ∷ ps) v zs place fine = All-cons Dark (name_text name) (front_words ps v zs) (name-dark name) (front-dark ps v zs place fine)
front-dark (Row ∷ ps) v zs place fine = All-cons Dark (name_text (row_name (v + 1))) (front_words ps v zs) (name-dark (row_name (v + 1))) (front-dark ps v zs place fine)
front-dark (Value ∷ ps) v [] place fine = All-nil Dark
front-dark (Value ∷ ps) v (z ∷ zs) place fine =
    let here = All-head IsCoordinate z zs fine in All-cons Dark (signed_decimal z) (front_words ps v zs) (signed-dark z (omega (arith, here))) (front-dark ps v zs place (All-tail IsCoordinate z zs fine))
front-dark (Last ∷ ps) v [] place fine = All-nil Dark
front-dark (Last ∷ ps) v (z ∷ zs) place fine =
    let here = All-head IsCoordinate z zs fine in All-cons Dark (signed_decimal z ++ 58 ∷ []) (front_words ps v zs) (colon-dark z (omega (arith, here))) (front-dark ps v zs place (All-tail IsCoordinate z zs fine))

-- words stand so to pieces, one by one
pub along-none : (Stands : Piece → Word → Type 0) (ws : List Word) → Along Stands [] ws
along-none Stands ws = λ i h. absurd (omega arith)

pub along-next : (Stands : Piece → Word → Type 0) (p : Piece) (w : Word) (ps : List Piece) (ws : List Word) → Stands p w → Along Stands ps ws → Along Stands (p ∷ ps) (w ∷ ws)
along-next Stands p w ps ws here rest zero h = here
along-next Stands p w ps ws here rest (suc i) h = rest i (omega arith)

-- there is a number for each piece that holds one
abbrev pub IsFilled : List Piece → List ℤ → Type 0
IsFilled [] zs = Unit {0}
IsFilled (Place ∷ ps) zs = IsFilled ps zs
IsFilled (Literal name ∷ ps) zs = IsFilled ps zs
IsFilled (Row ∷ ps) zs = IsFilled ps zs
IsFilled (Value ∷ ps) [] = ⊥
IsFilled (Value ∷ ps) (z ∷ zs) = IsFilled ps zs
IsFilled (Last ∷ ps) [] = ⊥
IsFilled (Last ∷ ps) (z ∷ zs) = IsFilled ps zs

-- then the words that are read have the shapes and the ranges of the pieces
fits-read : (ps : List Piece) (v : ℕ) (zs : List ℤ) (ws : List Word) → IsFilled ps zs → Along (Fits (v + 1)) ps (read_words ps v zs ++ ws)
fits-read [] v zs ws filled = along-none (Fits (v + 1)) ws
fits-read (Place ∷ ps) v zs ws filled = along-next (Fits (v + 1)) Place (Number (sign_of (pos (v + 1)))) _ _ (refl, refl) (fits-read ps v zs ws filled)
fits-read (Literal name ∷ ps) v zs ws filled = along-next (Fits (v + 1)) (Literal name) (Named name) _ _ refl (fits-read ps v zs ws filled)
fits-read (Row ∷ ps) v zs ws filled = along-next (Fits (v + 1)) Row (Named (row_name (v + 1))) _ _ refl (fits-read ps v zs ws filled)
fits-read (Value ∷ ps) v [] ws filled = absurd filled
fits-read (Value ∷ ps) v (z ∷ zs) ws filled = along-next (Fits (v + 1)) Value (Number (sign_of z)) _ _ refl (fits-read ps v zs ws filled)
fits-read (Last ∷ ps) v [] ws filled = absurd filled
fits-read (Last ∷ ps) v (z ∷ zs) ws filled = along-next (Fits (v + 1)) Last (Closing (sign_of z)) _ _ refl (fits-read ps v zs ws filled)

within-read : (ps : List Piece) (v : ℕ) (zs : List ℤ) (ws : List Word) → All IsCoordinate zs → IsFilled ps zs → Along IsWithin ps (read_words ps v zs ++ ws)
within-read [] v zs ws fine filled = along-none IsWithin ws
within-read (Place ∷ ps) v zs ws fine filled = along-next IsWithin Place (Number (sign_of (pos (v + 1)))) _ _ tt (within-read ps v zs ws fine filled)
within-read (Literal name ∷ ps) v zs ws fine filled = along-next IsWithin (Literal name) (Named name) _ _ tt (within-read ps v zs ws fine filled)
within-read (Row ∷ ps) v zs ws fine filled = along-next IsWithin Row (Named (row_name (v + 1))) _ _ tt (within-read ps v zs ws fine filled)
within-read (Value ∷ ps) v [] ws fine filled = absurd filled
within-read (Value ∷ ps) v (z ∷ zs) ws fine filled =
    along-next IsWithin Value (Number (sign_of z)) _ _ (All-head IsCoordinate z zs fine) (within-read ps v zs ws (All-tail IsCoordinate z zs fine) filled)
within-read (Last ∷ ps) v [] ws fine filled = absurd filled
within-read (Last ∷ ps) v (z ∷ zs) ws fine filled =
    along-next IsWithin Last (Closing (sign_of z)) _ _ (All-head IsCoordinate z zs fine) (within-read ps v zs ws (All-tail IsCoordinate z zs fine) filled)

behind-read : (ps : List Piece) (v : ℕ) (zs : List ℤ) (ws : List Word) → IsFilled ps zs → drop (length ps) (read_words ps v zs ++ ws) ≡ ws
behind-read [] v zs ws filled = refl
behind-read (Place ∷ ps) v zs ws filled = behind-read ps v zs ws filled
behind-read (Literal name ∷ ps) v zs ws filled = behind-read ps v zs ws filled
behind-read (Row ∷ ps) v zs ws filled = behind-read ps v zs ws filled
behind-read (Value ∷ ps) v [] ws filled = absurd filled
behind-read (Value ∷ ps) v (z ∷ zs) ws filled = behind-read ps v zs ws filled
behind-read (Last ∷ ps) v [] ws filled = absurd filled
behind-read (Last ∷ ps) v (z ∷ zs) ws filled = behind-read ps v zs ws filled

-- the line of a vertex, without the byte that closes it
abbrev pub line_text : List Piece → ℕ → List ℤ → List ℕ → List ℕ
line_text ps v zs us = joined (front_words ps v zs ++ map (λ u. decimal (u + 1)) us)

pub vertex_line-text : (ps : List Piece) (v : ℕ) (zs : List ℤ) (us : List ℕ) → vertex_line ps v zs us ≡ line_text ps v zs us ++ 10 ∷ []
unfolding vertex_line
vertex_line-text ps v zs us = refl

-- each line has as many words as it may have
abbrev pub AreLong : Kind → (ℕ → List ℤ) → List (List ℕ) → Type 0
AreLong kind numbers lists =
    (v : ℕ) → v < length lists → IsTrue (is_long kind (v + 1) (length (read_words (pieces kind) v (numbers v) ++ neighbour_words (get_or lists v []))))

-- such a line with its numbers in range
module _ (kind : Kind) (v : ℕ) (zs : List ℤ) (us : List ℕ) (place : v < 4095) (fine : All IsCoordinate zs) (small : All (λ u. u < 65535) us) (some : 0 < length (front_words (pieces kind) v zs)) (filled : IsFilled (pieces kind) zs) where
  numerals-dark : All Dark (map (λ u. decimal (u + 1)) us)
  numerals-dark = All-map Dark (λ u. decimal (u + 1)) us (All-weaker (λ u. u < 65535) (λ u. Dark (decimal (u + 1))) neighbour-dark us small)

  all-dark : All Dark (front_words (pieces kind) v zs ++ map (λ u. decimal (u + 1)) us)
  all-dark = All-append Dark (front_words (pieces kind) v zs) (map (λ u. decimal (u + 1)) us) (front-dark (pieces kind) v zs place fine) numerals-dark

  pub vertex-plain : IsPlain (line_text (pieces kind) v zs us)
  vertex-plain = joined-plain (front_words (pieces kind) v zs ++ map (λ u. decimal (u + 1)) us) all-dark

  pub vertex-words : words_of (line_text (pieces kind) v zs us) ≡ read_words (pieces kind) v zs ++ neighbour_words us
  vertex-words =
      joined-words (front_words (pieces kind) v zs ++ map (λ u. decimal (u + 1)) us) (let l = length-append (front_words (pieces kind) v zs) (map (λ u. decimal (u + 1)) us) in omega (arith, l, some)) all-dark
      ∙ map-append word_of (front_words (pieces kind) v zs) (map (λ u. decimal (u + 1)) us)
      ∙ ap₂ (λ (x : List Word) (y : List Word). x ++ y) (front-read (pieces kind) v zs place fine) (numerals-words us)

  pub vertex-good : IsTrue (is_long kind (v + 1) (length (read_words (pieces kind) v zs ++ neighbour_words us))) → IsGoodRow kind (v + 1) (line_text (pieces kind) v zs us)
  vertex-good long = (
    record {
      front = subst (λ (ws : List Word). Along (Fits (v + 1)) (pieces kind) ws) (sym vertex-words) (fits-read (pieces kind) v zs (neighbour_words us) filled);
      long = subst (λ (ws : List Word). IsTrue (is_long kind (v + 1) (length ws))) (sym vertex-words) long;
      vertices = subst (All (λ w. IsTrue (is_natural w))) (sym behind) (neighbours-natural us small);
    },
    record {
      front = subst (λ (ws : List Word). Along IsWithin (pieces kind) ws) (sym vertex-words) (within-read (pieces kind) v zs (neighbour_words us) fine filled);
      vertices = subst (All (λ w. IsVertex w)) (sym behind) (neighbours-vertices us small);
    },
  )
    where
      behind : drop (front_length kind) (words_of (line_text (pieces kind) v zs us)) ≡ neighbour_words us
      behind = ap (drop (front_length kind)) vertex-words ∙ behind-read (pieces kind) v zs (neighbour_words us) filled

  pub vertex-list : vertices_from (front_length kind) (words_of (line_text (pieces kind) v zs us)) ≡ us
  vertex-list = ap (vertices_from (front_length kind)) vertex-words ∙ ap (map vertex_of) (behind-read (pieces kind) v zs (neighbour_words us) filled) ∙ neighbours-again us small
