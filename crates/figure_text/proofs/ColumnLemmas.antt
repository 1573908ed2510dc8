-- What is printed of the columns of bars is read as it was.
use Rattle.std.proofs.Common.{◌≡◌, ℕ, ℤ, List, [], ◌∷◌, ◌++◌, map, refl, sym, ap, ap₂, ◌∙◌, subst, arith}
use Rattle.std.specs.Prelude.{codes, All, IsTrue}
use Rattle.std.specs.Fmt.{signed_decimal}
use Rattle.std.proofs.lemmas.List.Elements.{All-map, All-weaker, All-head, All-tail}
use Rattle.figure_text.specs.declared.line_words.Word.{Word}
use Rattle.figure_text.specs.declared.line_words.Word.TheVariants.{Number, Named}
use Rattle.figure_text.specs.declared.line_words.Name.TheVariants.{Columns}
use Rattle.figure_text.specs.Words.{word_of, words_of}
use Rattle.figure_text.specs.Lines.{is_number, IsInside, IsColumnsLine, ColumnsInRange, integer_of}
use Rattle.figure_text.specs.Reading.{IsPlain}
use Rattle.figure_text.specs.Figures.{columns_of}
use Rattle.figure_text.specs.Text.{columns_line, spaced_signed}
use Rattle.figure_text.specs.Laws.{sign_of, IsCoordinate}
use Rattle.figure_text.proofs.NumeralLemmas.{Dark, signed-dark, word_of-signed}
use Rattle.figure_text.proofs.WordLemmas.{words_of-spaced, Inline-spaced, IsPlain-inline}
use Rattle.figure_text.proofs.RoundLemmas.{name-dark, value-again}

-- the line of the columns, without the byte that closes it
abbrev pub columns_text : List ℤ → List ℕ
columns_text columns = codes "columns" ++ spaced_signed columns

pub columns_line-text : (columns : List ℤ) → columns_line columns ≡ columns_text columns ++ 10 ∷ []
unfolding columns_line
columns_line-text columns = refl

coordinate-dark : (z : ℤ) → IsCoordinate z → Dark (signed_decimal z)
coordinate-dark z small = signed-dark z (omega arith)

coordinate-word : (z : ℤ) → IsCoordinate z → word_of (signed_decimal z) ≡ Number (sign_of z)
coordinate-word z small = word_of-signed z (omega arith)

columns-words : (columns : List ℤ) → All IsCoordinate columns → words_of (columns_text columns) ≡ Named Columns ∷ map (λ z. word_of (signed_decimal z)) columns
columns-words columns fine = words_of-spaced signed_decimal IsCoordinate coordinate-dark columns fine (codes "columns") (name-dark Columns)

pub columns-plain : (columns : List ℤ) → All IsCoordinate columns → IsPlain (columns_text columns)
columns-plain columns fine = IsPlain-inline (columns_text columns) (Inline-spaced signed_decimal IsCoordinate coordinate-dark columns fine (codes "columns") (name-dark Columns))

columns-numbers : (columns : List ℤ) → All IsCoordinate columns → All (λ w. IsTrue (is_number w)) (map (λ z. word_of (signed_decimal z)) columns)
columns-numbers columns fine =
    All-map (λ w. IsTrue (is_number w)) (λ z. word_of (signed_decimal z)) columns
    (All-weaker IsCoordinate (λ z. IsTrue (is_number (word_of (signed_decimal z)))) (λ z h. rw (coordinate-word z h) refl) columns fine)

columns-inside : (columns : List ℤ) → All IsCoordinate columns → All (λ w. IsInside w) (map (λ z. word_of (signed_decimal z)) columns)
columns-inside columns fine =
    All-map (λ w. IsInside w) (λ z. word_of (signed_decimal z)) columns
    (All-weaker IsCoordinate (λ z. IsInside (word_of (signed_decimal z))) (λ z h. rw (coordinate-word z h) h) columns fine)

pub columns-shape : (columns : List ℤ) → All IsCoordinate columns → IsColumnsLine (words_of (columns_text columns))
columns-shape columns fine =
    subst (λ (ws : List Word). IsColumnsLine ws) (sym (columns-words columns fine)) (record { word = refl; numbers = columns-numbers columns fine })

pub columns-range : (columns : List ℤ) → All IsCoordinate columns → ColumnsInRange (words_of (columns_text columns))
columns-range columns fine = subst (λ (ws : List Word). ColumnsInRange ws) (sym (columns-words columns fine)) (columns-inside columns fine)

integers-again : (columns : List ℤ) → All IsCoordinate columns → map integer_of (map (λ z. word_of (signed_decimal z)) columns) ≡ columns
integers-again [] fine = refl
integers-again (z ∷ columns) fine =
    let here : IsCoordinate z = All-head IsCoordinate z columns fine in
    ap₂ (λ (x : ℤ) (xs : List ℤ). x ∷ xs) (ap integer_of (coordinate-word z here) ∙ value-again z here) (integers-again columns (All-tail IsCoordinate z columns fine))

pub columns-again : (columns : List ℤ) → All IsCoordinate columns → columns_of (words_of (columns_text columns)) ≡ columns
columns-again columns fine = ap columns_of (columns-words columns fine) ∙ integers-again columns fine
