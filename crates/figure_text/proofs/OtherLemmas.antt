-- Lines that are none of a figure: with a word that is neither a number nor a word of figures, or with too many words.
use Rattle.std.proofs.Common.{◌≡◌, ◌≢◌, ℕ, ◌-◌, ◌<◌, ◌≤◌, Bool, true, false, List, ◌∷◌, length, drop, get_or, length-append, length-drop, Option, Some, None, refl, sym, ap, ◌∙◌, inl, inr, arith}
use Rattle.std.proofs.Math.Seq.{get_or-append_seam}
use Rattle.std.proofs.lemmas.Bool.{cases_lt, true≢false}
use Rattle.std.proofs.lemmas.List.{get_or-drop}
use Rattle.std.proofs.lemmas.List.Elements.{All-get_or}
use Rattle.std.specs.Prelude.{All, IsTrue}
use Rattle.figure_text.specs.declared.front_pieces.Piece.{Piece}
use Rattle.figure_text.specs.declared.front_pieces.Piece.TheVariants.{Place, Literal, Row, Value, Last}
use Rattle.figure_text.specs.declared.line_words.Name.{Name}
use Rattle.figure_text.specs.declared.line_words.Word.{Word}
use Rattle.figure_text.specs.declared.line_words.Word.TheVariants.{Number, Closing, Named, Other}
use Rattle.figure_text.specs.declared.line_shapes.Judged.{Judged}
use Rattle.figure_text.specs.declared.line_shapes.Judged.TheVariants.{Good, Bad, Limit}
use Rattle.figure_text.specs.declared.line_shapes.Kind.{Kind}
use Rattle.figure_text.specs.declared.line_shapes.Kind.TheVariants.{Grid, Bars, Rects, Witness}
use Rattle.figure_text.specs.Words.{word_at, words_of, HasOther}
use Rattle.figure_text.specs.Lines.{is_natural, is_number, is_closing, row_name, kind_of, IsTail, IsFirstLine, IsColumnsLine}
use Rattle.figure_text.specs.Pieces.{pieces, front_length, Fits}
use Rattle.figure_text.specs.Reading.{IsRow}

is_good : Judged → Bool
is_good Good = true
is_good Bad = false
is_good Limit = false

-- what is bad is not good
pub bad-good : {P : Type 0} → (let b : Judged = Bad in b ≡ Good) → P
unfolding is_good
bad-good e = absurd (true≢false (sym (ap is_good e)))

is_known : Word → Bool
is_known (Number z) = true
is_known (Closing z) = true
is_known (Named name) = true
is_known Other = false

module _ (words : List Word) (has : HasOther words) where
  abbrev at : ℕ
  at = length has.front

  within : at < length words
  within = let n = length-append has.front (Other ∷ has.rest) in let e = ap length has.is in omega (arith, n, e)

  other : word_at words at ≡ Other
  other = ap (λ (ws : List Word). word_at ws at) has.is ∙ get_or-append_seam has.front Other has.rest Other

  -- it stands where no test passes that it fails, at one place or from one on
  away : (test : Word → Bool) → test Other ≡ false → (k : ℕ) → IsTrue (test (word_at words k)) → at ≢ k
  away test fails k passes same = true≢false (sym passes ∙ (ap test (ap (λ (j : ℕ). word_at words j) (sym same) ∙ other) ∙ fails))

  named : (k : ℕ) (name : Name) → word_at words k ≡ Named name → at ≢ k
  unfolding is_known
  named k name is = away is_known refl k (ap is_known is)

  before : (test : Word → Bool) → test Other ≡ false → (k : ℕ) → All (λ w. IsTrue (test w)) (drop k words) → at < k
  before test fails k all = elim (cases_lt at k) [
    | inl less ↦ less
    | inr from ↦
        let here = All-get_or (λ w. IsTrue (test w)) (drop k words) (at - k) Other (omega (arith, length-drop k words, from, within)) all in
        let same : get_or (drop k words) (at - k) Other ≡ Other = get_or-drop k words (at - k) Other ∙ (ap (λ (j : ℕ). get_or words j Other) (omega (arith, from)) ∙ other) in
        absurd (true≢false (sym here ∙ (ap test same ∙ fails)))
  ]

  -- and at no word of the front of a line
  off : (place : ℕ) (p : Piece) (k : ℕ) → Fits place p (word_at words k) → at ≢ k
  off place Place k fits = away is_natural refl k fits.0
  off place (Literal name) k fits = named k name fits
  off place Row k fits = named k (row_name place) fits
  off place Value k fits = away is_number refl k fits
  off place Last k fits = away is_closing refl k fits

  -- so the line is none of a vertex, of branches or of a path, and none of columns
  pub other-row : (kind : Kind) (place : ℕ) → ¬ IsRow kind place words
  other-row kind place row =
      let front : at < front_length kind = before is_natural refl (front_length kind) row.vertices in
      off place (get_or (pieces kind) at Row) at (row.front at front) refl

  pub other-columns : ¬ IsColumnsLine words
  other-columns row = omega (arith, before is_number refl 1 row.numbers, named 0 _ row.word)

-- a first line has at most five words
pub first-short : (line : List ℕ) → IsFirstLine line → length (words_of line) ≤ 5
first-short line first = grind (arith, kind_of, words_of, Option, Kind, IsTail, length, None, Some, Grid, Bars, Rects, Witness)
