-- The lines of vertices, taken one by one.
use Rattle.std.proofs.Common.{◌≡◌, ℕ, ◌+◌, ◌<◌, List, [], ◌∷◌, ◌++◌, length, get_or, sym, ap, ◌∙◌, arith, append_assoc, append-nil, length-append, below_more}
use Rattle.std.proofs.lemmas.List.{map-append}
use Rattle.std.proofs.lemmas.List.Elements.{All-push}
use Rattle.std.proofs.lemmas.Grind.{flat_map-append}
use Rattle.std.proofs.Math.ListN.{get_or-append}
use Rattle.std.proofs.Math.Seq.{get_or-append_seam}
use Rattle.figure_text.specs.declared.line_shapes.Kind.{Kind}
use Rattle.figure_text.specs.declared.line_shapes.Kind.TheVariants.{Grid, Bars, Rects, Witness}
use Rattle.figure_text.specs.declared.line_words.Word.{Word}
use Rattle.figure_text.specs.Words.{words_of}
use Rattle.figure_text.specs.Reading.{closed, IsPlain, IsGoodRow, Rows, of_lines}
use Rattle.figure_text.specs.Drafts.{drafted, with_row}

-- one line more
pub of_lines-more : {A : Type 0} (value : List Word → A) (lines : List (List ℕ)) (line : List ℕ) → of_lines value (lines ++ line ∷ []) ≡ of_lines value lines ++ value (words_of line) ∷ []
of_lines-more value lines line = map-append (λ l. value (words_of l)) lines (line ∷ [])

pub drafted-more : (kind : Kind) (lines : List (List ℕ)) (line : List ℕ) → drafted kind (lines ++ line ∷ []) ≡ with_row kind (drafted kind lines) (words_of line)
drafted-more (Grid job) lines line = simp of_lines-more
drafted-more Bars lines line = simp of_lines-more
drafted-more Rects lines line = simp of_lines-more
drafted-more (Witness kind) lines line = simp of_lines-more

pub good-more : (kind : Kind) (lines : List (List ℕ)) (line : List ℕ) → ((i : ℕ) → i < length lines → IsGoodRow kind (i + 1) (get_or lines i [])) → IsGoodRow kind (length lines + 1) line → (i : ℕ) → i < length (lines ++ line ∷ []) → IsGoodRow kind (i + 1) (get_or (lines ++ line ∷ []) i [])
good-more kind lines line good here =
    λ i h. below_more (λ (k : ℕ). IsGoodRow kind (k + 1) (get_or (lines ++ line ∷ []) k [])) (length lines)
    (λ k below. rw (get_or-append lines (line ∷ []) [] k below) (good k below))
    (rw (get_or-append_seam lines line [] []) here) i (omega (arith, length-append lines (line ∷ [])))

pub closed-more : (lines : List (List ℕ)) (line rest : List ℕ) → closed lines ++ (line ++ 10 ∷ rest) ≡ closed (lines ++ line ∷ []) ++ rest
closed-more lines line rest =
    sym (ap (λ (x : List ℕ). x ++ rest) (flat_map-append (λ (l : List ℕ). l ++ 10 ∷ []) lines (line ∷ []))
    ∙ append_assoc (closed lines) (closed (line ∷ [])) rest
    ∙ ap (λ (x : List ℕ). closed lines ++ (x ++ rest)) (append-nil (line ++ 10 ∷ []))
    ∙ ap (λ (x : List ℕ). closed lines ++ x) (append_assoc line (10 ∷ []) rest))

pub Rows-more : (kind : Kind) (text : List ℕ) (lines : List (List ℕ)) (line rest : List ℕ) → Rows kind text lines (line ++ 10 ∷ rest) → IsPlain line → IsGoodRow kind (length lines + 1) line → Rows kind text (lines ++ line ∷ []) rest
Rows-more kind text lines line rest rows plain good =
    record {
      parts = rows.parts ∙ closed-more lines line rest;
      plain = All-push IsPlain lines line rows.plain plain;
      good = good-more kind lines line rows.good good;
    }
