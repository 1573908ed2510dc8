-- Lines that are made one for each vertex.
use Rattle.std.proofs.Common.{◌≡◌, ℕ, zero, suc, ◌+◌, ◌<◌, ◌≤◌, List, [], ◌∷◌, ◌++◌, length, take, get_or, refl, sym, ap, ◌∙◌, arith, append-nil, length-append, add-one}
use Rattle.std.proofs.lemmas.List.{take_more}
use Rattle.std.proofs.lemmas.List.Elements.{All-nil, All-push}
use Rattle.std.proofs.lemmas.Grind.{flat_map-append}
use Rattle.std.specs.Prelude.{All}
use Rattle.figure_text.specs.declared.line_shapes.Kind.{Kind}
use Rattle.figure_text.specs.declared.line_words.Word.{Word}
use Rattle.figure_text.specs.Words.{words_of}
use Rattle.figure_text.specs.Text.{texts}
use Rattle.figure_text.specs.Reading.{closed, IsPlain, IsGoodRow, Rows, of_lines}
use Rattle.figure_text.proofs.RowLemmas.{of_lines-more, good-more}

-- the lines of 0 to n - 1
abbrev pub lines_upto : (ℕ → List ℕ) → ℕ → List (List ℕ)
lines_upto line zero = []
lines_upto line (suc n) = lines_upto line n ++ line n ∷ []

pub length-lines_upto : (line : ℕ → List ℕ) (n : ℕ) → length (lines_upto line n) ≡ n
length-lines_upto line zero = refl
length-lines_upto line (suc n) = length-append (lines_upto line n) (line n ∷ []) ∙ ap (λ (k : ℕ). k + 1) (length-lines_upto line n) ∙ add-one n

pub closed-lines_upto : (line : ℕ → List ℕ) (n : ℕ) → closed (lines_upto line n) ≡ texts (λ v. line v ++ 10 ∷ []) n
closed-lines_upto line zero = refl
closed-lines_upto line (suc n) =
    flat_map-append (λ (l : List ℕ). l ++ 10 ∷ []) (lines_upto line n) (line n ∷ [])
    ∙ ap (λ (x : List ℕ). x ++ ((line n ++ 10 ∷ []) ++ [])) (closed-lines_upto line n)
    ∙ ap (λ (x : List ℕ). texts (λ v. line v ++ 10 ∷ []) n ++ x) (append-nil (line n ++ 10 ∷ []))

plain-lines_upto : (line : ℕ → List ℕ) (n m : ℕ) → m ≤ n → ((v : ℕ) → v < n → IsPlain (line v)) → All IsPlain (lines_upto line m)
plain-lines_upto line n zero le each = All-nil IsPlain
plain-lines_upto line n (suc m) le each = All-push IsPlain (lines_upto line m) (line m) (plain-lines_upto line n m (omega arith) each) (each m (omega arith))

good-lines_upto : (kind : Kind) (line : ℕ → List ℕ) (n m : ℕ) → m ≤ n → ((v : ℕ) → v < n → IsGoodRow kind (v + 1) (line v)) → (i : ℕ) → i < length (lines_upto line m) → IsGoodRow kind (i + 1) (get_or (lines_upto line m) i [])
good-lines_upto kind line n zero le each = λ i h. absurd (omega arith)
good-lines_upto kind line n (suc m) le each =
    good-more kind (lines_upto line m) (line m) (good-lines_upto kind line n m (omega arith) each) (rw (length-lines_upto line m) (each m (omega arith)))

-- such lines are the lines of vertices
pub Rows-lines_upto : (kind : Kind) (line : ℕ → List ℕ) (n : ℕ) (rest : List ℕ) → ((v : ℕ) → v < n → IsPlain (line v)) → ((v : ℕ) → v < n → IsGoodRow kind (v + 1) (line v)) → Rows kind (closed (lines_upto line n) ++ rest) (lines_upto line n) rest
Rows-lines_upto kind line n rest plain good =
    record {
      parts = refl;
      plain = plain-lines_upto line n n (omega arith) plain;
      good = good-lines_upto kind line n n (omega arith) good;
    }

-- what they give, one by one
pub of_lines-upto : {A : Type 0} (value : List Word → A) (line : ℕ → List ℕ) (xs : List A) (d : A) (m : ℕ) → m ≤ length xs → ((v : ℕ) → v < length xs → value (words_of (line v)) ≡ get_or xs v d) → of_lines value (lines_upto line m) ≡ take m xs
of_lines-upto value line xs d zero le each = refl
of_lines-upto value line xs d (suc m) le each =
    let within : m < length xs = omega arith in
    of_lines-more value (lines_upto line m) (line m)
    ∙ ap (λ x. x ++ value (words_of (line m)) ∷ []) (of_lines-upto value line xs d m (omega arith) each)
    ∙ ap (λ x. take m xs ++ x ∷ []) (each m within)
    ∙ sym (take_more xs m d within)
    ∙ ap (λ (k : ℕ). take k xs) (add-one m)
