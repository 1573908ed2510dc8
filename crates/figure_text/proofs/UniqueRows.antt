-- Lines are cut from a text in one way.
use Rattle.std.proofs.Common.{◌≡◌, ◌≢◌, ℕ, ◌+◌, ◌<◌, ◌≤◌, List, [], ◌∷◌, ◌++◌, length, get_or, refl, sym, ap, ◌∙◌, subst, arith, append_assoc, append-nil, length-append, inl, inr}
use Rattle.std.proofs.lemmas.List.Elements.{All-head, All-tail}
use Rattle.std.proofs.lemmas.Bool.{cases_lt}
use Rattle.std.proofs.Math.Seq.{get_or-append_seam}
use Rattle.std.specs.Prelude.{All}
use Rattle.figure_text.specs.declared.line_shapes.Kind.{Kind}
use Rattle.figure_text.specs.declared.fault.TextFault.{TextFault}
use Rattle.figure_text.specs.declared.fault.TextFault.TheVariants.{BadLine, EndInFigure, Limit, NoMemory}
use Rattle.figure_text.specs.Words.{words_of}
use Rattle.figure_text.specs.Reading.{closed, IsPlain, IsLine, IsRow, RowInRange, IsGoodRow, Rows, StopsAt, RowsFail}

-- the first line of a text, and what is left
pub front-unique : (l l' r r' : List ℕ) → IsPlain l → IsPlain l' → l ++ 10 ∷ r ≡ l' ++ 10 ∷ r' → (l ≡ l') × (r ≡ r')
front-unique [] [] r r' plain plain' e = (refl, cc)
front-unique [] (b ∷ l') r r' plain plain' e = let here : b ≡ 10 = cc in absurd (All-head (λ b. b ≢ 10) b l' plain' here)
front-unique (b ∷ l) [] r r' plain plain' e = let here : b ≡ 10 = cc in absurd (All-head (λ b. b ≢ 10) b l plain here)
front-unique (b ∷ l) (c ∷ l') r r' plain plain' e =
    let head : b ≡ c = cc in
    let tail : l ++ 10 ∷ r ≡ l' ++ 10 ∷ r' = cc in
    let rest = front-unique l l' r r' (All-tail (λ b. b ≢ 10) b l plain) (All-tail (λ b. b ≢ 10) c l' plain') tail in
    (cons head rest.0, rest.1)
  where
    cons : {b c : ℕ} {xs ys : List ℕ} → b ≡ c → xs ≡ ys → b ∷ xs ≡ c ∷ ys
    cons p q = cc

pub IsLine-unique : (text l l' r r' : List ℕ) → IsLine text l r → IsLine text l' r' → (l ≡ l') × (r ≡ r')
IsLine-unique text l l' r r' is is' = front-unique l l' r r' is.plain is'.plain (sym is.parts ∙ is'.parts)

pub plain-front : (l r : List ℕ) → IsPlain (l ++ 10 ∷ r) → ⊥
plain-front [] r plain = All-head (λ b. b ≢ 10) 10 r plain refl
plain-front (b ∷ l) r plain = plain-front l r (All-tail (λ b. b ≢ 10) b (l ++ 10 ∷ r) plain)

pub IsPlain-no_line : (text l r : List ℕ) → IsPlain text → IsLine text l r → ⊥
IsPlain-no_line text l r plain is = plain-front l r (subst (λ (x : List ℕ). IsPlain x) is.parts plain)

-- of two lists of lines at the front of a text, the longer begins with the shorter
pub closed-cons : (l : List ℕ) (lines : List (List ℕ)) (rest : List ℕ) → closed (l ∷ lines) ++ rest ≡ l ++ 10 ∷ (closed lines ++ rest)
closed-cons l lines rest = append_assoc (l ++ 10 ∷ []) (closed lines) rest ∙ append_assoc l (10 ∷ []) (closed lines ++ rest)

closed-common : (lines lines' : List (List ℕ)) (rest rest' : List ℕ) → All IsPlain lines → All IsPlain lines' → closed lines ++ rest ≡ closed lines' ++ rest' → length lines ≤ length lines' → (more : List (List ℕ)) × (lines' ≡ lines ++ more) × (rest ≡ closed more ++ rest')
closed-common [] lines' rest rest' plain plain' e le = (lines', refl, e)
closed-common (l ∷ lines) [] rest rest' plain plain' e le = absurd (omega arith)
closed-common (l ∷ lines) (l' ∷ lines') rest rest' plain plain' e le =
    let same = front-unique l l' (closed lines ++ rest) (closed lines' ++ rest') (All-head IsPlain l lines plain) (All-head IsPlain l' lines' plain') (sym (closed-cons l lines rest) ∙ e ∙ closed-cons l' lines' rest') in
    with_first l l' lines lines' rest rest' same.0 (closed-common lines lines' rest rest' (All-tail IsPlain l lines plain) (All-tail IsPlain l' lines' plain') same.1 (omega arith))
  where
    with_first : (l l' : List ℕ) (lines lines' : List (List ℕ)) (rest rest' : List ℕ) → l ≡ l' → (more : List (List ℕ)) × (lines' ≡ lines ++ more) × (rest ≡ closed more ++ rest') → (more : List (List ℕ)) × (l' ∷ lines' ≡ (l ∷ lines) ++ more) × (rest ≡ closed more ++ rest')
    with_first l l' lines lines' rest rest' same (more, is, left) = let joined : l' ∷ lines' ≡ l ∷ (lines ++ more) = cc in (more, joined, left)

-- behind equally many lines of vertices the same is left
no-more : (lines more : List (List ℕ)) → length lines ≡ length (lines ++ more) → more ≡ []
no-more lines [] e = refl
no-more lines (l ∷ more) e = absurd (omega (arith, length-append lines (l ∷ more)))

pub Rows-unique : (kind : Kind) (text : List ℕ) (lines lines' : List (List ℕ)) (rest rest' : List ℕ) → Rows kind text lines rest → Rows kind text lines' rest' → length lines ≡ length lines' → (lines ≡ lines') × (rest ≡ rest')
Rows-unique kind text lines lines' rest rest' rows rows' e =
    let common = closed-common lines lines' rest rest' rows.plain rows'.plain (sym rows.parts ∙ rows'.parts) (omega arith) in
    let none : common.0 ≡ [] = no-more lines common.0 (e ∙ ap length common.1) in (
      sym (common.1 ∙ ap (λ (more : List (List ℕ)). lines ++ more) none ∙ append-nil lines),
      common.2 ∙ ap (λ (more : List (List ℕ)). closed more ++ rest') none,
    )

-- why a line that is due does not come, by its shape, the ranges of its numbers, and its number
abbrev pub Why : (List ℕ → Type 0) → (List ℕ → Type 0) → ℕ → ℕ → List ℕ → TextFault → Type 0
Why shape range number first rest (BadLine k) = (line : List ℕ) × (left : List ℕ) × IsLine rest line left × (¬ shape line) × (k ≡ number)
Why shape range number first rest (Limit k) =
    (line : List ℕ) × (left : List ℕ) × IsLine rest line left × shape line × (¬ range line) × (k ≡ number)
Why shape range number first rest (EndInFigure k) = IsPlain rest × (k ≡ first)
Why shape range number first rest NoMemory = ⊥

-- where there is a cause, no good line comes
pub Why-not_good : (shape range : List ℕ → Type 0) (number first : ℕ) (rest : List ℕ) (fault : TextFault) → Why shape range number first rest fault → (line left : List ℕ) → IsLine rest line left → shape line → range line → ⊥
Why-not_good shape range number first rest (BadLine k) (line', left', is', not, same) line left is good within =
    not (subst shape (IsLine-unique rest line line' left left' is is').0 good)
Why-not_good shape range number first rest (Limit k) (line', left', is', shaped, not, same) line left is good within =
    not (subst range (IsLine-unique rest line line' left left' is is').0 within)
Why-not_good shape range number first rest (EndInFigure k) (plain, same) line left is good within = IsPlain-no_line rest line left plain is
Why-not_good shape range number first rest NoMemory none line left is good within = none

-- there is one cause
pub Why-unique : (shape range : List ℕ → Type 0) (number first : ℕ) (rest : List ℕ) (fault fault' : TextFault) → Why shape range number first rest fault → Why shape range number first rest fault' → fault ≡ fault'
Why-unique shape range number first rest (BadLine k) (BadLine k') (line, left, is, not, same) (line', left', is', not', same') = ap (λ (j : ℕ). BadLine j) (same ∙ sym same')
Why-unique shape range number first rest (BadLine k) (Limit k') (line, left, is, not, same) (line', left', is', shaped, not', same') =
    absurd (not (subst shape (IsLine-unique rest line' line left' left is' is).0 shaped))
Why-unique shape range number first rest (BadLine k) (EndInFigure k') (line, left, is, not, same) (plain, same') = absurd (IsPlain-no_line rest line left plain is)
Why-unique shape range number first rest (BadLine k) NoMemory why none = absurd none
Why-unique shape range number first rest (Limit k) (BadLine k') (line, left, is, shaped, not, same) (line', left', is', not', same') =
    absurd (not' (subst shape (IsLine-unique rest line line' left left' is is').0 shaped))
Why-unique shape range number first rest (Limit k) (Limit k') (line, left, is, shaped, not, same) (line', left', is', shaped', not', same') = ap (λ (j : ℕ). Limit j) (same ∙ sym same')
Why-unique shape range number first rest (Limit k) (EndInFigure k') (line, left, is, shaped, not, same) (plain, same') = absurd (IsPlain-no_line rest line left plain is)
Why-unique shape range number first rest (Limit k) NoMemory why none = absurd none
Why-unique shape range number first rest (EndInFigure k) (BadLine k') (plain, same) (line', left', is', not', same') = absurd (IsPlain-no_line rest line' left' plain is')
Why-unique shape range number first rest (EndInFigure k) (Limit k') (plain, same) (line', left', is', shaped', not', same') = absurd (IsPlain-no_line rest line' left' plain is')
Why-unique shape range number first rest (EndInFigure k) (EndInFigure k') (plain, same) (plain', same') = ap (λ (j : ℕ). EndInFigure j) (same ∙ sym same')
Why-unique shape range number first rest (EndInFigure k) NoMemory why none = absurd none
Why-unique shape range number first rest NoMemory fault' none why = absurd none

-- the lines of some vertices, and why the next does not come
pub record Stops (kind : Kind) (n : ℕ) (text : List ℕ) (first : ℕ) (fault : TextFault) : Type 0 where
  pub lines : List (List ℕ)
  pub rest : List ℕ
  pub at : StopsAt kind n text lines rest
  pub why : Why (λ line. IsRow kind (length lines + 1) (words_of line)) (λ line. RowInRange kind (words_of line)) (first + 1 + length lines) first rest fault

pub Stops-from_fail : (kind : Kind) (n : ℕ) (text : List ℕ) (first : ℕ) (fault : TextFault) → fault ≢ NoMemory → RowsFail kind n text first fault → Stops kind n text first fault
Stops-from_fail kind n text first x4 memory x6 = grind (arith, BadLine, Limit, EndInFigure, NoMemory)

-- no longer list of lines of vertices is there
next-good : (kind : Kind) (lines : List (List ℕ)) (l : List ℕ) (more : List (List ℕ)) → ((i : ℕ) → i < length (lines ++ l ∷ more) → IsGoodRow kind (i + 1) (get_or (lines ++ l ∷ more) i [])) → IsGoodRow kind (length lines + 1) l
next-good kind lines l more good =
    subst (λ (x : List ℕ). IsGoodRow kind (length lines + 1) x) (get_or-append_seam lines l more []) (good (length lines) (omega (arith, length-append lines (l ∷ more))))

stops-here : (kind : Kind) (n : ℕ) (text : List ℕ) (first : ℕ) (fault : TextFault) (stops : Stops kind n text first fault) (lines' : List (List ℕ)) (rest' : List ℕ) → Rows kind text lines' rest' → (more : List (List ℕ)) → lines' ≡ stops.lines ++ more → stops.rest ≡ closed more ++ rest' → length lines' ≤ length stops.lines
stops-here kind n text first fault stops lines' rest' rows [] is left = omega (arith, ap length (is ∙ append-nil stops.lines))
stops-here kind n text first fault stops lines' rest' rows (l ∷ more) is left =
    let all : Rows kind text (stops.lines ++ l ∷ more) rest' = subst (λ (x : List (List ℕ)). Rows kind text x rest') is rows in
    let plain : IsPlain l = plain-middle stops.lines l more all.plain in
    let good = next-good kind stops.lines l more all.good in
    absurd (Why-not_good (λ line. IsRow kind (length stops.lines + 1) (words_of line)) (λ line. RowInRange kind (words_of line)) (first + 1 + length stops.lines) first stops.rest fault stops.why l (closed more ++ rest')
    (record { parts = left ∙ closed-cons l more rest'; plain = plain }) good.0 good.1)
  where
    plain-middle : (lines : List (List ℕ)) (l : List ℕ) (more : List (List ℕ)) → All IsPlain (lines ++ l ∷ more) → IsPlain l
    plain-middle [] l more plain = All-head IsPlain l more plain
    plain-middle (k ∷ lines) l more plain = plain-middle lines l more (All-tail IsPlain k (lines ++ l ∷ more) plain)

pub Stops-longest : (kind : Kind) (n : ℕ) (text : List ℕ) (first : ℕ) (fault : TextFault) (stops : Stops kind n text first fault) (lines' : List (List ℕ)) (rest' : List ℕ) → Rows kind text lines' rest' → length lines' ≤ length stops.lines
Stops-longest kind n text first fault stops lines' rest' rows =
    elim (cases_lt (length stops.lines) (length lines')) [ inl lt ↦ longer (omega arith) | inr le ↦ le ]
  where
    longer : length stops.lines ≤ length lines' → length lines' ≤ length stops.lines
    longer le =
        let common = closed-common stops.lines lines' stops.rest rest' stops.at.rows.plain rows.plain (sym stops.at.rows.parts ∙ rows.parts) le in
        stops-here kind n text first fault stops lines' rest' rows common.0 common.1 common.2

-- two causes are one
pub Stops-unique : (kind : Kind) (n : ℕ) (text : List ℕ) (first : ℕ) (fault fault' : TextFault) → Stops kind n text first fault → Stops kind n text first fault' → fault ≡ fault'
Stops-unique kind n text first fault fault' stops stops' =
    let le = Stops-longest kind n text first fault stops stops'.lines stops'.rest stops'.at.rows in
    let ge = Stops-longest kind n text first fault' stops' stops.lines stops.rest stops.at.rows in
    let same = Rows-unique kind text stops.lines stops'.lines stops.rest stops'.rest stops.at.rows stops'.at.rows (omega arith) in
    at_same stops.lines stops'.lines stops.rest stops'.rest same.0 same.1 stops.why stops'.why
  where
    at_same : (lines lines' : List (List ℕ)) (rest rest' : List ℕ) → lines ≡ lines' → rest ≡ rest' → Why (λ line. IsRow kind (length lines + 1) (words_of line)) (λ line. RowInRange kind (words_of line)) (first + 1 + length lines) first rest fault → Why (λ line. IsRow kind (length lines' + 1) (words_of line)) (λ line. RowInRange kind (words_of line)) (first + 1 + length lines') first rest' fault' → fault ≡ fault'
    at_same lines lines' rest rest' is left why why' =
        let back = subst (λ (x : List ℕ). Why (λ line. IsRow kind (length lines + 1) (words_of line)) (λ line. RowInRange kind (words_of line)) (first + 1 + length lines) first x fault') (sym left)
        (subst (λ (x : List (List ℕ)). Why (λ line. IsRow kind (length x + 1) (words_of line)) (λ line. RowInRange kind (words_of line)) (first + 1 + length x) first rest' fault') (sym is) why') in
        Why-unique (λ line. IsRow kind (length lines + 1) (words_of line)) (λ line. RowInRange kind (words_of line)) (first + 1 + length lines) first rest fault fault' why back
