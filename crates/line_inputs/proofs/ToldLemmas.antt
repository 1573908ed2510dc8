-- Of each line it can be told whether it has the shape that is due, and whether its numbers are within their ranges.
use Rattle.std.proofs.Common.{◌≡◌, ℕ, zero, suc, ◌<◌, ◌≤◌, List, [], ◌∷◌, length, drop, get_or, below_more, refl, sym, ap, ◌∙◌, arith, Bool, true, false, inl, inr}
use Rattle.std.proofs.lemmas.Bool.{cases_lt, cases_eq}
use Rattle.std.proofs.lemmas.List.Elements.{All-nil, All-cons, All-head, All-tail}
use Rattle.std.specs.Prelude.{◌⊎◌, All, IsTrue, Option, Some, None}
use Rattle.graph6_text.specs.Faults.{line_fault}
use Rattle.graph6_text.specs.declared.graph6_lines.G6Fault.{G6Fault}
use Rattle.figure_text.specs.declared.line_shapes.Kind.{Kind}
use Rattle.figure_text.specs.declared.line_shapes.Kind.TheVariants.{Grid, Bars, Rects, Witness}
use Rattle.figure_text.specs.declared.front_pieces.Piece.{Piece}
use Rattle.figure_text.specs.declared.front_pieces.Piece.TheVariants.{Place, Literal, Value, Last}
use Rattle.figure_text.specs.declared.front_pieces.Piece.TheVariants as piece
use Rattle.figure_text.specs.declared.line_words.Word.{Word}
use Rattle.figure_text.specs.declared.line_words.Word.TheVariants.{Number, Closing, Named, Other}
use Rattle.figure_text.specs.declared.line_words.Name.{Name}
use Rattle.figure_text.specs.declared.line_words.Name.TheVariants as name
use Rattle.figure_text.specs.Words.{words_of, word_at, part_at}
use Rattle.figure_text.specs.Lines.{size, is_natural, is_number, is_closing, is_graph_shaped, kind_of, row_name, IsTail, TailInRange, IsInside, IsVertex, IsFirstLine, FirstInRange, IsColumnsLine, ColumnsInRange}
use Rattle.figure_text.specs.Pieces.{pieces, front_length, Fits, IsWithin, is_long}
use Rattle.figure_text.specs.Reading.{IsRow, RowInRange}

-- it can be told whether this holds
abbrev pub Told : Type 0 → Type 0
Told P = P ⊎ (¬ P)

told-by : {P Q : Type 0} → (P → Q) → (Q → P) → Told P → Told Q
told-by to from (inl p) = inl (to p)
told-by to from (inr not) = inr (λ q. not (from q))

told-both : {P Q : Type 0} → Told P → Told Q → Told (P × Q)
told-both (inl p) (inl q) = inl (p, q)
told-both (inl p) (inr not) = inr (λ b. not b.1)
told-both (inr not) q = inr (λ b. not b.0)

told-true : (b : Bool) → Told (IsTrue b)
told-true true = inl refl
told-true false = inr (λ e. absurd (cc))

told-equal : (a b : ℕ) → Told (a ≡ b)
told-equal a b = elim (cases_eq a b) [ inl same ↦ inl same | inr other ↦ inr other ]

told-most : (a b : ℕ) → Told (a ≤ b)
told-most a b = elim (cases_lt b a) [ inl more ↦ inr (λ le. absurd (omega arith)) | inr le ↦ inl le ]

told-all : {X : Type 0} (P : X → Type 0) → ((x : X) → Told (P x)) → (xs : List X) → Told (All P xs)
told-all P told [] = inl (All-nil P)
told-all P told (x ∷ xs) = told-by (λ p. All-cons P x xs p.0 p.1) (λ all. (All-head P x xs all, All-tail P x xs all)) (told-both (told x) (told-all P told xs))

-- names by their numbers
number_of : Name → ℕ
number_of name.Figure = 0
number_of name.Shift = 1
number_of name.Schnyder = 2
number_of name.Bars = 3
number_of name.At = 4
number_of name.Y = 5
number_of name.X = 6
number_of name.Columns = 7
number_of name.Witness = 8
number_of name.K5 = 9
number_of name.K33 = 10
number_of name.Branch = 11
number_of name.Path = 12
number_of name.Convex = 13
number_of name.Rect = 14

name_of : ℕ → Name
name_of k = get_or (name.Figure ∷ name.Shift ∷ name.Schnyder ∷ name.Bars ∷ name.At ∷ name.Y ∷ name.X ∷ name.Columns ∷ name.Witness ∷ name.K5 ∷ name.K33 ∷ name.Branch ∷ name.Path ∷ name.Convex ∷ name.Rect ∷ []) k name.Figure

name-again : (n : Name) → name_of (number_of n) ≡ n
unfolding name_of number_of
name-again x0 = grind (arith, Bars, Witness)

told-name : (n m : Name) → Told (n ≡ m)
told-name n m = told-by (λ e. sym (name-again n) ∙ ap name_of e ∙ name-again m) (λ e. ap number_of e) (told-equal (number_of n) (number_of m))

told-named : (w : Word) (n : Name) → Told (w ≡ Named n)
told-named (Number z) n = inr (λ e. absurd (cc))
told-named (Closing z) n = inr (λ e. absurd (cc))
told-named (Named m) n = told-by (λ e. ap (λ (x : Name). Named x) e) (λ e. cc) (told-name m n)
told-named Other n = inr (λ e. absurd (cc))

told-vertex : (w : Word) → Told (IsVertex w)
told-vertex w = told-both (told-most 1 (size w)) (told-most (size w) 65535)

told-inside : (w : Word) → Told (IsInside w)
told-inside w = told-most (size w) 1048576

told-naturals : (words : List Word) → Told (All (λ w. IsTrue (is_natural w)) words)
told-naturals = told-all (λ w. IsTrue (is_natural w)) (λ w. told-true (is_natural w))

told-vertices : (words : List Word) → Told (All (λ w. IsVertex w) words)
told-vertices = told-all (λ w. IsVertex w) told-vertex

-- of each place before one
told-below : (P : ℕ → Type 0) → ((i : ℕ) → Told (P i)) → (n : ℕ) → Told ((i : ℕ) → i < n → P i)
told-below P told zero = inl (λ i h. absurd (omega arith))
told-below P told (suc n) = told-by (λ p. λ i h. below_more P n p.0 p.1 i (omega arith)) (λ all. (λ i h. all i (omega arith), all n (omega arith))) (told-both (told-below P told n) (told n))

told-fits : (place : ℕ) (p : Piece) (w : Word) → Told (Fits place p w)
told-fits place Place w = told-both (told-true (is_natural w)) (told-equal (size w) place)
told-fits place (Literal name) w = told-named w name
told-fits place piece.Row w = told-named w (row_name place)
told-fits place Value w = told-true (is_number w)
told-fits place Last w = told-true (is_closing w)

told-within : (p : Piece) (w : Word) → Told (IsWithin p w)
told-within Place w = inl tt
told-within (Literal name) w = inl tt
told-within piece.Row w = inl tt
told-within Value w = told-inside w
told-within Last w = told-inside w

-- the line of a vertex
pub told-row : (kind : Kind) (place : ℕ) (words : List Word) → Told (IsRow kind place words)
told-row kind place words =
    told-by (λ p. record { front = p.0; long = p.1.0; vertices = p.1.1 }) (λ r. (r.front, (r.long, r.vertices)))
    (told-both (told-below _ (λ i. told-fits place (get_or (pieces kind) i piece.Row) (word_at words i)) (front_length kind))
    (told-both (told-true (is_long kind place (length words))) (told-naturals (drop (front_length kind) words))))

pub told-row_range : (kind : Kind) (words : List Word) → Told (RowInRange kind words)
told-row_range kind words =
    told-by (λ p. record { front = p.0; vertices = p.1 }) (λ r. (r.front, r.vertices))
    (told-both (told-below _ (λ i. told-within (get_or (pieces kind) i piece.Row) (word_at words i)) (front_length kind)) (told-vertices (drop (front_length kind) words)))

-- that of the columns
pub told-columns : (words : List Word) → Told (IsColumnsLine words)
told-columns words =
    told-by (λ p. record { word = p.0; numbers = p.1 }) (λ r. (r.word, r.numbers))
    (told-both (told-named (word_at words 0) name.Columns) (told-all (λ w. IsTrue (is_number w)) (λ w. told-true (is_number w)) (drop 1 words)))

pub told-columns_range : (words : List Word) → Told (ColumnsInRange words)
told-columns_range words = told-all (λ w. IsInside w) told-inside (drop 1 words)

-- no fault
told-none : (o : Option G6Fault) → Told (o ≡ None)
told-none None = inl refl
told-none (Some fault) = inr (λ e. absurd (cc))

-- a first line
told-tail : (kind : Option Kind) (line : List ℕ) → Told (IsTail kind line)
told-tail None line = inr (λ none. none)
told-tail (Some (Grid job)) line = told-both (told-equal (length (words_of line)) 4) (told-true (is_natural (word_at (words_of line) 3)))
told-tail (Some Bars) line = told-both (told-equal (length (words_of line)) 4) (told-true (is_natural (word_at (words_of line) 3)))
told-tail (Some Rects) line = told-both (told-equal (length (words_of line)) 4) (told-true (is_natural (word_at (words_of line) 3)))
told-tail (Some (Witness kind)) line = told-both (told-equal (length (words_of line)) 5) (told-true (is_graph_shaped (line_fault (part_at line 4))))

told-tail_range : (kind : Option Kind) (line : List ℕ) → Told (TailInRange kind line)
told-tail_range None line = inl tt
told-tail_range (Some (Grid job)) line = told-both (told-most 1 (size (word_at (words_of line) 3))) (told-most (size (word_at (words_of line) 3)) 4095)
told-tail_range (Some Bars) line = told-both (told-most 1 (size (word_at (words_of line) 3))) (told-most (size (word_at (words_of line) 3)) 4095)
told-tail_range (Some Rects) line = told-both (told-most 1 (size (word_at (words_of line) 3))) (told-most (size (word_at (words_of line) 3)) 4095)
told-tail_range (Some (Witness kind)) line = told-none (line_fault (part_at line 4))

pub told-first : (line : List ℕ) → Told (IsFirstLine line)
told-first line =
    let words = words_of line in
    told-by (λ p. record { figure = p.0; number = p.1.0; tail = p.1.1 }) (λ r. (r.figure, (r.number, r.tail)))
    (told-both (told-named (word_at words 0) name.Figure) (told-both (told-true (is_natural (word_at words 1))) (told-tail (kind_of words) line)))

pub told-first_range : (line : List ℕ) → Told (FirstInRange line)
told-first_range line =
    let words = words_of line in
    told-by (λ p. record { number_least = p.0; number_most = p.1.0; tail = p.1.1 }) (λ r. (r.number_least, (r.number_most, r.tail)))
    (told-both (told-most 1 (size (word_at words 1))) (told-both (told-most (size (word_at words 1)) 16777216) (told-tail_range (kind_of words) line)))

-- the kind that it says
pub kind-said : (o : Option Kind) (line : List ℕ) → IsTail o line → (kind : Kind) × (o ≡ Some kind)
kind-said (Some kind) line tail = (kind, refl)
kind-said None line none = absurd none
