-- Words that are taken one by one.
use Rattle.std.proofs.Common.{nat_lt, ◌≡◌, ℕ, ◌+◌, ◌-◌, List, [], ◌∷◌, ◌++◌, length, map, refl, sym, ap, ◌∙◌, subst, arith, append_assoc}
use Rattle.std.proofs.lemmas.List.{map-append}
use Rattle.std.proofs.lemmas.List.Elements.{All-push, All-weaker}
use Rattle.std.specs.Prelude.{min, ℤ, pos, All, IsTrue, false}
use Rattle.std.proofs.lemmas.Bool.Decides.{nat_tests}
use Rattle.map_lists.specs.Lists.{Lists}
use Rattle.figure_text.specs.declared.line_words.Digits.{Digits}
use Rattle.figure_text.specs.declared.line_words.Word.{Word}
use Rattle.figure_text.specs.declared.line_words.Word.TheVariants.{Number, Named}
use Rattle.figure_text.specs.declared.line_words.Name.TheVariants.{Columns}
use Rattle.figure_text.specs.Words.{words_left, words_of}
use Rattle.figure_text.specs.Lines.{is_number, vertex_of, integer_of, IsInside, IsColumnsLine, ColumnsInRange}
use Rattle.figure_text.specs.Plain.{IsVertexAt, IsNeighbour, IsCoordinateAt, IsCoordinateWord}

-- words of all that were there, what was made of them, and those that are left
pub record Taken {A : Type 0} (P : Word → Type 0) (value : Word → A) (all left : List Word) (made : List A) : Type 0 where
  pub words : List Word
  pub parts : words ++ left ≡ all
  pub good : All P words
  pub made_is : made ≡ map value words

pub taken-more : {A : Type 0} (P : Word → Type 0) (value : Word → A) (all left rest : List Word) (made : List A) (w : Word) → Taken P value all left made → left ≡ w ∷ rest → P w → Taken P value all rest (made ++ value w ∷ [])
taken-more {A = A} P value all left rest made w so_far front here =
    record {
      words = so_far.words ++ w ∷ [];
      parts = append_assoc so_far.words (w ∷ []) rest ∙ ap (λ (ws : List Word). so_far.words ++ ws) (sym front) ∙ so_far.parts;
      good = All-push P so_far.words w so_far.good here;
      made_is = ap (λ (xs : List A). xs ++ value w ∷ []) so_far.made_is ∙ sym (map-append value so_far.words (w ∷ []));
    }

-- the line of the columns, of which the numbers behind its first word are good
pub columns-front : (line : List ℕ) (word : Word) (left : List Word) → words_left line 0 ≡ word ∷ left → words_of line ≡ word ∷ left
columns-front line word left is = let here : nat_lt (length line) 0 ≡ false = grind (arith, nat_tests) in rw here at is

pub columns-line : (words left : List Word) (word : Word) → words ≡ word ∷ left → word ≡ Named Columns → All (λ w. IsCoordinateWord w) left → IsColumnsLine words
columns-line words left word is named all =
    subst IsColumnsLine (sym is) (record { word = named; numbers = All-weaker (λ w. IsCoordinateWord w) (λ w. IsTrue (is_number w)) (λ w h. h.0) left all })

pub columns-range : (words left : List Word) (word : Word) → words ≡ word ∷ left → All (λ w. IsCoordinateWord w) left → ColumnsInRange words
columns-range words left word is all = subst ColumnsInRange (sym is) (All-weaker (λ w. IsCoordinateWord w) (λ w. IsInside w) (λ w h. h.1) left all)

-- the list that was opened holds the vertices before a place
pub record IsListed (old lists : Lists) (line : List ℕ) (start at : ℕ) : Type 0 where
  pub last : List ℕ
  pub taken : Taken (λ w. IsNeighbour w) vertex_of (words_left line start) (words_left line at) last
  pub is : lists ≡ old ++ last ∷ []

-- a vertex more is put into it
pub listed-more : (old lists new : Lists) (line : List ℕ) (start at : ℕ) (digits : Digits) (u : ℕ) → IsListed old lists line start at → IsVertexAt line at digits → u ≡ digits.value - 1 → ((before : Lists) (last : List ℕ) → lists ≡ before ++ last ∷ [] → new ≡ before ++ (last ++ u ∷ []) ∷ []) → IsListed old new line start (digits.end + 1)
listed-more old lists new line start at digits u so_far here is grown =
    let word : Word = Number (record { negative = false; size = digits.value }) in
    let number : u ≡ vertex_of word = omega (arith, is, here.most) in
    record {
      last = so_far.last ++ vertex_of word ∷ [];
      taken = taken-more (λ w. IsNeighbour w) vertex_of (words_left line start) (words_left line at) (words_left line (digits.end + 1)) so_far.last word so_far.taken here.plain.words (refl, (here.least, here.most));
      is = grown old so_far.last so_far.is ∙ ap (λ (n : ℕ). old ++ (so_far.last ++ n ∷ []) ∷ []) number;
    }

-- the list has got the coordinates before a place
pub record AreCoordinates (old list : List ℤ) (line : List ℕ) (start at : ℕ) : Type 0 where
  pub made : List ℤ
  pub taken : Taken (λ w. IsCoordinateWord w) integer_of (words_left line start) (words_left line at) made
  pub is : list ≡ old ++ made

-- a coordinate more is put into it
pub coordinates-more : (old list new : List ℤ) (line : List ℕ) (start at : ℕ) (digits : Digits) (z : ℤ) → AreCoordinates old list line start at → IsCoordinateAt line at digits → z ≡ pos digits.value → new ≡ list ++ z ∷ [] → AreCoordinates old new line start (digits.end + 1)
coordinates-more old list new line start at digits z so_far here is grown =
    let word : Word = Number (record { negative = false; size = digits.value }) in
    let near : digits.value ≡ min 1048576 digits.value = omega (arith, here.most) in
    let number : z ≡ integer_of word = is ∙ ap (λ (n : ℕ). pos n) near in
    record {
      made = so_far.made ++ integer_of word ∷ [];
      taken = taken-more (λ w. IsCoordinateWord w) integer_of (words_left line start) (words_left line at) (words_left line (digits.end + 1)) so_far.made word so_far.taken here.plain.words (refl, here.most);
      is = grown ∙ ap (λ (xs : List ℤ). xs ++ z ∷ []) so_far.is ∙ append_assoc old so_far.made (z ∷ []) ∙ ap (λ (y : ℤ). old ++ (so_far.made ++ y ∷ [])) number;
    }
