-- The fronts of lines, piece by piece, and lines by their fronts.
use Rattle.std.proofs.Common.{◌≡◌, ℕ, ◌+◌, ◌<◌, List, [], ◌∷◌, ◌++◌, length, drop, map, get_or, refl, sym, ap, ap₂, ◌∙◌, subst, arith, append_assoc, length-append, below_more, lit≤, set, ℤ}
use Rattle.std.proofs.lemmas.List.{get_or-set_other, length-set}
use Rattle.std.proofs.lemmas.List.Elements.{All-weaker}
use Rattle.std.proofs.lemmas.Grind.{get_or-set_at}
use Rattle.std.proofs.Math.ListN.{get_or-append}
use Rattle.std.proofs.Math.Seq.{get_or-append_seam, drop-append_seam}
use Rattle.std.specs.Prelude.{All, IsTrue}
use Rattle.map_lists.specs.Lists.{Lists}
use Rattle.figure_text.specs.declared.line_shapes.Kind.{Kind}
use Rattle.figure_text.specs.declared.line_shapes.Kind.TheVariants.{Grid, Bars, Rects, Witness}
use Rattle.figure_text.specs.declared.vertex_fronts.LineFront.{LineFront}
use Rattle.figure_text.specs.declared.front_pieces.Piece.{Piece}
use Rattle.figure_text.specs.declared.front_pieces.Piece.TheVariants.{Place, Literal, Row, Value, Last}
use Rattle.figure_text.specs.declared.vertex_lines.Draft.{Draft}
use Rattle.figure_text.specs.declared.line_words.Next.{Next}
use Rattle.figure_text.specs.declared.line_words.Word.{Word}
use Rattle.figure_text.specs.declared.line_words.Word.TheVariants.{Other}
use Rattle.figure_text.specs.Words.{word_at, words_left, words_of}
use Rattle.figure_text.specs.Lines.{size, is_natural, integer_of, vertex_of, IsVertex}
use Rattle.figure_text.specs.Pieces.{pieces, front_length, Fits, IsWithin, Along, is_long}
use Rattle.figure_text.specs.Reading.{IsRow, RowInRange}
use Rattle.figure_text.specs.Drafts.{integer_in, with_values, with_row}
use Rattle.figure_text.specs.Plain.{IsNeighbour, IsHeld, IsSize, plain_value, IsPieceAt, IsFrontOf}

-- one piece more
along-more : (Stands : Piece → Word → Type 0) (ps : List Piece) (p : Piece) (ws : List Word) (w : Word) → length ws ≡ length ps → Along Stands ps ws → Stands p w → Along Stands (ps ++ p ∷ []) (ws ++ w ∷ [])
along-more Stands ps p ws w long along here =
    let ends : length (ps ++ p ∷ []) ≡ length ps + 1 = length-append ps (p ∷ []) in
    λ i h. below_more (λ (j : ℕ). Stands (get_or (ps ++ p ∷ []) j Row) (word_at (ws ++ w ∷ []) j)) (length ps)
    (λ j below. rw (get_or-append ps (p ∷ []) Row j below, get_or-append ws (w ∷ []) Other j (omega (arith, long, below))) (along j below))
    (rw (get_or-append_seam ps p [] Row) (subst (Stands p) (sym (ap (λ (j : ℕ). word_at (ws ++ w ∷ []) j) (sym long) ∙ get_or-append_seam ws w [] Other)) here)) i (omega arith)

sizes-more : (ps : List Piece) (p : Piece) (ws : List Word) (w : Word) (ns ns' : List ℕ) (k : ℕ) → length ws ≡ length ps → length ps ≡ k → k < length ns → ns' ≡ set ns k (size w) → ((i : ℕ) → i < length ps → IsSize (get_or ps i Row) (word_at ws i) (get_or ns i 0)) → IsSize p w (size w) → (i : ℕ) → i < length (ps ++ p ∷ []) → IsSize (get_or (ps ++ p ∷ []) i Row) (word_at (ws ++ w ∷ []) i) (get_or ns' i 0)
sizes-more ps p ws w ns ns' k long places room is sizes here =
    let ends : length (ps ++ p ∷ []) ≡ length ps + 1 = length-append ps (p ∷ []) in
    let last : word_at (ws ++ w ∷ []) (length ps) ≡ w = ap (λ (j : ℕ). word_at (ws ++ w ∷ []) j) (sym long) ∙ get_or-append_seam ws w [] Other in
    λ i h. below_more (λ (j : ℕ). IsSize (get_or (ps ++ p ∷ []) j Row) (word_at (ws ++ w ∷ []) j) (get_or ns' j 0)) (length ps)
    (λ j below. rw (get_or-append ps (p ∷ []) Row j below, get_or-append ws (w ∷ []) Other j (omega (arith, long, below)), is, get_or-set_other ns k j (size w) 0 (λ e. omega (arith, below, places, e))) (sizes j below))
    (rw (get_or-append_seam ps p [] Row, last, is, get_or-set_at ns k (length ps) (size w) 0 places room) here) i (omega arith)

pub front-more : (ps : List Piece) (p : Piece) (place k : ℕ) (line : List ℕ) (front front' : LineFront) (next : Next) → length ps ≡ k → k < 7 → IsFrontOf ps place line front → IsPieceAt p place line front.end next → front'.numbers ≡ set front.numbers k (size next.word) → front'.end ≡ next.end + 1 → IsFrontOf (ps ++ p ∷ []) place line front'
front-more ps p place k line front front' next long few is here numbers end =
    let w : Word = next.word in
    record {
      words = is.words ++ w ∷ [];
      parts = ap (λ (m : ℕ). (is.words ++ w ∷ []) ++ words_left line m) end
          ∙ append_assoc is.words (w ∷ []) (words_left line (next.end + 1))
          ∙ ap (λ (x : List Word). is.words ++ x) (sym here.words)
          ∙ is.parts;
      long = length-append is.words (w ∷ []) ∙ ap (λ (m : ℕ). m + 1) is.long ∙ sym (length-append ps (p ∷ []));
      fits = along-more (Fits place) ps p is.words w is.long is.fits here.fits;
      within = along-more IsWithin ps p is.words w is.long is.within here.within;
      room = ap length numbers ∙ length-set front.numbers k (size w) ∙ is.room;
      sizes = sizes-more ps p is.words w front.numbers front'.numbers k is.long long (omega (arith, few, is.room)) numbers is.sizes here.size;
    }

-- numbers that are the same where the kind has one
values-same : (kind : Kind) (draft : Draft) (value value' : ℕ → ℤ) → ((i : ℕ) → i < front_length kind → IsHeld (get_or (pieces kind) i Row) → value i ≡ value' i) → with_values kind draft value ≡ with_values kind draft value'
values-same (Grid job) draft value value' same =
    ap₂ (λ (x y : ℤ). record draft { points = draft.points ++ record { x = x; y = y } ∷ [] }) (same 2 (lit≤ tt) tt) (same 3 (lit≤ tt) tt)
values-same Bars draft value value' same = let y = same 2 (lit≤ tt) tt in let a = same 4 (lit≤ tt) tt in let b = same 5 (lit≤ tt) tt in rw (y, a, b) refl
values-same Rects draft value value' same = let a = same 2 (lit≤ tt) tt in let b = same 3 (lit≤ tt) tt in let c = same 5 (lit≤ tt) tt in let d = same 6 (lit≤ tt) tt in rw (a, b, c, d) refl
values-same (Witness graph) draft value value' same = refl

-- the numbers of a line leave the lists as they are
values-lists : (kind : Kind) (draft : Draft) (lists : Lists) (value : ℕ → ℤ) → with_values kind (record draft { lists = lists }) value ≡ record (with_values kind draft value) { lists = lists }
values-lists (Grid job) draft lists value = refl
values-lists Bars draft lists value = refl
values-lists Rects draft lists value = refl
values-lists (Witness graph) draft lists value = refl

-- what a plain word is worth
pub size-value : (p : Piece) (w : Word) (n : ℕ) → IsHeld p → IsSize p w n → plain_value n ≡ integer_of w
size-value Place w n held is = absurd held
size-value (Literal name) w n held is = absurd held
size-value Row w n held is = absurd held
size-value Value w n held is = sym is
size-value Last w n held is = sym is

-- a line whose front and neighbours are good
module _ (kind : Kind) (place : ℕ) (line : List ℕ) (found : List Word) (end : ℕ) (parts : found ++ words_left line end ≡ words_of line) (many : length found ≡ front_length kind) (all : All (λ w. IsNeighbour w) (words_left line end)) where
  abbrev words : List Word
  words = words_of line

  abbrev left : List Word
  left = words_left line end

  same : (i : ℕ) → i < front_length kind → word_at found i ≡ word_at words i
  same i within = sym (ap (λ (ws : List Word). word_at ws i) (sym parts) ∙ get_or-append found left Other i (omega (arith, many, within)))

  along : (Stands : Piece → Word → Type 0) → Along Stands (pieces kind) found → Along Stands (pieces kind) words
  along Stands a = λ i h. subst (Stands (get_or (pieces kind) i Row)) (same i h) (a i h)

  left_is : left ≡ drop (front_length kind) words
  left_is = sym (ap₂ (λ (n : ℕ) (ws : List Word). drop n ws) (sym many) (sym parts) ∙ drop-append_seam found left)

  pub front-row : Along (Fits place) (pieces kind) found → IsTrue (is_long kind place (length words)) → IsRow kind place words
  front-row fits long =
      record { front = along (Fits place) fits; long = long; vertices = subst (All (λ w. IsTrue (is_natural w))) left_is (All-weaker (λ w. IsNeighbour w) (λ w. IsTrue (is_natural w)) (λ w h. h.0) left all) }

  pub front-range : Along IsWithin (pieces kind) found → RowInRange kind words
  front-range within =
      record { front = along IsWithin within; vertices = subst (All (λ w. IsVertex w)) left_is (All-weaker (λ w. IsNeighbour w) (λ w. IsVertex w) (λ w h. h.1) left all) }

  pub front-draft : (draft draft' : Draft) (lists : Lists) (value : ℕ → ℤ) → ((i : ℕ) → i < front_length kind → IsHeld (get_or (pieces kind) i Row) → value i ≡ integer_in i found) → lists ≡ draft.lists ++ map vertex_of left ∷ [] → draft' ≡ with_values kind (record draft { lists = lists }) value → draft' ≡ with_row kind draft words
  front-draft draft draft' lists value held more is_draft =
      is_draft
      ∙ values-same kind (record draft { lists = lists }) value (λ i. integer_in i words) (λ i h number. held i h number ∙ ap integer_of (same i h))
      ∙ values-lists kind draft lists (λ i. integer_in i words)
      ∙ ap (λ (ls : Lists). record (with_values kind draft (λ i. integer_in i words)) { lists = ls }) (more ∙ ap (λ (ws : List Word). draft.lists ++ map vertex_of ws ∷ []) left_is)
