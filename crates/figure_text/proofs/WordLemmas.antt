-- The words of printed lines.
use Rattle.std.proofs.Common.{◌≡◌, ◌≢◌, ◌==◌, nat_lt, ℕ, zero, suc, ◌+◌, ◌-◌, ◌<◌, ◌≤◌, Bool, true, false, List, [], ◌∷◌, ◌++◌, length, take, drop, get_or, map, flat_map, refl, sym, ap, ◌∙◌, subst, arith, append_assoc, append-nil, length-drop, drop-cons, add-one, inl, inr, lit≤}
use Rattle.std.proofs.lemmas.Bool.{cases_lt}
use Rattle.std.proofs.lemmas.List.{take-append-drop, take_all, drop-drop, get_or-drop}
use Rattle.std.proofs.lemmas.Bool.Decides.{nat_tests}
use Rattle.std.specs.Prelude.{All, if◌then◌else◌}
use Rattle.std.proofs.lemmas.List.Splits.{slice_split_none, slice_split_at}
use Rattle.std.proofs.lemmas.List.Elements.{All-nil, All-cons, All-append, All-weaker, All-head, All-tail}
use Rattle.figure_text.specs.declared.line_words.Word.{Word}
use Rattle.figure_text.specs.declared.line_words.Word.TheVariants.{Other}
use Rattle.figure_text.specs.Words.{word_of, words_of, words_left, parts_of, HasOther}
use Rattle.figure_text.specs.Reading.{IsPlain}
use Rattle.figure_text.proofs.NumeralLemmas.{Dark}

no-space : (b : ℕ) → 33 ≤ b → (b == 32) ≡ false
no-space b dark = grind (arith, nat_tests)

-- a word at the end of a line, and one before a space
pub parts_of-last : (word : List ℕ) → Dark word → parts_of word ≡ word ∷ []
parts_of-last word dark = slice_split_none (λ b. b == 32) word (All-weaker (λ b. 33 ≤ b) (λ b. (b == 32) ≡ false) no-space word dark)

pub parts_of-next : (word rest : List ℕ) → Dark word → parts_of (word ++ 32 ∷ rest) ≡ word ∷ parts_of rest
parts_of-next word rest dark =
    slice_split_at (λ b. b == 32) word 32 rest (All-weaker (λ b. 33 ≤ b) (λ b. (b == 32) ≡ false) no-space word dark) refl

pub words_of-last : (word : List ℕ) → Dark word → words_of word ≡ word_of word ∷ []
words_of-last word dark = ap (λ (parts : List (List ℕ)). map word_of parts) (parts_of-last word dark)

pub words_of-next : (word rest : List ℕ) → Dark word → words_of (word ++ 32 ∷ rest) ≡ word_of word ∷ words_of rest
words_of-next word rest dark = ap (λ (parts : List (List ℕ)). map word_of parts) (parts_of-next word rest dark)

-- a word, and words after spaces behind it
pub words_of-spaced : {A : Type 0} (text : A → List ℕ) (P : A → Type 0) → ((x : A) → P x → Dark (text x)) → (xs : List A) → All P xs → (word : List ℕ) → Dark word → words_of (word ++ flat_map (λ x. 32 ∷ text x) xs) ≡ word_of word ∷ map (λ x. word_of (text x)) xs
words_of-spaced text P darken [] all word dark = ap words_of (append-nil word) ∙ words_of-last word dark
words_of-spaced text P darken (x ∷ xs) all word dark =
    words_of-next word (text x ++ flat_map (λ y. 32 ∷ text y) xs) dark
    ∙ ap (λ (ws : List Word). word_of word ∷ ws) (words_of-spaced text P darken xs (All-tail P x xs all) (text x) (darken x (All-head P x xs all)))

-- bytes from the space on
abbrev pub Inline : List ℕ → Type 0
Inline text = All (λ b. 32 ≤ b) text

pub Inline-dark : (word : List ℕ) → Dark word → Inline word
Inline-dark word dark = All-weaker (λ b. 33 ≤ b) (λ b. 32 ≤ b) (λ b h. omega arith) word dark

pub Inline-next : (word rest : List ℕ) → Dark word → Inline rest → Inline (word ++ 32 ∷ rest)
Inline-next word rest dark inline =
    All-append (λ b. 32 ≤ b) word (32 ∷ rest) (Inline-dark word dark) (All-cons (λ b. 32 ≤ b) 32 rest (lit≤ tt) inline)

pub Inline-spaced : {A : Type 0} (text : A → List ℕ) (P : A → Type 0) → ((x : A) → P x → Dark (text x)) → (xs : List A) → All P xs → (word : List ℕ) → Dark word → Inline (word ++ flat_map (λ x. 32 ∷ text x) xs)
Inline-spaced text P darken [] all word dark = All-append (λ b. 32 ≤ b) word [] (Inline-dark word dark) (All-nil (λ b. 32 ≤ b))
Inline-spaced text P darken (x ∷ xs) all word dark =
    Inline-next word (text x ++ flat_map (λ y. 32 ∷ text y) xs) dark (Inline-spaced text P darken xs (All-tail P x xs all) (text x) (darken x (All-head P x xs all)))

pub IsPlain-inline : (text : List ℕ) → Inline text → IsPlain text
IsPlain-inline text inline = All-weaker (λ b. 32 ≤ b) (λ b. b ≢ 10) (λ b h. omega arith) text inline

-- the word that begins there ends before the next space, or at the end
front-split : (rest : List ℕ) (len : ℕ) → len ≤ length rest → ((k : ℕ) → k < len → get_or rest k 0 ≢ 32) → All (λ b. (b == 32) ≡ false) (take len rest)
front-split rest zero within dark = All-nil (λ b. (b == 32) ≡ false)
front-split [] (suc len) within dark = absurd (omega arith)
front-split (b ∷ rest) (suc len) within dark =
    let here : b ≢ 32 = dark 0 (omega arith) in
    All-cons (λ b. (b == 32) ≡ false) b (take len rest) (other b here) (front-split rest len (omega arith) (λ k h. dark (suc k) (omega arith)))
  where
    other : (b : ℕ) → b ≢ 32 → (b == 32) ≡ false
    other b not = grind (arith, nat_tests)

words-front : (rest : List ℕ) (len : ℕ) → len ≤ length rest → ((k : ℕ) → k < len → get_or rest k 0 ≢ 32) → (len < length rest → get_or rest len 0 ≡ 32) → words_of rest ≡ word_of (take len rest) ∷ words_left rest (len + 1)
words-front rest len within dark ends = elim (cases_lt len (length rest)) [
  | inl less ↦
      let parts : rest ≡ take len rest ++ 32 ∷ drop (suc len) rest =
      sym (take-append-drop len rest) ∙ ap (λ (x : List ℕ). take len rest ++ x) (drop-cons rest len 0 less ∙ ap (λ (b : ℕ). b ∷ drop (suc len) rest) (ends less)) in
      let short : nat_lt (length rest) (len + 1) ≡ false = grind (arith, nat_tests) in
      ap words_of parts ∙ ap (map word_of) (slice_split_at (λ b. b == 32) (take len rest) 32 (drop (suc len) rest) (front-split rest len within dark) refl)
      ∙ ap (λ (ws : List Word). word_of (take len rest) ∷ ws) (rw short (ap (λ (k : ℕ). words_of (drop k rest)) (sym (add-one len))))
  | inr more ↦
      let whole : take len rest ≡ rest = take_all len rest (omega arith) in
      let past : nat_lt (length rest) (len + 1) ≡ true = grind (arith, nat_tests) in
      ap words_of (sym whole) ∙ ap (map word_of) (slice_split_none (λ b. b == 32) (take len rest) (front-split rest len within dark)) ∙ rw past refl
]

left-drop : (line : List ℕ) (at k : ℕ) → at ≤ length line → words_left (drop at line) k ≡ words_left line (at + k)
left-drop line at k within = grind (arith, length, drop, length-drop, nat_lt, words_of, words_left, nat_tests, drop-drop)

-- one word less
pub words-next : (line : List ℕ) (at end : ℕ) → at ≤ length line → at ≤ end → end ≤ length line → ((k : ℕ) → at ≤ k → k < end → get_or line k 0 ≢ 32) → (end < length line → get_or line end 0 ≡ 32) → words_left line at ≡ word_of (take (end - at) (drop at line)) ∷ words_left line (end + 1)
words-next line at end start order within before ends =
    let len : ℕ = end - at in
    let long : length (drop at line) ≡ length line - at = length-drop at line in
    let open_left : nat_lt (length line) at ≡ false = grind (arith, nat_tests) in
    let front = words-front (drop at line) len (omega arith)
    (λ k h. subst (λ (b : ℕ). b ≢ 32) (sym (get_or-drop at line k 0)) (before (at + k) (omega arith) (omega arith)))
    (λ h. get_or-drop at line len 0 ∙ ap (λ (k : ℕ). get_or line k 0) (omega arith) ∙ ends (omega arith)) in
    let next : at + (len + 1) ≡ end + 1 = omega arith in
    rw open_left (front
    ∙ ap (λ (ws : List Word). word_of (take len (drop at line)) ∷ ws) (left-drop line at (len + 1) start)
    ∙ ap (λ (k : ℕ). word_of (take len (drop at line)) ∷ words_left line k) next)

-- one word more
pub words-more : (line : List ℕ) (found : List Word) (at end : ℕ) → at ≤ length line → at ≤ end → end ≤ length line → ((k : ℕ) → at ≤ k → k < end → get_or line k 0 ≢ 32) → (end < length line → get_or line end 0 ≡ 32) → found ++ words_left line at ≡ words_of line → (found ++ word_of (take (end - at) (drop at line)) ∷ []) ++ words_left line (end + 1) ≡ words_of line
words-more line found at end start order within before ends so_far =
    append_assoc found ((word_of (take (end - at) (drop at line))) ∷ []) (words_left line (end + 1))
    ∙ ap (λ (ws : List Word). found ++ ws) (sym (words-next line at end start order within before ends))
    ∙ so_far

-- a word that is next and neither a number nor a word of figures
pub words-other : (line : List ℕ) (found : List Word) (at end : ℕ) → at ≤ length line → at ≤ end → end ≤ length line → ((k : ℕ) → at ≤ k → k < end → get_or line k 0 ≢ 32) → (end < length line → get_or line end 0 ≡ 32) → found ++ words_left line at ≡ words_of line → word_of (take (end - at) (drop at line)) ≡ Other → HasOther (words_of line)
words-other line found at end start order within before ends so_far other = record {
  front = found;
  rest = words_left line (end + 1);
  is = sym so_far ∙ ap (λ (ws : List Word). found ++ ws) (words-next line at end start order within before ends ∙ ap (λ (w : Word). w ∷ words_left line (end + 1)) other);
}
