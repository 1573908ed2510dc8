-- The header at the front of bytes.
use Rattle.std.proofs.Common.{◌≡◌, ◌≢◌, ◌==◌, ℕ, ◌≤◌, Bool, true, false, true≢false, List, [], ◌∷◌, ◌++◌, length, drop, refl, sym, ap, ◌∙◌, subst, arith, append_assoc, append-nil, length-append}
use Rattle.std.specs.Prelude.{nat_eq}
use Rattle.std.specs.List.{starts_with}
use Rattle.std.proofs.lemmas.Bool.Decides.{Decides-eqb, nat_tests}
use Rattle.std.proofs.lemmas.Slice.Eq.{starts_is}
use Rattle.std.proofs.lemmas.List.Elements.{All-head, All-tail, All-from_recursion}
use Rattle.graph6_text.specs.Header.{graph_header, header_length}
use Rattle.figure_text.specs.Reading.{IsPlain}
use Rattle.line_inputs.specs.GraphLinesProgress.{IsSettled}

-- the header has no byte 10
other : (b : ℕ) → (b == 10) ≡ false → b ≢ 10
other b e same = let ten : (10 == 10) ≡ false = subst (λ (x : ℕ). (x == 10) ≡ false) same e in true≢false ten

pub header-plain : IsPlain graph_header
header-plain = All-from_recursion (λ b. b ≢ 10) graph_header (other 62 refl, (other 62 refl, (other 103 refl, (other 114 refl, (other 97 refl, (other 112 refl, (other 104 refl, (other 54 refl, (other 60 refl, (other 60 refl, tt))))))))))

-- what begins with a front that has no byte 10 does so before its first byte 10
separated : (front line rest more : List ℕ) → IsPlain front → line ++ 10 ∷ more ≡ front ++ rest → (r : List ℕ) × (line ≡ front ++ r)
separated [] line rest more plain e = (line, refl)
separated (x ∷ front) [] rest more plain e = let here : x ≡ 10 = cc in absurd (All-head (λ b. b ≢ 10) x front plain here)
separated (x ∷ front) (b ∷ line) rest more plain e =
    let same : b ≡ x = cc in
    let behind : line ++ 10 ∷ more ≡ front ++ rest = cc in
    let r = separated front line rest more (All-tail (λ b. b ≢ 10) x front plain) behind in
    (r.0, whole same r.1)
  where
    whole : {b x : ℕ} {xs ys : List ℕ} → b ≡ x → xs ≡ ys → b ∷ xs ≡ x ∷ ys
    whole p q = cc

-- bytes begin with these
abbrev pub Begins : List ℕ → List ℕ → Bool
Begins bytes front = starts_with nat_eq bytes front

pub begins-parts : (bytes front : List ℕ) → Begins bytes front ≡ true → (rest : List ℕ) × (bytes ≡ front ++ rest)
begins-parts bytes front e = (drop (length front) bytes, (starts_is Decides-eqb bytes front (Begins bytes front) refl).0 e)

pub parts-begin : (bytes front rest : List ℕ) → bytes ≡ front ++ rest → Begins bytes front ≡ true
parts-begin bytes front rest e = (starts_is Decides-eqb bytes front (Begins bytes front) refl).1 rest e

-- a line without a byte 10 is the header, or the header and more, or does not begin with it
pub data Front (line : List ℕ) : Type 0 where
  alone : line ≡ graph_header → Front line
  before : (c : ℕ) (rest : List ℕ) → c ≢ 10 → line ≡ graph_header ++ c ∷ rest → Front line
  none : Begins line graph_header ≡ false → Front line

pub front_of : (line : List ℕ) → IsPlain line → Front line
front_of line plain = by (Begins line graph_header) refl
  where
    split : (rest : List ℕ) → line ≡ graph_header ++ rest → Front line
    split [] e = alone (e ∙ append-nil graph_header)
    split (c ∷ rest) e = before c rest (second graph_header (subst IsPlain e plain)) e
      where
        second : (front : List ℕ) → IsPlain (front ++ c ∷ rest) → c ≢ 10
        second [] p = All-head (λ b. b ≢ 10) c rest p
        second (x ∷ front) p = second front (All-tail (λ b. b ≢ 10) x (front ++ c ∷ rest) p)

    by : (b : Bool) → Begins line graph_header ≡ b → Front line
    by true e = let p = begins-parts line graph_header e in split p.0 p.1
    by false e = none e

-- how long the header is where the line goes on
pub header-before : (c : ℕ) (more : List ℕ) → c ≢ 10 → header_length (graph_header ++ c ∷ more) ≡ 10
header-before c more not = by_test (nat_eq 10 c) refl
  where
    by_test : (b : Bool) → nat_eq 10 c ≡ b → header_length (graph_header ++ c ∷ more) ≡ 10
    by_test true e = absurd (not (grind (arith, nat_tests)))
    by_test false e = rw e refl

pub header-none : (bytes : List ℕ) → Begins bytes graph_header ≡ false → header_length bytes ≡ 0
header-none bytes e = grind (arith, Begins, graph_header, header_length, begins-parts, true≢false, parts-begin, append_assoc)

none-closed : (line more : List ℕ) → Begins line graph_header ≡ false → Begins (line ++ 10 ∷ more) graph_header ≡ false
none-closed line more e = grind (arith, Begins, graph_header, begins-parts, separated, header-plain, true≢false, parts-begin)

-- a line that is not the header alone keeps its header when it is closed
pub header-of-line : (line more : List ℕ) → IsPlain line → line ≢ graph_header → header_length (line ++ 10 ∷ more) ≡ header_length line
header-of-line line more plain not = by (front_of line plain)
  where
    by : Front line → header_length (line ++ 10 ∷ more) ≡ header_length line
    by (alone e) = absurd (not e)
    by (before c rest other e) = rw e (header-before c (rest ++ 10 ∷ more) other ∙ sym (header-before c rest other))
    by (none e) = header-none (line ++ 10 ∷ more) (none-closed line more e) ∙ sym (header-none line e)

-- it is within the bytes
pub header-within : (line : List ℕ) → IsPlain line → header_length line ≤ length line
header-within line plain = grind (arith, front_of, header_length, length, other, header-before, header-none)

-- where a line is closed the header is settled
pub settled-line : (line : List ℕ) → IsPlain line → line ≢ graph_header → IsSettled (line ++ 10 ∷ [])
settled-line line plain not = record {
  within = let e = header-of-line line [] plain not in let w = header-within line plain in let l = length-append line (10 ∷ []) in omega arith;
  same = λ more. ap header_length (append_assoc line (10 ∷ []) more) ∙ header-of-line line more plain not ∙ sym (header-of-line line [] plain not);
}

pub settled-more : (bytes more : List ℕ) → IsSettled bytes → IsSettled (bytes ++ more)
settled-more bytes more s = record {
  within = let e = s.same more in let w = s.within in let l = length-append bytes more in omega arith;
  same = λ rest. ap header_length (append_assoc bytes more rest) ∙ s.same (more ++ rest) ∙ sym (s.same more);
}
