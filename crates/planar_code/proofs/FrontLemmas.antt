-- A front of the header, byte by byte.
use Rattle.std.proofs.Common.{◌≡◌, ℕ, ◌+◌, ◌<◌, Bool, true, false, ◌&&◌, List, [], ◌∷◌, ◌++◌, length, get_or, take, refl, sym, ap, ◌∙◌, arith, Decides}
use Rattle.std.proofs.lemmas.List.{length-append, length-take, take_more, take_all, same_from_push}
use Rattle.std.proofs.lemmas.Bool.{false≢true}
use Rattle.std.proofs.lemmas.Bool.Decides.{Decides-and, Decides-eqb, Decides-like, same_from_decides}
use Rattle.std.proofs.lemmas.Slice.Eq.{bytes_eq-Decides}
use Rattle.std.specs.Prelude.{IsTrue, IsFalse, ◌==◌}
use Rattle.planar_code.specs.Reading.{header, is_header}
use Rattle.planar_code.specs.Front.{is_front, IsCounted}
use Rattle.planar_code.specs.State.{State, after_more}

-- what it is to go on in the header
abbrev GoesOn : List ℕ → ℕ → Type 0
GoesOn xs b = (length xs < 15) × (b ≡ get_or header (length xs) 0)

front_from_push : (xs : List ℕ) (b : ℕ) → xs ++ b ∷ [] ≡ take (length (xs ++ b ∷ [])) header → (xs ≡ take (length xs) header) × GoesOn xs b
front_from_push xs b is =
    let pushed : length (xs ++ b ∷ []) ≡ length xs + 1 = length-append xs (b ∷ []) in
    let within : length xs < 15 = omega (arith, length-take (length (xs ++ b ∷ [])) header, ap length is) in
    let parts = same_from_push xs (take (length xs) header) b (get_or header (length xs) 0) (is ∙ ap (λ (n : ℕ). take n header) pushed ∙ take_more header (length xs) 0 within) in
    (parts.0, (within, parts.1))

push_from_front : (xs : List ℕ) (b : ℕ) → (xs ≡ take (length xs) header) × GoesOn xs b → xs ++ b ∷ [] ≡ take (length (xs ++ b ∷ [])) header
push_from_front xs b is =
    let pushed : length (xs ++ b ∷ []) ≡ length xs + 1 = length-append xs (b ∷ []) in
    ap (λ (x : List ℕ). x ++ b ∷ []) is.0 ∙ ap (λ (x : ℕ). take (length xs) header ++ x ∷ []) is.1.1 ∙ sym (take_more header (length xs) 0 is.1.0) ∙ ap (λ (n : ℕ). take n header) (sym pushed)

-- A test that is true exactly where a front of the header goes on with a byte.
pub front-push : (xs : List ℕ) (b : ℕ) (on : Bool) → Decides on (IsTrue (is_front xs) × (length xs < 15) × (b ≡ get_or header (length xs) 0)) → on ≡ is_front (xs ++ b ∷ [])
front-push xs b on goes = grind (arith, bytes_eq-Decides, take, length, header, same_from_decides, is_front, Decides-like, front_from_push, IsTrue, get_or, push_from_front)

-- a front of the header is the header exactly where it has its length
header-front : (xs : List ℕ) → IsTrue (is_front xs) × (length xs ≡ 15) → xs ≡ header
header-front xs is =
    (bytes_eq-Decides xs (take (length xs) header)).0 is.0 ∙ take_all (length xs) header (omega (arith, is.1))

front-header : (xs : List ℕ) → xs ≡ header → IsTrue (is_front xs) × (length xs ≡ 15)
front-header xs same =
    let long : length xs ≡ 15 = ap length same in
    ((bytes_eq-Decides xs (take (length xs) header)).1 (same ∙ sym (take_all (length xs) header (omega arith))), long)

whole-front : (xs : List ℕ) → (is_front xs && (length xs == 15)) ≡ is_header xs
whole-front xs =
    same_from_decides (is_front xs && (length xs == 15)) (is_header xs)
    (Decides-like (is_front xs && (length xs == 15)) (header-front xs) (front-header xs) (Decides-and (is_front xs) (length xs == 15) (λ (x : IsTrue (is_front xs)). x, λ (x : IsTrue (is_front xs)). x) (Decides-eqb (length xs) 15)))
    (bytes_eq-Decides xs header)

-- A header that may come has ended.
pub ends-header : (may : Bool) (xs : List ℕ) (count : ℕ) (front : Bool) → IsCounted may xs count front → (front && (count == 15)) ≡ (may && is_header xs)
ends-header true xs count front is = rw (is.0, is.1) (whole-front xs)
ends-header false xs count front is = rw is.1 refl

-- the state after a byte that ends no header
pub after-no_header : (state : State) (bytes : List ℕ) → IsFalse (state.header_may_come && is_header bytes) → after_more state bytes ≡ record state { pending = bytes }
after-no_header state bytes is = rw is refl

-- What a reader keeps of the bytes pending, with one byte more.
pub counted-push : (may : Bool) (pending : List ℕ) (b count : ℕ) (front on : Bool) → IsCounted may pending count front → Decides on (IsTrue front × (count < 15) × (b ≡ get_or header count 0)) → IsCounted may (pending ++ b ∷ []) (count + 1) on
counted-push true pending b count front on is goes =
    (rw (length-append pending (b ∷ [])) (omega (arith, is.0)), front-push pending b on (rw (← is.1, ← is.0) goes))
counted-push false pending b count front on is goes = grind (arith, length-append, false≢true)

-- What a front of the header begins with is a front of it.
pub front-shorter : (xs : List ℕ) (b : ℕ) → IsTrue (is_front (xs ++ b ∷ [])) → IsTrue (is_front xs)
front-shorter xs b is =
    (bytes_eq-Decides xs (take (length xs) header)).1 (front_from_push xs b ((bytes_eq-Decides (xs ++ b ∷ []) (take (length (xs ++ b ∷ [])) header)).0 is)).0

-- So is what the header begins with.
pub header-longer : (xs : List ℕ) (b : ℕ) → IsTrue (is_header (xs ++ b ∷ [])) → IsTrue (is_front xs)
header-longer xs b is = front-shorter xs b (front-header (xs ++ b ∷ []) ((bytes_eq-Decides (xs ++ b ∷ []) header).0 is)).0
