-- What printed numbers are as words.
use Rattle.std.proofs.Common.{◌≡◌, ◌≢◌, ℕ, zero, suc, ◌+◌, ◌-◌, ◌*◌, ◌<◌, ◌≤◌, ◌^◌, ℤ, pos, negsuc, ◌==◌, lit<, lit≤, Bool, true, false, List, [], ◌∷◌, ◌++◌, length, get_or, refl, ap, ◌∙◌, arith, length-append, rules}
use Rattle.std.proofs.lemmas.Bool.Decides.{nat_tests}
use Rattle.std.specs.Prelude.{min, Option, Some, None, option_map, codes, decimal, bytes_eq, All}
use Rattle.std.specs.Fmt.{signed_decimal}
use Rattle.std.specs.Str.{all_ascii_digits}
use Rattle.std.proofs.lemmas.Str.Parse.{IsNumeralModel, numerals_by_fold, tells_all_ascii_digits}
use Rattle.std.proofs.lemmas.Fmt.{digits_decimal, digits_value-decimal, first_decimal, decimal_nonempty, decimal_digit}
use Rattle.std.proofs.Math.Seq.{get_or-append_seam}
use Rattle.std.proofs.lemmas.List.{take_at}
use Rattle.std.proofs.lemmas.List.Elements.{All-nil, All-cons, All-append}
use Rattle.figure_text.specs.declared.line_words.Signed.{Signed}
use Rattle.figure_text.specs.declared.line_words.Word.TheVariants.{Number, Closing}
use Rattle.figure_text.specs.Words.{far, number_of, plus, minus, signed_of, closing_of, numeral_word, word_of}
use Rattle.decimals.specs.Numbers.{is_digit, decimal_from, canonical}
use Rattle.figure_text.specs.Laws.{sign_of}

-- the number that digits give, read on from n
abbrev value_on : ℕ → List ℕ → ℕ
value_on n [] = n
value_on n (c ∷ cs) = value_on (10 * n + (c - 48)) cs

own : IsNumeralModel (λ ds. all_ascii_digits ds ≡ true) (value_on 0)
own = numerals_by_fold _ (search rules) value_on (search rules)

is_digit-true : (c : ℕ) → 48 ≤ c → c ≤ 57 → is_digit c ≡ true
is_digit-true c low high = grind (arith, nat_tests)

digits-read : (ds : List ℕ) (n : ℕ) → all_ascii_digits ds ≡ true → decimal_from n ds ≡ Some (value_on n ds)
digits-read [] n are = refl
digits-read (c ∷ cs) n are =
    let parts = tells_all_ascii_digits.parts c cs are in
    rw (is_digit-true c parts.0.0 parts.0.1) (digits-read cs (10 * n + (c - 48)) parts.1)

-- bytes above the space
abbrev pub Dark : List ℕ → Type 0
Dark word = All (λ b. 33 ≤ b) word

digits-dark : (ds : List ℕ) → all_ascii_digits ds ≡ true → Dark ds
digits-dark [] are = All-nil (λ b. 33 ≤ b)
digits-dark (c ∷ cs) are =
    let parts = tells_all_ascii_digits.parts c cs are in
    All-cons (λ b. 33 ≤ b) c cs (omega (arith, parts.0.0)) (digits-dark cs parts.1)

pub decimal-dark : (n : ℕ) → n < 2 ^ 64 → Dark (decimal n)
decimal-dark n small = digits-dark (decimal n) (digits_decimal own n small)

first-digit : (ds : List ℕ) → all_ascii_digits ds ≡ true → 0 < length ds → (48 ≤ get_or ds 0 0) × (get_or ds 0 0 ≤ 57)
first-digit [] are some = absurd (omega arith)
first-digit (c ∷ cs) are some = let parts = tells_all_ascii_digits.parts c cs are in (parts.0.0, parts.0.1)

decimal-first : (n : ℕ) → n < 2 ^ 64 → (48 ≤ get_or (decimal n) 0 0) × (get_or (decimal n) 0 0 ≤ 57)
decimal-first n small = first-digit (decimal n) (digits_decimal own n small) (decimal_nonempty n small)

canonical-first : (ds : List ℕ) → 0 < length ds → 48 < get_or ds 0 0 → canonical ds ≡ true
canonical-first [] some first = absurd (omega arith)
canonical-first (b ∷ []) some first = refl
canonical-first (b ∷ c ∷ ds) some first = grind (arith, nat_tests)

decimal-canonical : (n : ℕ) → n < 2 ^ 64 → canonical (decimal n) ≡ true
decimal-canonical zero small = ap canonical (decimal_digit 0 (lit< tt))
decimal-canonical (suc n) small = canonical-first (decimal (suc n)) (decimal_nonempty (suc n) small) (first_decimal (suc n) (omega arith) small)

-- a printed number is read as that number
pub number_of-decimal : (n : ℕ) → n < far → number_of (decimal n) ≡ Some n
number_of-decimal n small =
    let fits : n < 2 ^ 64 = omega arith in
    let read : decimal_from 0 (decimal n) ≡ Some n = digits-read (decimal n) 0 (digits_decimal own n fits) ∙ ap (λ (k : ℕ). Some k) (digits_value-decimal own n fits) in
    let near : min far n ≡ n = omega arith in
    rw (decimal-canonical n fits) (rw read (ap (λ (k : ℕ). Some k) near))

plain-signed : (ds : List ℕ) → 0 < length ds → get_or ds 0 0 ≢ 45 → signed_of ds ≡ plus (number_of ds)
plain-signed [] some other = absurd (omega arith)
plain-signed (b ∷ ds) some other =
    let no : (b == 45) ≡ false = grind (arith, nat_tests) in rw no refl

pub signed_of-signed : (z : ℤ) → (sign_of z).size < far → signed_of (signed_decimal z) ≡ Some (sign_of z)
signed_of-signed x0 small = grind (arith, pos, plain-signed, decimal, decimal_nonempty, decimal-first, plus, number_of-decimal, negsuc, nat_tests, minus)

-- no printed number is a word of letters
other-first : (ds : List ℕ) (c : ℕ) (cs : List ℕ) → get_or ds 0 0 < c → bytes_eq ds (c ∷ cs) ≡ false
other-first [] c cs less = refl
other-first (d ∷ ds) c cs less = let no : (d == c) ≡ false = grind (arith, nat_tests) in rw no refl

pub no-name : (ds : List ℕ) → get_or ds 0 0 < 75 → word_of ds ≡ numeral_word (signed_of ds) (closing_of ds)
no-name ds less = grind (arith, bytes_eq, codes, other-first)

signed-first : (z : ℤ) → (sign_of z).size < far → get_or (signed_decimal z) 0 0 < 75
signed-first (pos n) small = let first = decimal-first n (omega arith) in omega (arith, first.1)
signed-first (negsuc n) small = lit< tt

pub word_of-signed : (z : ℤ) → (sign_of z).size < far → word_of (signed_decimal z) ≡ Number (sign_of z)
word_of-signed z small =
    no-name (signed_decimal z) (signed-first z small) ∙ ap (λ (s : Option Signed). numeral_word s (closing_of (signed_decimal z))) (signed_of-signed z small)

pub word_of-decimal : (n : ℕ) → n < far → word_of (decimal n) ≡ Number (sign_of (pos n))
word_of-decimal n small = word_of-signed (pos n) small

-- a number before a colon
colon-from : (ds : List ℕ) (n : ℕ) → decimal_from n (ds ++ 58 ∷ []) ≡ None
colon-from [] n = refl
colon-from (b ∷ ds) n = by_digit (is_digit b) refl (colon-from ds (10 * n + (b - 48)))
  where
    by_digit : (digit : Bool) → is_digit b ≡ digit → decimal_from (10 * n + (b - 48)) (ds ++ 58 ∷ []) ≡ None → decimal_from n (b ∷ (ds ++ 58 ∷ [])) ≡ None
    by_digit true e rest = rw e rest
    by_digit false e rest = rw e refl

colon-number : (ds : List ℕ) → number_of (ds ++ 58 ∷ []) ≡ None
colon-number ds = by_first (canonical (ds ++ 58 ∷ [])) refl
  where
    by_first : (good : Bool) → canonical (ds ++ 58 ∷ []) ≡ good → number_of (ds ++ 58 ∷ []) ≡ None
    by_first true e = rw e (rw (colon-from ds 0) refl)
    by_first false e = rw e refl

colon-signed : (ds : List ℕ) → signed_of (ds ++ 58 ∷ []) ≡ None
colon-signed [] = refl
colon-signed (b ∷ ds) = by_minus (b == 45) refl
  where
    by_minus : (is : Bool) → (b == 45) ≡ is → signed_of (b ∷ (ds ++ 58 ∷ [])) ≡ None
    by_minus true e = rw e (ap minus (colon-number ds))
    by_minus false e = rw e (ap plus (colon-number (b ∷ ds)))

closing-of : (ds : List ℕ) → closing_of (ds ++ 58 ∷ []) ≡ signed_of ds
closing-of ds =
    let len : length (ds ++ 58 ∷ []) - 1 ≡ length ds = omega (arith, length-append ds (58 ∷ [])) in
    rw len (rw (get_or-append_seam ds 58 [] 0) (ap signed_of (take_at ds (58 ∷ []) (length ds) refl)))

signed-closing-first : (z : ℤ) → (sign_of z).size < far → get_or (signed_decimal z ++ 58 ∷ []) 0 0 < 75
signed-closing-first (pos n) small =
    let fits : n < 2 ^ 64 = omega arith in
    first-append (decimal n) (decimal_nonempty n fits) (signed-first (pos n) small)
  where
    first-append : (ds : List ℕ) → 0 < length ds → get_or ds 0 0 < 75 → get_or (ds ++ 58 ∷ []) 0 0 < 75
    first-append [] some less = absurd (omega arith)
    first-append (b ∷ ds) some less = less
signed-closing-first (negsuc n) small = lit< tt

pub word_of-closing : (z : ℤ) → (sign_of z).size < far → word_of (signed_decimal z ++ 58 ∷ []) ≡ Closing (sign_of z)
word_of-closing z small =
    no-name (signed_decimal z ++ 58 ∷ []) (signed-closing-first z small)
    ∙ ap (λ (s : Option Signed). numeral_word s (closing_of (signed_decimal z ++ 58 ∷ []))) (colon-signed (signed_decimal z))
    ∙ ap (λ (s : Option Signed). numeral_word None s) (closing-of (signed_decimal z) ∙ signed_of-signed z small)

pub signed-dark : (z : ℤ) → (sign_of z).size < far → Dark (signed_decimal z)
signed-dark (pos n) small = decimal-dark n (omega arith)
signed-dark (negsuc n) small = All-cons (λ b. 33 ≤ b) 45 (decimal (suc n)) (lit≤ tt) (decimal-dark (suc n) (omega arith))

pub colon-dark : (z : ℤ) → (sign_of z).size < far → Dark (signed_decimal z ++ 58 ∷ [])
colon-dark z small = All-append (λ b. 33 ≤ b) (signed_decimal z) (58 ∷ []) (signed-dark z small) (All-cons (λ b. 33 ≤ b) 58 [] (lit≤ tt) (All-nil (λ b. 33 ≤ b)))

-- digits are a number
first-of-digits : (ds : List ℕ) (v : ℕ) → 0 < length ds → option_map (min far) (decimal_from 0 ds) ≡ Some v → is_digit (get_or ds 0 0) ≡ true
first-of-digits [] v some is = absurd (omega arith)
first-of-digits (b ∷ ds) v some is = by_digit (is_digit b) refl
  where
    by_digit : (digit : Bool) → is_digit b ≡ digit → is_digit b ≡ true
    by_digit true e = e
    by_digit false e = let none : None ≡ Some v = rw e at is in cc

canonical-some : (ds : List ℕ) → canonical ds ≡ true → 0 < length ds
canonical-some [] is = absurd (cc)
canonical-some (b ∷ ds) is = omega arith

digit-range : (b : ℕ) → is_digit b ≡ true → (48 ≤ b) × (b ≤ 57)
digit-range b is = (grind (arith, nat_tests), grind (arith, nat_tests))

digits-signed : (ds : List ℕ) (v : ℕ) → canonical ds ≡ true → option_map (min far) (decimal_from 0 ds) ≡ Some v → signed_of ds ≡ Some (record { negative = false; size = v })
digits-signed ds v good is =
    let some = canonical-some ds good in
    let number : number_of ds ≡ Some v = rw good is in
    plain-signed ds some (omega (arith, (digit-range (get_or ds 0 0) (first-of-digits ds v some is)).0)) ∙ ap plus number

low-first : (ds : List ℕ) (b : ℕ) → 0 < length ds → get_or ds 0 0 < 75 → get_or (ds ++ b ∷ []) 0 0 < 75
low-first [] b some less = absurd (omega arith)
low-first (d ∷ ds) b some less = less

-- digits
pub word_of-digits : (ds : List ℕ) (v : ℕ) → canonical ds ≡ true → option_map (min far) (decimal_from 0 ds) ≡ Some v → word_of ds ≡ Number (record { negative = false; size = v })
word_of-digits ds v good is =
    let first = digit-range (get_or ds 0 0) (first-of-digits ds v (canonical-some ds good) is) in
    no-name ds (omega (arith, first.1)) ∙ ap (λ (s : Option Signed). numeral_word s (closing_of ds)) (digits-signed ds v good is)

-- digits before a colon
pub word_of-digits_closing : (ds : List ℕ) (v : ℕ) → canonical ds ≡ true → option_map (min far) (decimal_from 0 ds) ≡ Some v → word_of (ds ++ 58 ∷ []) ≡ Closing (record { negative = false; size = v })
word_of-digits_closing ds v good is =
    let some = canonical-some ds good in
    no-name (ds ++ 58 ∷ []) (low-first ds 58 some (omega (arith, (digit-range (get_or ds 0 0) (first-of-digits ds v some is)).1)))
    ∙ ap (λ (s : Option Signed). numeral_word s (closing_of (ds ++ 58 ∷ []))) (colon-signed ds)
    ∙ ap (λ (s : Option Signed). numeral_word None s) (closing-of ds ∙ digits-signed ds v good is)
