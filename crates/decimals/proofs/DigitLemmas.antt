-- Numbers that are cut while their digits are read.
use Rattle.std.proofs.Common.{◌≡◌, ◌++◌, ℕ, suc, ◌+◌, ◌-◌, ◌*◌, ◌<◌, ◌≤◌, Bool, true, false, List, [], ◌∷◌, length, drop, get_or, refl, sym, ap, ◌∙◌, arith, add-one, drop-cons}
use Rattle.std.specs.Prelude.{min, Option, Some, None, option_map}
use Rattle.decimals.specs.Numbers.{is_digit, decimal_from, one_more}

-- the number of digits, cut
abbrev pub cut_from : ℕ → ℕ → List ℕ → Option ℕ
cut_from most n bytes = option_map (min most) (decimal_from n bytes)

-- a number is cut before or after more digits are read
pub cut_from-cut : (most : ℕ) (bytes : List ℕ) (n m : ℕ) → min most n ≡ min most m → cut_from most n bytes ≡ cut_from most m bytes
cut_from-cut most [] n m same = ap (λ (k : ℕ). Some k) same
cut_from-cut most (b ∷ bytes) n m same = by_digit (is_digit b) refl (cut_from-cut most bytes (10 * n + (b - 48)) (10 * m + (b - 48)) (omega arith))
  where
    by_digit : (digit : Bool) → is_digit b ≡ digit → cut_from most (10 * n + (b - 48)) bytes ≡ cut_from most (10 * m + (b - 48)) bytes → cut_from most n (b ∷ bytes) ≡ cut_from most m (b ∷ bytes)
    by_digit true e rest = rw e rest
    by_digit false e rest = rw e refl

-- one digit more
digit-more : (most : ℕ) (digit : Bool) (n b next : ℕ) (bytes : List ℕ) → is_digit b ≡ digit → one_more most n b ≡ Some next → cut_from most next bytes ≡ cut_from most n (b ∷ bytes)
digit-more most true n b next bytes e is =
    let same : next ≡ min most (10 * n + (b - 48)) = cc in
    rw e (cut_from-cut most bytes next (10 * n + (b - 48)) (omega arith))
digit-more most false n b next bytes e is =
    let none : None ≡ Some next = rw e at is in cc

pub cut_from-more : (most : ℕ) (word : List ℕ) (n i b next : ℕ) → i < length word → get_or word i 0 ≡ b → one_more most n b ≡ Some next → cut_from most next (drop (i + 1) word) ≡ cut_from most n (drop i word)
cut_from-more most word n i b next within at is =
    let parts : drop i word ≡ b ∷ drop (i + 1) word = rw (add-one, drop-cons word i 0) (rw at refl) in
    digit-more most (is_digit b) n b next (drop (i + 1) word) refl is ∙ ap (λ (bytes : List ℕ). cut_from most n bytes) (sym parts)

more-near : (most : ℕ) (digit : Bool) (n b next : ℕ) → is_digit b ≡ digit → one_more most n b ≡ Some next → next ≤ most
more-near most true n b next e is =
    let same : next ≡ min most (10 * n + (b - 48)) = cc in
    omega arith
more-near most false n b next e is =
    let none : None ≡ Some next = rw e at is in cc

pub one_more-le : (most : ℕ) (n b next : ℕ) → one_more most n b ≡ Some next → next ≤ most
one_more-le most n b next is = more-near most (is_digit b) n b next refl is

-- a byte that is no digit
digit-none : (most : ℕ) (digit : Bool) (n b : ℕ) (bytes : List ℕ) → is_digit b ≡ digit → one_more most n b ≡ None → cut_from most n (b ∷ bytes) ≡ None
digit-none most true n b bytes e is =
    let some : Some (min most (10 * n + (b - 48))) ≡ None = rw e at is in cc
digit-none most false n b bytes e is = rw e refl

pub cut_from-none : (most : ℕ) (word : List ℕ) (n i b : ℕ) → i < length word → get_or word i 0 ≡ b → one_more most n b ≡ None → cut_from most n (drop i word) ≡ None
cut_from-none most word n i b within at is =
    let parts : drop i word ≡ b ∷ drop (suc i) word = rw (drop-cons word i 0) (rw at refl) in
    ap (λ (bytes : List ℕ). cut_from most n bytes) parts ∙ digit-none most (is_digit b) n b (drop (suc i) word) refl is

-- digits behind digits
pub decimal-append : (xs ys : List ℕ) (n m : ℕ) → decimal_from n xs ≡ Some m → decimal_from n (xs ++ ys) ≡ decimal_from m ys
decimal-append [] ys n m is = let same : n ≡ m = cc in ap (λ (k : ℕ). decimal_from k ys) same
decimal-append (b ∷ xs) ys n m is = by_digit (is_digit b) refl (decimal-append xs ys (10 * n + (b - 48)) m)
  where
    by_digit : (digit : Bool) → is_digit b ≡ digit → (decimal_from (10 * n + (b - 48)) xs ≡ Some m → decimal_from (10 * n + (b - 48)) (xs ++ ys) ≡ decimal_from m ys) → decimal_from n ((b ∷ xs) ++ ys) ≡ decimal_from m ys
    by_digit true e rest = rw e (rest (rw e at is))
    by_digit false e rest = let none : None ≡ Some m = rw e at is in cc

-- a number that is no greater than the bound is not cut
pub cut-same : (most : ℕ) (v : ℕ) (bytes : List ℕ) → v ≤ most → decimal_from 0 bytes ≡ Some v → cut_from most 0 bytes ≡ Some v
cut-same most v bytes near is = rw is (ap (λ (k : ℕ). Some k) (omega arith))
