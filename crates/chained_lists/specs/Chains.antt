-- Lists of numbers, each number in one list at most, by the number behind each and the two ends of each list.
use Rattle.std.specs.Prelude.{ℕ, ◌<◌, ◌≤◌, ◌≡◌, cond, eqb, ltb, List, [], ◌∷◌, length, slice_index, Contains}

-- lists with another one in one place
abbrev pub put : ℕ → List ℕ → (ℕ → List ℕ) → ℕ → List ℕ
put p xs lists q = cond (eqb q p) xs (lists q)

-- each number below a bound is a list of its own, and all further lists are empty
abbrev pub singles : ℕ → ℕ → List ℕ
singles numbers p = cond (ltb p numbers) (p ∷ []) []

-- no number stands in a list twice
abbrev pub IsOnce : List ℕ → Type 0
IsOnce [] = Unit {0}
IsOnce (x ∷ xs) = (¬ Contains xs x) × IsOnce xs

-- the steps of f lead from x through a list to its last number z
abbrev pub Leads : (ℕ → ℕ) → ℕ → List ℕ → ℕ → Type 0
Leads f x [] z = ⊥
Leads f x (y ∷ []) z = (x ≡ y) × (z ≡ y)
Leads f x (y ∷ w ∷ ws) z = (x ≡ y) × Leads f (f y) (w ∷ ws) z

-- No number is in two lists, and none is in one twice.
pub record AreApart (lists : ℕ → List ℕ) : Type 0 where
  pub once : (p : ℕ) → IsOnce (lists p)
  pub one : (p q x : ℕ) → Contains (lists p) x → Contains (lists q) x → p ≡ q

-- Tables of links of such lists: `next` has the number behind each, `first` and `last` the ends of each list, and what is no number as the first of one that is empty.
pub record AreLinked (next first last : List ℕ) (lists : ℕ → List ℕ) : Type 0 where
  pub apart : AreApart lists
  pub within : (p x : ℕ) → Contains (lists p) x → x < length next
  pub none : (p : ℕ) → length first ≤ p → lists p ≡ []
  pub empty : (p : ℕ) → p < length first → length next ≤ slice_index first p → lists p ≡ []
  pub some : (p : ℕ) → p < length first → slice_index first p < length next → Leads (slice_index next) (slice_index first p) (lists p) (slice_index last p)
