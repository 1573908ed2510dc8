-- Things that lie on lines, and the lines as a linked list.
use Rattle.std.specs.Prelude.{ℕ, suc, ◌<◌, ◌≡◌, List, slice_index}

-- A linked list of q lines. The first m things lie on them: thing v on line number f v. A line goes by one of its things, `at i` for line i: `lines` leads from each thing to that of its line, and `next` from the thing of a line to that of the next line.
pub record AreLines (f : ℕ → ℕ) (m q first : ℕ) (lines next : List ℕ) : Type 0 where
  pub at : ℕ → ℕ
  pub some : 0 < q
  pub begins : at 0 ≡ first
  pub line_is : (v : ℕ) → v < m → slice_index lines v ≡ at (f v)
  pub number_lt : (v : ℕ) → v < m → f v < q
  pub within : (i : ℕ) → i < q → at i < m
  pub own : (i : ℕ) → i < q → f (at i) ≡ i
  pub links : (i : ℕ) → suc i < q → slice_index next (at i) ≡ at (suc i)

-- A walk along the linked lines has gone over k of them: each has its number at its thing, and r is the thing of line k, if there is one.
pub record AreWalked (f : ℕ → ℕ) (m q first : ℕ) (lines next : List ℕ) (h : AreLines f m q first lines next) (k r : ℕ) (numbers : List ℕ) : Type 0 where
  pub written : (i : ℕ) → i < k → i < q → slice_index numbers (h.at i) ≡ i
  pub here : k < q → r ≡ h.at k
