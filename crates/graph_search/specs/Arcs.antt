-- Directed graphs as lists: for each vertex the vertices to which its arcs lead. The lengths of the longest paths from one of them.
use Rattle.std.specs.Prelude.{ℕ, ◌+◌, ◌<◌, ◌≡◌, ◌≢◌, List, [], length, slice_index, slice_index_or, All, AllPairs, Contains}

-- where the arcs from e lead
abbrev pub arcs_of : List (List ℕ) → ℕ → List ℕ
arcs_of arcs e = slice_index_or arcs e []

abbrev pub HasArc : List (List ℕ) → ℕ → ℕ → Type 0
HasArc arcs e r = (e < length arcs) × Contains (arcs_of arcs e) r

-- Each arc leads to a vertex, and along each arc but those to the base some height rises; so no way without the base goes round. Each vertex but the base is reached by an arc.
pub record IsAcyclic (arcs : List (List ℕ)) (base : ℕ) : Type 0 where
  pub base_in : base < length arcs
  pub within : (e r : ℕ) → HasArc arcs e r → r < length arcs
  pub height : ℕ → ℕ
  pub rising : (e r : ℕ) → HasArc arcs e r → r ≢ base → height e < height r
  pub reached : (r : ℕ) → r < length arcs → r ≢ base → (e : ℕ) × HasArc arcs e r

-- For each vertex the length of the longest path from the base, without the arcs that lead to the base: 0 for the base, and for any other one more than the greatest of those from which arcs lead to it.
pub record AreLongest (arcs : List (List ℕ)) (base : ℕ) (number : List ℕ) : Type 0 where
  pub count : length number ≡ length arcs
  pub first : slice_index number base ≡ 0
  pub greatest : (e r : ℕ) → HasArc arcs e r → r ≢ base → slice_index number e < slice_index number r
  pub one_more : (r : ℕ) → r < length arcs → r ≢ base → (e : ℕ) × HasArc arcs e r × (slice_index number r ≡ slice_index number e + 1)

-- All vertices once, the base first; where an arc leads to a vertex other than the base, the vertex from which it leads stands before that.
pub record IsTopological (arcs : List (List ℕ)) (base : ℕ) (order : List ℕ) : Type 0 where
  pub count : length order ≡ length arcs
  pub vertices : All (λ e. e < length arcs) order
  pub once : AllPairs ◌≢◌ order
  pub first : slice_index order 0 ≡ base
  pub before : (e r : ℕ) → HasArc arcs e r → r ≢ base → (i : ℕ) × (j : ℕ) × (i < j) × (j < length order) × (slice_index order i ≡ e) × (slice_index order j ≡ r)
