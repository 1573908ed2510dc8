-- How often the vertices of a contour and its edges have each number.
use Rattle.std.specs.Prelude.{ℕ, suc, ◌+◌, ◌-◌, ◌<◌, ◌≡◌, ◌==◌, List, length, slice_index, count_by}
use Rattle.classes.specs.Classes.{count_below}
use Rattle.map_lists.specs.Lists.{Lists}
use Rattle.map_theory.specs.Maps.{list_of}
use Rattle.map_theory.proofs.DartCounts.{sum_below}
use Rattle.convex_orders.specs.Contours.{inner_number}

-- how often f stands in the row of v
abbrev pub met_at : Lists → ℕ → ℕ → ℕ
met_at own f v = count_by (λ u. u == f) (list_of own v)

-- how often f stands in the rows of the first n vertices of the list
abbrev pub met_below : Lists → List ℕ → ℕ → ℕ → ℕ
met_below own ws n f = sum_below (λ i. met_at own f (slice_index ws i)) n

-- how many of the first n numbers are f
abbrev pub numbered_below : (ℕ → ℕ) → ℕ → ℕ → ℕ
numbered_below number n f = count_below (λ i. number i == f) n

-- how many of the first n edges along the list have the number f
abbrev pub edges_below : Lists → Lists → List ℕ → ℕ → ℕ → ℕ
edges_below lists own ws n f = numbered_below (inner_number lists own ws) n f

-- how often the vertices strictly between two places meet the face f
abbrev pub met_between : Lists → List ℕ → ℕ → ℕ → ℕ → ℕ
met_between own ws first last f = sum_below (λ k. met_at own f (slice_index ws (suc first + k))) (last - suc first)

-- how many of the edges from the one place to the other have the number f
abbrev pub edges_between : Lists → Lists → List ℕ → ℕ → ℕ → ℕ → ℕ
edges_between lists own ws first last f = numbered_below (λ k. inner_number lists own ws (first + k)) (last - first) f

-- For each number below `count`: how often the rows of the vertices have it, and how many edges.
pub record AreCounts (lists own : Lists) (count : ℕ) (ws places edges : List ℕ) : Type 0 where
  pub places_long : length places ≡ count
  pub edges_long : length edges ≡ count
  pub places_are : (f : ℕ) → f < count → slice_index places f ≡ met_below own ws (length ws) f
  pub edges_are : (f r : ℕ) → f < count → suc r ≡ length ws → slice_index edges f ≡ edges_below lists own ws r f
