-- Triangles of edges over an edge, by the lists of its ends.
use Rattle.std.specs.Prelude.{ℕ, ◌≡◌, ◌≢◌, ◌<◌, ◌⊎◌, List, slice_index, Contains}
use Rattle.map_lists.specs.Lists.{Lists}
use Rattle.map_theory.specs.Maps.{HasDart, list_of, follows}

-- w is one of two vertices, if it has the stamp
abbrev pub IsSide : List ℕ → ℕ → ℕ → ℕ → ℕ → Type 0
IsSide marks stamp last next w = slice_index marks w ≡ stamp → (w ≡ last) ⊎ (w ≡ next)

-- u and w stand next to each other in v's list
abbrev pub AreBeside : Lists → ℕ → ℕ → ℕ → Type 0
AreBeside lists v u w = (follows lists v u ≡ w) ⊎ (follows lists v w ≡ u)

-- each neighbour that v and u have in common stands next to u in v's list
abbrev pub IsClosedOver : Lists → ℕ → ℕ → Type 0
IsClosedOver lists v u = (w : ℕ) → HasDart lists v w → HasDart lists u w → AreBeside lists v u w

-- for each edge that is so at one of its ends
abbrev pub AreClosed : Lists → Type 0
AreClosed lists = (v u : ℕ) → HasDart lists v u → IsClosedOver lists v u ⊎ IsClosedOver lists u v

-- u comes before v by its number in a list, or by its own where they have one number
abbrev pub ComesBefore : List ℕ → ℕ → ℕ → Type 0
ComesBefore degrees u v = (slice_index degrees u < slice_index degrees v) ⊎ ((slice_index degrees u ≡ slice_index degrees v) × (u < v))

-- an edge joins two of four vertices across them
abbrev pub HasDiagonal : Lists → ℕ → ℕ → ℕ → ℕ → Type 0
HasDiagonal lists s d p q = Contains (list_of lists s) p ⊎ Contains (list_of lists d) q

-- a walk from 0 past d, p and q to s and e is at 0 and d again, past four vertices
pub record IsRound (d p q s e : ℕ) : Type 0 where
  pub back : s ≡ 0
  pub again : e ≡ d
  pub across : p ≢ 0
  pub apart : q ≢ d
