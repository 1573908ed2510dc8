-- The laws of canonical orders, as statements about all maps.
use Rattle.std.specs.Prelude.{ℕ, suc, ◌<◌, ◌≤◌, ◌≡◌, false, List, [], ◌∷◌, length, take, slice_index}
use Rattle.map_lists.specs.Lists.{Lists}
use Rattle.map_theory.specs.Maps.{Dart, HasDart, follows}
use Rattle.plane_laws.specs.Triangulations.{IsTriangulation}
use Rattle.canon_order.specs.Orders.{stands_in, IsCanonicalOrder}

-- Each triangulation has a canonical order for each base dart.
abbrev pub SomeOrder : Type 0
SomeOrder = (lists : Lists) (base : Dart) → IsTriangulation lists → HasDart lists base.0 base.1 → (at : List ℕ) × IsCanonicalOrder lists base at

-- The last cycle of a canonical order is the face of its base.
abbrev pub LastCycle : Type 0
LastCycle =
    (lists : Lists) (base : Dart) (at : List ℕ) → IsTriangulation lists → (order : IsCanonicalOrder lists base at) → order.cycle (length at) ≡ base.1 ∷ follows lists base.1 base.0 ∷ base.0 ∷ []

-- Where the row of v, from p to q, ends and begins in its list: after p comes a vertex that is not of us, and q comes after such a vertex alone.
pub record IsRunInList (lists : Lists) (us : List ℕ) (v p q : ℕ) : Type 0 where
  pub after : stands_in us (follows lists v p) ≡ false
  pub before : (u : ℕ) → HasDart lists v u → follows lists v u ≡ q → stands_in us u ≡ false

-- `IsRunInList` for each vertex of a canonical order from the third to the last but one, where us are it and those before it.
abbrev pub RowEnds : Type 0
RowEnds =
    (lists : Lists) (base : Dart) (at : List ℕ) → IsTriangulation lists → (order : IsCanonicalOrder lists base at) → (k : ℕ) (later : 2 ≤ k) (within : k < length at) → suc k < length at → IsRunInList lists (take (suc k) at) (slice_index at k) (order.built.put k later within).p (order.built.put k later within).q
