-- Plane maps as lists: for each vertex, its neighbours in clockwise order. Vertices are numbered from 0.
use Rattle.std.specs.Prelude.{ℕ, zero, suc, ◌+◌, ◌-◌, ◌*◌, ◌/◌, ◌<◌, ◌≡◌, ◌≢◌, Bool, true, false, ◌&&◌, ◌==◌, if◌then◌else◌, List, [], ◌∷◌, ◌++◌, map, length, slice_index_or, AllPairs, Contains, sum_by, count_by}
use Rattle.map_lists.specs.Lists.{Lists}
use Rattle.classes.specs.Classes.{classes, class_count, same_class, orbits}

-- a dart: an edge with a direction, from the first vertex to the second
abbrev pub Dart : Type 0
Dart = ℕ × ℕ

-- the dart of this edge in the other direction
abbrev pub twin_dart : Dart → Dart
twin_dart d = (d.1, d.0)

-- the neighbours of v, clockwise
abbrev pub list_of : Lists → ℕ → List ℕ
list_of lists v = slice_index_or lists v []

-- (v, u) is a dart: u stands in v's list
abbrev pub HasDart : Lists → ℕ → ℕ → Type 0
HasDart lists v u = (v < length lists) × Contains (list_of lists v) u

-- A simple map: no list holds a number that is no vertex, its own vertex, or a number twice, and adjacency goes both ways.
pub record IsSimpleMap (lists : Lists) : Type 0 where
  pub some_vertex : 0 < length lists
  pub in_range : (v u : ℕ) → HasDart lists v u → u < length lists
  pub no_loop : (v u : ℕ) → HasDart lists v u → u ≢ v
  pub no_repeat : (v : ℕ) → v < length lists → AllPairs ◌≢◌ (list_of lists v)
  pub both_ways : (v u : ℕ) → HasDart lists v u → HasDart lists u v

-- the darts from v, in the order of its list
abbrev pub darts_from : ℕ → List ℕ → List Dart
darts_from v us = map (λ u. (v, u)) us

-- the darts of lists that begin with that of v, in order
abbrev pub darts_since : ℕ → Lists → List Dart
darts_since v [] = []
darts_since v (us ∷ lists) = darts_from v us ++ darts_since (v + 1) lists

-- all darts, vertex by vertex: a dart's number is its place here
abbrev pub darts : Lists → List Dart
darts lists = darts_since 0 lists

-- two darts are one
abbrev pub same_dart : Dart → Dart → Bool
same_dart d e = (d.0 == e.0) && (d.1 == e.1)

-- the place of the first x in a list, or the list's length where it has none
abbrev pub place_of : ℕ → List ℕ → ℕ
place_of x [] = 0
place_of x (y ∷ ys) = if y == x then 0 else place_of x ys + 1

-- the entry after the first x of a list, cyclically
unfoldable pub entry_after : ℕ → List ℕ → ℕ
entry_after x ys = slice_index_or ys (place_of x ys + 1) (slice_index_or ys 0 x)

-- the entry after u in v's list, cyclically
abbrev pub follows : Lists → ℕ → ℕ → ℕ
follows lists v u = entry_after u (list_of lists v)

-- (u, v) goes on to (v, what follows u in v's list)
abbrev pub face_step : Lists → Dart → Dart
face_step lists d = (d.1, follows lists d.1 d.0)

-- how many darts the first v lists hold
abbrev pub darts_before : Lists → ℕ → ℕ
darts_before [] v = 0
darts_before (us ∷ lists) zero = 0
darts_before (us ∷ lists) (suc v) = length us + darts_before lists v

-- the number of a dart
abbrev pub dart_number : Lists → Dart → ℕ
dart_number lists d = darts_before lists d.0 + place_of d.1 (list_of lists d.0)

-- the face step as a list of images, over the numbers of darts
abbrev pub face_images : Lists → List ℕ
face_images lists = map (λ d. dart_number lists (face_step lists d)) (darts lists)

-- the faces: each dart's number is labelled by the least number in its face
abbrev pub face_classes : Lists → List ℕ
face_classes lists = orbits (face_images lists)

-- n
abbrev pub vertex_count : Lists → ℕ
vertex_count lists = length lists

-- how many darts there are
abbrev pub dart_count : Lists → ℕ
dart_count lists = sum_by length lists

-- m: half the number of darts
abbrev pub edge_count : Lists → ℕ
edge_count lists = dart_count lists / 2

-- a list is empty
abbrev pub is_empty_list : List ℕ → Bool
is_empty_list [] = true
is_empty_list (u ∷ us) = false

-- how many vertices are isolated
abbrev pub isolated_count : Lists → ℕ
isolated_count lists = count_by is_empty_list lists

-- f: the orbits of the face step, and one face for each isolated vertex
unfoldable pub face_count : Lists → ℕ
face_count lists = class_count (face_classes lists) + isolated_count lists

-- the components: each vertex is labelled by the least vertex of its component
abbrev pub component_classes : Lists → List ℕ
component_classes lists = classes (length lists) (darts lists)

-- u and v are in one of the classes that count components
abbrev pub SameComponent : Lists → ℕ → ℕ → Type 0
SameComponent lists u v = same_class (component_classes lists) u v ≡ true

-- c: the classes of vertices under "joined by a path"
unfoldable pub component_count : Lists → ℕ
component_count lists = class_count (component_classes lists)

-- the genus: half of 2c + m - n - f
abbrev pub genus_of : ℕ → ℕ → ℕ → ℕ → ℕ
genus_of n m f c = (2 * c + m - (n + f)) / 2

-- the genus of a map: half of 2c + m - n - f
abbrev pub genus : Lists → ℕ
genus lists = genus_of (vertex_count lists) (edge_count lists) (face_count lists) (component_count lists)

-- genus zero
abbrev pub IsPlane : Lists → Type 0
IsPlane lists = vertex_count lists + face_count lists ≡ 2 * component_count lists + edge_count lists
