-- Tours of a map along some of its edges, and chords that are nested in one.
use Rattle.std.specs.Prelude.{ℕ, suc, ◌+◌, ◌*◌, ◌<◌, ◌≡◌, ◌↔◌, Bool, false, if◌then◌else◌}
use Rattle.classes.specs.Classes.{count_below}
use Rattle.map_lists.specs.Lists.{Lists}
use Rattle.map_theory.specs.Maps.{Dart, twin_dart, HasDart, IsSimpleMap, IsPlane, follows, face_step, dart_count, vertex_count, component_count}

-- a tour goes over an edge that it is to go along to the next edge at the other end, and past any other to the next edge at the same end
abbrev pub tour_step : (ℕ → ℕ → Bool) → Lists → Dart → Dart
tour_step along lists d = if along d.0 d.1 then face_step lists d else (d.0, follows lists d.0 d.1)

-- A tour that meets each dart once: the dart that stands at each place, and the place of each dart.
pub record IsTour (lists : Lists) (along : ℕ → ℕ → Bool) (at : ℕ → Dart) (place : Dart → ℕ) : Type 0 where
  pub darts : (p : ℕ) → p < dart_count lists → HasDart lists (at p).0 (at p).1
  pub places : (v u : ℕ) → HasDart lists v u → place (v, u) < dart_count lists
  pub there : (v u : ℕ) → HasDart lists v u → at (place (v, u)) ≡ (v, u)
  pub back : (p : ℕ) → p < dart_count lists → place (at p) ≡ p
  pub next : (p : ℕ) → suc p < dart_count lists → tour_step along lists (at p) ≡ at (suc p)
  pub round : (p : ℕ) → suc p ≡ dart_count lists → tour_step along lists (at p) ≡ at 0

-- a dart of an edge that the tour does not go along
abbrev pub IsChord : Lists → (ℕ → ℕ → Bool) → Dart → Type 0
IsChord lists along d = HasDart lists d.0 d.1 × (along d.0 d.1 ≡ false)

-- no two chords have their ends in turn: of two that begin one after the other, the second does not begin before the first ends and end behind it
abbrev pub AreNested : Lists → (ℕ → ℕ → Bool) → (Dart → ℕ) → Type 0
AreNested lists along place =
    (d e : Dart) → IsChord lists along d → IsChord lists along e → place d < place e → place e < place (twin_dart d) → ¬ (place (twin_dart d) < place (twin_dart e))

-- A connected map with a tour along n - 1 edges, which are a spanning tree, has genus zero exactly where all other edges are nested in it.
abbrev pub PlaneByNesting : Type 0
PlaneByNesting =
    (lists : Lists) (along : ℕ → ℕ → Bool) (at : ℕ → Dart) (place : Dart → ℕ) → IsSimpleMap lists → 0 < dart_count lists → component_count lists ≡ 1 → ((v u : ℕ) → along v u ≡ along u v) → IsTour lists along at place → count_below (λ p. along (at p).0 (at p).1) (dart_count lists) + 2 ≡ 2 * vertex_count lists → IsPlane lists ↔ AreNested lists along place
