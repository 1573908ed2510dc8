-- What is taken off from a contour at once: a row of vertices under one face, or one vertex with all its faces.
use Rattle.std.specs.Prelude.{ℕ, suc, ◌+◌, ◌<◌, ◌≤◌, ◌≡◌, ◌≢◌, ◌⊎◌, Bool, true, false}
use Rattle.classes.specs.Classes.{count_below}
use Rattle.map_lists.specs.Lists.{Lists}
use Rattle.map_theory.specs.Maps.{HasDart, dart_count}
use Rattle.convex_peeling.specs.Contours.{face_of}

-- A removal: the faces and the contour that it leaves, whose last place is `places`; how many vertices go, which stood behind the place `first`, and how many faces; and the places of the new contour that bound the faces, from `first` to `last`: face i has the new contour from `cut i` to `cut (i + 1)`.
pub record Removal : Type 0 where
  pub alive : ℕ → Bool
  pub contour : ℕ → ℕ
  pub places : ℕ
  pub first : ℕ
  pub last : ℕ
  pub vertices : ℕ
  pub faces : ℕ
  pub cut : ℕ → ℕ
  pub made : ℕ → ℕ

-- a dart of face i: along the new contour, from it to the last vertex that goes, from one of these to the one before it, or from the first of them to the new contour
abbrev pub IsOnRemoved : (ℕ → ℕ) → Removal → ℕ → ℕ → ℕ → Type 0
IsOnRemoved w o i x y =
    ((p : ℕ) × (o.cut i ≤ p) × (p < o.cut (suc i)) × (o.contour p ≡ x) × (o.contour (suc p) ≡ y))
    ⊎ (((x ≡ o.contour (o.cut (suc i))) × (y ≡ w (o.first + o.vertices)))
    ⊎ (((q : ℕ) × (0 < q) × (q < o.vertices) × (x ≡ w (suc (o.first + q))) × (y ≡ w (o.first + q)))
    ⊎ ((x ≡ w (suc o.first)) × (y ≡ o.contour (o.cut i)))))

-- It is a removal from the contour with the places 0 to r.
pub record IsTakenOff (lists : Lists) (alive : ℕ → Bool) (w : ℕ → ℕ) (r : ℕ) (o : Removal) : Type 0 where
  pub some_face : 0 < o.faces
  pub some_vertex : 0 < o.vertices
  pub single : (o.vertices ≡ 1) ⊎ (o.faces ≡ 1)
  pub begin : o.cut 0 ≡ o.first
  pub end : o.cut o.faces ≡ o.last
  pub rises : (i : ℕ) → i < o.faces → o.cut i < o.cut (suc i)
  pub within : o.last ≤ o.places
  pub before : (i : ℕ) → i ≤ o.first → o.contour i ≡ w i
  pub behind : (q : ℕ) → o.contour (o.last + q) ≡ w (o.first + o.vertices + 1 + q)
  pub width : o.places + (o.first + o.vertices + 1) ≡ r + o.last
  pub fresh : (p i : ℕ) → o.first < p → p < o.last → i ≤ r → o.contour p ≢ w i
  pub living : (i : ℕ) → i < o.faces → alive (o.made i) ≡ true
  pub dead : (i : ℕ) → i < o.faces → o.alive (o.made i) ≡ false
  pub still : (x : ℕ) → o.alive x ≡ true → alive x ≡ true
  pub gone : (x : ℕ) → alive x ≡ true → o.alive x ≡ false → (i : ℕ) × (i < o.faces) × (x ≡ o.made i)
  pub darts : (i x y : ℕ) → i < o.faces → HasDart lists x y → face_of lists x y ≡ o.made i → IsOnRemoved w o i x y
  pub fewer : count_below alive (dart_count lists) ≡ count_below o.alive (dart_count lists) + o.faces
