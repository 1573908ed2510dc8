-- Gaps of a contour that a face leaves open, stretches that are ears, and the contour with an ear taken off.
use Rattle.std.specs.Prelude.{ℕ, suc, ◌+◌, ◌-◌, ◌<◌, ◌≤◌, ◌≡◌, ◌≢◌, ◌⊎◌, Bool, true, nat_le, if◌then◌else◌}
use Rattle.map_lists.specs.Lists.{Lists}
use Rattle.map_theory.specs.Maps.{HasDart}
use Rattle.convex_peeling.specs.Contours.{Passes, face_of}

-- A face that is left passes the places a and b, and the edge of the contour at place i between them is not its own.
pub record IsGap (lists : Lists) (alive : ℕ → Bool) (w : ℕ → ℕ) (r face a i b : ℕ) : Type 0 where
  pub living : alive face ≡ true
  pub low : a ≤ i
  pub high : i < b
  pub within : b ≤ r
  pub first : Passes lists face (w a)
  pub last : Passes lists face (w b)
  pub gap : face_of lists (w (suc i)) (w i) ≢ face

-- A face of which one stretch is on the contour, from place a to place b, and the rest behind it: from `walk 0`, the vertex at a, it goes on to `walk many`, that at b, and meets no other vertex of the contour.
pub record IsEar (lists : Lists) (w : ℕ → ℕ) (r face a b : ℕ) (walk : ℕ → ℕ) (many : ℕ) : Type 0 where
  pub some_edge : a < b
  pub within : b ≤ r
  pub edges : (i : ℕ) → a ≤ i → i < b → face_of lists (w (suc i)) (w i) ≡ face
  pub places : (i : ℕ) → i ≤ r → Passes lists face (w i) → (a ≤ i) × (i ≤ b)
  pub some_step : 0 < many
  pub first : walk 0 ≡ w a
  pub last : walk many ≡ w b
  pub darts : (t : ℕ) → t < many → HasDart lists (walk t) (walk (suc t)) × (face_of lists (walk t) (walk (suc t)) ≡ face)
  pub inside : (t i : ℕ) → 0 < t → t < many → i ≤ r → walk t ≢ w i
  pub distinct : (s t : ℕ) → s ≤ many → t ≤ many → walk s ≡ walk t → s ≡ t
  pub only : (x y : ℕ) → HasDart lists x y → face_of lists x y ≡ face → ((i : ℕ) × (a ≤ i) × (i < b) × (x ≡ w (suc i)) × (y ≡ w i)) ⊎ ((t : ℕ) × (t < many) × (x ≡ walk t) × (y ≡ walk (suc t)))

-- the contour with a walk in place of what stands from place a to place b
unfoldable pub spliced : (ℕ → ℕ) → ℕ → ℕ → (ℕ → ℕ) → ℕ → ℕ → ℕ
spliced w a b walk many i = if nat_le i a then w i else if nat_le i (a + many) then walk (i - a) else w (i + b - (a + many))
