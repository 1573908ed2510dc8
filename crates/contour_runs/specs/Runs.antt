-- Runs of insertions over a contour. A map is built up from the two vertices of its base by putting on vertices from outside, one at a time; they are numbered in the order in which they come.
use Rattle.std.specs.Prelude.{ℕ, zero, suc, ◌+◌, ◌-◌, ◌<◌, ◌≤◌, ◌≡◌, ◌⊎◌, ◌==◌, nat_lt, nat_le, if◌then◌else◌, List, map}
use Rattle.std.specs.List.{range_with_len}

-- A step: the new vertex comes over the contour from the place `first` to the place `last`, of which the vertices strictly between leave it.
pub record Step : Type 0 where
  pub first : ℕ
  pub last : ℕ

-- A stage: how many places the contour has, how many vertices are placed, the vertex at each place, and for each placed vertex its place: its own on the contour, or that of the contour vertex under which it has gone.
pub record Stage : Type 0 where
  pub width : ℕ
  pub count : ℕ
  pub vertex : ℕ → ℕ
  pub place : ℕ → ℕ

-- the place map: places up to the first stay, those strictly between go to that of the new vertex, which is next to the first, and the last and all behind it follow
unfoldable pub moved : Step → ℕ → ℕ
moved s i = if nat_le i s.first then i else if nat_lt i s.last then suc s.first else i + s.first + 2 - s.last

-- the vertex at each place after a step
unfoldable pub vertex_after : Stage → Step → ℕ → ℕ
vertex_after g s i = if nat_le i s.first then g.vertex i else if i == suc s.first then g.count else g.vertex (i + s.last - (s.first + 2))

-- the place of each vertex after a step
unfoldable pub place_after : Stage → Step → ℕ → ℕ
place_after g s v = if nat_lt v g.count then moved s (g.place v) else suc s.first

-- the stage after a step
abbrev pub after : Stage → Step → Stage
after g s = record { width = g.width + s.first + 2 - s.last; count = suc g.count; vertex = vertex_after g s; place = place_after g s }

-- the base alone: two vertices
abbrev pub base : Stage
base = record { width = 2; count = 2; vertex = λ i. i; place = λ v. v }

-- the stage after the first k steps
abbrev pub stage_after : (ℕ → Step) → ℕ → Stage
stage_after steps zero = base
stage_after steps (suc k) = after (stage_after steps k) (steps k)

-- a step names two places of the contour
pub record IsStep (g : Stage) (s : Step) : Type 0 where
  pub order : s.first < s.last
  pub within : s.last < g.width

-- a run of n steps
abbrev pub IsRun : (ℕ → Step) → ℕ → Type 0
IsRun steps n = (k : ℕ) → k < n → IsStep (stage_after steps k) (steps k)

-- the vertices of the contour, from the first vertex of the base to the second
abbrev pub contour : Stage → List ℕ
contour g = map g.vertex (range_with_len 0 g.width)

-- The step k covers v: it stands on the contour, strictly between the two places.
pub record IsCovered (steps : ℕ → Step) (k v : ℕ) : Type 0 where
  pub place : ℕ
  pub low : (steps k).first < place
  pub high : place < (steps k).last
  pub vertex : (stage_after steps k).vertex place ≡ v

-- A face that the step k makes, walked counterclockwise: a and b stand at the places i and i + 1 of the contour before, under the new vertex v.
pub record IsFaceOf (steps : ℕ → Step) (k i a b v : ℕ) : Type 0 where
  pub low : (steps k).first ≤ i
  pub high : i < (steps k).last
  pub left : (stage_after steps k).vertex i ≡ a
  pub right : (stage_after steps k).vertex (suc i) ≡ b
  pub new : (stage_after steps k).count ≡ v

-- the dart (x, y) is on such a face
pub record IsDartOf (steps : ℕ → Step) (k i x y : ℕ) : Type 0 where
  pub a : ℕ
  pub b : ℕ
  pub v : ℕ
  pub face : IsFaceOf steps k i a b v
  pub dart : ((x ≡ a) × (y ≡ b)) ⊎ (((x ≡ b) × (y ≡ v)) ⊎ ((x ≡ v) × (y ≡ a)))

-- how many faces n steps make: a step one for each two neighbours of the new vertex that follow one another
abbrev pub faces_made : (ℕ → Step) → ℕ → ℕ
faces_made steps zero = 0
faces_made steps (suc k) = faces_made steps k + ((steps k).last - (steps k).first)
