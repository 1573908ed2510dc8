-- Runs over a contour that make faces of any size. A step closes one face by a path of new vertices from one place of the contour to another; or it joins one new vertex to several places, and closes a face between each two of them in turn.
use Rattle.std.specs.Prelude.{ℕ, zero, suc, ◌+◌, ◌-◌, ◌<◌, ◌≤◌, ◌≡◌, ◌⊎◌, nat_lt, nat_le, if◌then◌else◌}
use Rattle.contour_runs.specs.Runs.{Stage, base}

-- A step: the places between which it comes, how many vertices and how many faces are new, and the places that bound the faces: face i lies over the contour from `cut i` to `cut (i + 1)`. Between the place `turn i` and the next one face i turns from its first side to its second.
pub record Step : Type 0 where
  pub first : ℕ
  pub last : ℕ
  pub vertices : ℕ
  pub faces : ℕ
  pub cut : ℕ → ℕ
  pub turn : ℕ → ℕ

-- where an older vertex at a place goes: up to the first turn not beyond the first place, between two turns to the new vertex, and behind the last turn not before the last place
unfoldable pub moved : Step → ℕ → ℕ
moved s i =
    if nat_le i s.first then i
    else if nat_le i (s.turn 0) then s.first
    else if nat_le i (s.turn (s.faces - 1)) then suc s.first
    else if nat_lt i s.last then s.first + s.vertices + 1
    else i + s.first + s.vertices + 1 - s.last

-- the vertex at each place after a step
unfoldable pub vertex_after : Stage → Step → ℕ → ℕ
vertex_after g s i = if nat_le i s.first then g.vertex i else if nat_le i (s.first + s.vertices) then g.count + i - suc s.first else g.vertex (i + s.last - (s.first + s.vertices + 1))

-- the place of each vertex after a step
unfoldable pub place_after : Stage → Step → ℕ → ℕ
place_after g s v = if nat_lt v g.count then moved s (g.place v) else v + suc s.first - g.count

-- the stage after a step
abbrev pub after : Stage → Step → Stage
after g s = record { width = g.width + s.first + s.vertices + 1 - s.last; count = g.count + s.vertices; vertex = vertex_after g s; place = place_after g s }

-- the stage after the first k steps, from the two vertices of the base on
abbrev pub stage_after : (ℕ → Step) → ℕ → Stage
stage_after steps zero = base
stage_after steps (suc k) = after (stage_after steps k) (steps k)

-- how many faces the first k steps make
abbrev pub faces_made : (ℕ → Step) → ℕ → ℕ
faces_made steps zero = 0
faces_made steps (suc k) = faces_made steps k + (steps k).faces

-- A step of a stage: at least one face, and one new vertex or, under a row of them, one face; the cuts go from the first place to the last, and each turn lies between two cuts.
pub record IsStep (g : Stage) (s : Step) : Type 0 where
  pub some_face : 0 < s.faces
  pub some_vertex : 0 < s.vertices
  pub single : (s.vertices ≡ 1) ⊎ (s.faces ≡ 1)
  pub begin : s.cut 0 ≡ s.first
  pub end : s.cut s.faces ≡ s.last
  pub low : (i : ℕ) → i < s.faces → s.cut i ≤ s.turn i
  pub high : (i : ℕ) → i < s.faces → s.turn i < s.cut (suc i)
  pub within : s.last < g.width

-- a run of n steps
abbrev pub IsRun : (ℕ → Step) → ℕ → Type 0
IsRun steps n = (k : ℕ) → k < n → IsStep (stage_after steps k) (steps k)

-- The darts of a face, walked counterclockwise: along the contour from place j to the next, up from its last place to the last new vertex, from a new vertex to the one before it, and down from the first new vertex.
pub record IsAlong (g : Stage) (s : Step) (i x y : ℕ) : Type 0 where
  pub place : ℕ
  pub low : s.cut i ≤ place
  pub high : place < s.cut (suc i)
  pub tail : g.vertex place ≡ x
  pub head : g.vertex (suc place) ≡ y

pub record IsUp (g : Stage) (s : Step) (i x y : ℕ) : Type 0 where
  pub tail : g.vertex (s.cut (suc i)) ≡ x
  pub head : g.count + s.vertices ≡ suc y

pub record IsAcross (g : Stage) (s : Step) (i x y : ℕ) : Type 0 where
  pub low : g.count ≤ y
  pub next : suc y ≡ x
  pub high : x < g.count + s.vertices

pub record IsDown (g : Stage) (s : Step) (i x y : ℕ) : Type 0 where
  pub tail : g.count ≡ x
  pub head : g.vertex (s.cut i) ≡ y

-- the dart (x, y) is on face i of a step
pub record IsDartOf (g : Stage) (s : Step) (i x y : ℕ) : Type 0 where
  pub within : i < s.faces
  pub dart : IsAlong g s i x y ⊎ (IsUp g s i x y ⊎ (IsAcross g s i x y ⊎ IsDown g s i x y))

-- v stands strictly under a face of the step k, and so is no neighbour of what it puts on
pub record IsUnder (steps : ℕ → Step) (k v : ℕ) : Type 0 where
  pub face : ℕ
  pub place : ℕ
  pub within : face < (steps k).faces
  pub low : (steps k).cut face < place
  pub high : place < (steps k).cut (suc face)
  pub vertex : (stage_after steps k).vertex place ≡ v

-- v is touched before step n: it was placed, and a step has come between it and another place
pub record IsTouched (steps : ℕ → Step) (n v : ℕ) : Type 0 where
  pub step : ℕ
  pub earlier : step < n
  pub end : ((stage_after steps step).vertex (steps step).first ≡ v) ⊎ ((stage_after steps step).vertex (steps step).last ≡ v)
