-- The laws of runs.
use Rattle.std.specs.Prelude.{ℕ, suc, ◌+◌, ◌*◌, ◌-◌, ◌<◌, ◌≤◌, ◌≡◌, ◌≢◌, ◌⊎◌, List, ◌∷◌, ◌++◌, map, length, slice_index, []}
use Rattle.contour_runs.specs.Runs.{Step, Stage, stage_after, IsRun, contour, IsCovered, IsFaceOf, faces_made}

-- What holds at a stage: the two vertices of the base are the ends of the contour, what stands there is placed, each at its own place, and each place that a vertex has is one of the contour.
pub record IsStage (g : Stage) : Type 0 where
  pub wide : 2 ≤ g.width
  pub few : g.width ≤ g.count
  pub begin : g.vertex 0 ≡ 0
  pub end : (i : ℕ) → suc i ≡ g.width → g.vertex i ≡ 1
  pub placed : (i : ℕ) → i < g.width → g.vertex i < g.count
  pub own : (i : ℕ) → i < g.width → g.place (g.vertex i) ≡ i
  pub within : (v : ℕ) → v < g.count → g.place v < g.width

-- Just one step covers v, and it does not stand on the contour in the end.
pub record IsCoveredOnce (steps : ℕ → Step) (n v : ℕ) : Type 0 where
  pub step : ℕ
  pub earlier : step < n
  pub covered : IsCovered steps step v
  pub alone : (k : ℕ) → k < n → IsCovered steps k v → k ≡ step
  pub gone : (stage_after steps n).vertex ((stage_after steps n).place v) ≢ v

-- Each placed vertex stands on the contour in the end, and no step covers it, or just one step covers it.
abbrev pub CoveredOnce : Type 0
CoveredOnce =
    (steps : ℕ → Step) (n v : ℕ) → IsRun steps n → v < n + 2 → (((stage_after steps n).vertex ((stage_after steps n).place v) ≡ v) × ((k : ℕ) → k < n → ¬ IsCovered steps k v)) ⊎ IsCoveredOnce steps n v

-- The faces made and the places of the contour are twice as many as the vertices, less two.
abbrev pub FaceCount : Type 0
FaceCount = (steps : ℕ → Step) (n : ℕ) → IsRun steps n → faces_made steps n + (stage_after steps n).width ≡ 2 * n + 2

-- The list `new` is `old` with v over a row of it, from p to q, in place of what stands strictly between them.
pub record IsPutOver (v : ℕ) (old new : List ℕ) : Type 0 where
  pub front : List ℕ
  pub p : ℕ
  pub middle : List ℕ
  pub q : ℕ
  pub back : List ℕ
  pub before : old ≡ front ++ (p ∷ middle ++ q ∷ back)
  pub after : new ≡ front ++ p ∷ v ∷ q ∷ back

-- the row over which v stands
abbrev pub row : (v : ℕ) (old new : List ℕ) → IsPutOver v old new → List ℕ
row v old new put = put.p ∷ put.middle ++ put.q ∷ []

-- x and y follow one another on the row, and z stands over it
pub record IsFaceOver (v : ℕ) (old new : List ℕ) (put : IsPutOver v old new) (x y z : ℕ) : Type 0 where
  pub place : ℕ
  pub within : place < length put.middle + 1
  pub left : slice_index (row v old new put) place ≡ x
  pub right : slice_index (row v old new put) (suc place) ≡ y
  pub top : v ≡ z

-- Lists that begin with the first two vertices of `at`, and take in one vertex more after the other: the first k give `cycle k`.
pub record IsGrowing (at : List ℕ) (cycle : ℕ → List ℕ) : Type 0 where
  pub many : 2 ≤ length at
  pub begin : cycle 2 ≡ slice_index at 0 ∷ slice_index at 1 ∷ []
  pub put : (k : ℕ) → k + 2 < length at → IsPutOver (slice_index at (k + 2)) (cycle (k + 2)) (cycle (suc (k + 2)))

-- The contours of a run are such lists, where `at` has the name of each vertex; each step covers what leaves its list, and its faces are those of the new vertex with each two of its row that follow one another.
pub record IsRunOf (at : List ℕ) (cycle : ℕ → List ℕ) (g : IsGrowing at cycle) (steps : ℕ → Step) : Type 0 where
  pub run : IsRun steps (length at - 2)
  pub contours : (k : ℕ) → k + 2 ≤ length at → cycle (k + 2) ≡ map (slice_index at) (contour (stage_after steps k))
  pub first : (k : ℕ) (l : k + 2 < length at) → (steps k).first ≡ length (g.put k l).front
  pub last : (k : ℕ) (l : k + 2 < length at) → (steps k).last ≡ length (g.put k l).front + length (g.put k l).middle + 1
  pub named : (k : ℕ) (l : k + 2 < length at) (i a b v : ℕ) → IsFaceOf steps k i a b v → IsFaceOver (slice_index at (k + 2)) (cycle (k + 2)) (cycle (suc (k + 2))) (g.put k l) (slice_index at a) (slice_index at b) (slice_index at v)
  pub made : (k : ℕ) (l : k + 2 < length at) (x y z : ℕ) → IsFaceOver (slice_index at (k + 2)) (cycle (k + 2)) (cycle (suc (k + 2))) (g.put k l) x y z → (i : ℕ) × (a : ℕ) × (b : ℕ) × IsFaceOf steps k i a b (k + 2) × (slice_index at a ≡ x) × (slice_index at b ≡ y)

-- Lists that grow so are the contours of a run.
abbrev pub ListsAreRun : Type 0
ListsAreRun = (at : List ℕ) (cycle : ℕ → List ℕ) (g : IsGrowing at cycle) → (steps : ℕ → Step) × IsRunOf at cycle g steps
