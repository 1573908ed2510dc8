-- The wood of a run of a map.
use Rattle.std.specs.Prelude.{ℕ, ◌<◌, ◌≡◌, ◌≢◌, length}
use Rattle.map_lists.specs.Lists.{Lists}
use Rattle.map_theory.specs.Maps.{HasDart}
use Rattle.contour_runs.specs.Wood.{Coordinates}
use Rattle.contour_runs.specs.FaceRuns.{Step}
use Rattle.convex_counts.specs.Counts.{face_counts}
use Rattle.convex_counts.specs.Turns.{well_turned}
use Rattle.convex_laws.specs.RunsOfMaps.{IsRunOf}
use Rattle.convex_laws.specs.Rows.{AreRanked}
use Rattle.convex_counts.specs.declared.face_woods.axis.Axis.{Axis}
use Rattle.convex_counts.specs.Rising.{IsRising}
use Rattle.convex_laws.specs.ConvexWoods.{AreRoots, IsConvexWood}

-- A run of a map from the base (s, d), in which each rank stands for a vertex.
pub record IsNamedRun (lists : Lists) (s d : ℕ) (steps : ℕ → Step) (n : ℕ) (rank : ℕ → ℕ) (face : ℕ → ℕ → ℕ) (at : ℕ → ℕ) : Type 0 where
  pub run : IsRunOf lists s d steps n rank face
  pub ranked : AreRanked steps n (length lists) at
  pub named : (v : ℕ) → v < length lists → at (rank v) ≡ v

-- From each vertex but the root of an axis some edge leads along that axis.
abbrev pub SomeOut : Type 0
SomeOut =
    (lists : Lists) (s d : ℕ) (steps : ℕ → Step) (n : ℕ) (rank : ℕ → ℕ) (face : ℕ → ℕ → ℕ) (at : ℕ → ℕ) (root : Axis → ℕ) (c : Axis) (v : ℕ) → IsNamedRun lists s d steps n rank face at → AreRoots lists (s, d) root → v < length lists → v ≢ root c
    → (u : ℕ) × HasDart lists v u × IsRising (face_counts (well_turned steps) n) c (rank v) (rank u)

-- The edge of an axis that a vertex is given leads along that axis.
abbrev pub AreRisingOut : Lists → Coordinates → (ℕ → ℕ) → (Axis → ℕ) → (Axis → ℕ → ℕ) → Type 0
AreRisingOut lists counts rank root out = (c : Axis) (v : ℕ) → v < length lists → v ≢ root c → HasDart lists v (out c v) × IsRising counts c (rank v) (rank (out c v))

-- Edges that lead so along their axes are a convex wood.
abbrev pub WoodOfRun : Type 0
WoodOfRun =
    (lists : Lists) (s d : ℕ) (steps : ℕ → Step) (n : ℕ) (rank : ℕ → ℕ) (face : ℕ → ℕ → ℕ) (at : ℕ → ℕ) (root : Axis → ℕ) (out : Axis → ℕ → ℕ) → IsNamedRun lists s d steps n rank face at → AreRoots lists (s, d) root
    → AreRisingOut lists (face_counts (well_turned steps) n) rank root out → IsConvexWood lists (s, d) root out
