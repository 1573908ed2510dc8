-- The verdict on a drawing: the first kind of fault that it has, with the least ids where it has one.
use Rattle.std.specs.Prelude.{ℕ, List, ℤ}
use Rattle.map_lists.specs.Lists.{Lists}
use Rattle.pg_plane.specs.declared.grid_points.Point.{Point}
use Rattle.plane_drawings.specs.Drawing.{KeepsRotations}
use Rattle.drawings.specs.Valid.{AllInGrid}
use Rattle.vertex_rounds.specs.Least.{IsLeast, IsLeastPair, IsLeastTriple, IsLeastFour}
use Rattle.draw_check.specs.Faults.{LeavesGrid, ShareAPlace, LiesOnEdge, EdgesCross, IsTurned}
use Rattle.draw_check.specs.declared.verdict.Verdict.{Verdict}
use Rattle.draw_check.specs.declared.verdict.Verdict.TheVariants.{OutOfGrid, SamePlace, OnEdge, Cross, Turned, Yes}

-- no two vertices stand at one place
abbrev pub NoneShareAPlace : Lists → List Point → Type 0
NoneShareAPlace lists points = (u v : ℕ) → ¬ ShareAPlace lists points u v

-- no vertex lies on an edge of which it is no end
abbrev pub NoneOnEdge : Lists → List Point → Type 0
NoneOnEdge lists points = (v a b : ℕ) → ¬ LiesOnEdge lists points v a b

-- no two edges cross
abbrev pub NoneCross : Lists → List Point → Type 0
NoneCross lists points = (a b c d : ℕ) → ¬ EdgesCross lists points a b c d

-- The verdict is the first fault of the drawing in the order below, with the least vertices, where none before it is found.
abbrev pub IsVerdict : Lists → List Point → ℤ → ℤ → Verdict → Type 0
IsVerdict lists points width height (OutOfGrid v) = IsLeast (LeavesGrid lists points width height) v.0
IsVerdict lists points width height (SamePlace u v) =
    AllInGrid lists points width height × IsLeastPair (ShareAPlace lists points) u.0 v.0
IsVerdict lists points width height (OnEdge v e) =
    AllInGrid lists points width height × NoneShareAPlace lists points × IsLeastTriple (LiesOnEdge lists points) v.0 e.a.0 e.b.0
IsVerdict lists points width height (Cross e f) =
    AllInGrid lists points width height × NoneShareAPlace lists points × NoneOnEdge lists points × IsLeastFour (EdgesCross lists points) e.a.0 e.b.0 f.a.0 f.b.0
IsVerdict lists points width height (Turned v) =
    AllInGrid lists points width height × NoneShareAPlace lists points × NoneOnEdge lists points × NoneCross lists points × IsLeast (IsTurned lists points) v.0
IsVerdict lists points width height Yes =
    AllInGrid lists points width height × NoneShareAPlace lists points × NoneOnEdge lists points × NoneCross lists points × KeepsRotations lists points

-- The verdict is the first fault of the drawing of the edges alone, wherever the points stand and in whatever order the lists are.
abbrev pub IsPlaneVerdict : Lists → List Point → Verdict → Type 0
IsPlaneVerdict lists points (OutOfGrid v) = ⊥
IsPlaneVerdict lists points (SamePlace u v) = IsLeastPair (ShareAPlace lists points) u.0 v.0
IsPlaneVerdict lists points (OnEdge v e) =
    NoneShareAPlace lists points × IsLeastTriple (LiesOnEdge lists points) v.0 e.a.0 e.b.0
IsPlaneVerdict lists points (Cross e f) =
    NoneShareAPlace lists points × NoneOnEdge lists points × IsLeastFour (EdgesCross lists points) e.a.0 e.b.0 f.a.0 f.b.0
IsPlaneVerdict lists points (Turned v) = ⊥
IsPlaneVerdict lists points Yes = NoneShareAPlace lists points × NoneOnEdge lists points × NoneCross lists points
