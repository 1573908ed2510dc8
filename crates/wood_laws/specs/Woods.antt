-- Schnyder's woods (1990) of triangulations.
use Rattle.std.specs.Prelude.{ℕ, zero, suc, ◌-◌, ◌<◌, ◌≡◌, ◌≢◌, List, length, slice_index}
use Rattle.map_lists.specs.Lists.{Lists}
use Rattle.map_theory.specs.Maps.{Dart, HasDart, follows}
use Rattle.plane_laws.specs.Triangulations.{IsTriangulation}
use Rattle.canon_order.specs.Orders.{IsCanonicalOrder}
use Rattle.contour_runs.specs.Runs.{Step}
use Rattle.order_drawings.specs.OrderRuns.{IsOrderRun}
use Rattle.wood_runs.specs.Parents.{Colour, one, two, three, IsParent, End, out, into, MayFollow}

-- The outer face is that of the base, which goes from root two to root one.
abbrev pub root : Lists → Dart → Colour → ℕ
root lists base one = base.1
root lists base two = base.0
root lists base three = follows lists base.1 base.0

-- a vertex that is not a root
abbrev pub IsInner : Lists → Dart → ℕ → Type 0
IsInner lists base v = (v < length lists) × ((c : Colour) → v ≢ root lists base c)

-- a number of steps to the parent, each from an inner vertex, lead from v to w
abbrev pub LeadsBy : Lists → Dart → (ℕ → ℕ) → ℕ → ℕ → ℕ → Type 0
LeadsBy lists base up zero v w = v ≡ w
LeadsBy lists base up (suc d) v w = IsInner lists base v × LeadsBy lists base up d (up v) w

-- The edge from v to u goes out to v's parent of a colour, or comes in from an inner vertex of which v is that.
abbrev pub IsEndAt : Lists → Dart → (Colour → ℕ → ℕ) → End → ℕ → ℕ → Type 0
IsEndAt lists base parent (out c) v u = parent c v ≡ u
IsEndAt lists base parent (into c) v u = IsInner lists base u × (parent c u ≡ v)

-- The entry u of v's list, and the one after it, which comes before it counterclockwise, stand to v as the order of a wood has it.
pub record IsInOrder (lists : Lists) (base : Dart) (parent : Colour → ℕ → ℕ) (v u : ℕ) : Type 0 where
  pub first : End
  pub second : End
  pub after : IsEndAt lists base parent first v (follows lists v u)
  pub entry : IsEndAt lists base parent second v u
  pub follow : MayFollow first second

-- Each inner vertex has three parents, one for each colour, by different edges; one that is a root is the root of its colour; parents of one colour never lead back to a vertex; and counterclockwise round each inner vertex stand out one, in three, out two, in one, out three, in two.
pub record IsWood (lists : Lists) (base : Dart) (parent : Colour → ℕ → ℕ) : Type 0 where
  pub edges : (c : Colour) (v : ℕ) → IsInner lists base v → HasDart lists v (parent c v)
  pub apart : (c d : Colour) (v : ℕ) → c ≢ d → IsInner lists base v → parent c v ≢ parent d v
  pub own_root : (c d : Colour) (v : ℕ) → IsInner lists base v → parent c v ≡ root lists base d → c ≡ d
  pub away : (c : Colour) (d v : ℕ) → ¬ LeadsBy lists base (parent c) (suc d) v v
  pub order : (v u : ℕ) → IsInner lists base v → HasDart lists v u → IsInOrder lists base parent v u

-- the parents of each vertex but the roots are those of a run, with each vertex named by its entry in `at`
abbrev pub AreParentsOf : List ℕ → (ℕ → Step) → (Colour → ℕ → ℕ) → Type 0
AreParentsOf at steps parent = (c : Colour) (v w : ℕ) → suc v < length at → IsParent c steps (length at - 2) v w → parent c (slice_index at v) ≡ slice_index at w

-- The parents of the run of a canonical order are a wood.
abbrev pub WoodOfOrder : Type 0
WoodOfOrder =
    (lists : Lists) (base : Dart) (at : List ℕ) (steps : ℕ → Step) (parent : Colour → ℕ → ℕ) → IsTriangulation lists → (order : IsCanonicalOrder lists base at) → IsOrderRun lists base at order.cycle steps → AreParentsOf at steps parent → IsWood lists base parent
