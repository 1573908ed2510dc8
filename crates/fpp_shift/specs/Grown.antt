-- The tree of offsets of the shift method, as it grows along a run, and as it is in the end.
use Rattle.std.specs.Prelude.{ℕ, suc, ◌+◌, ◌<◌, ◌≡◌, ◌≢◌, nat_lt, if◌then◌else◌, List, slice_index, Option, Some, None, ℤ, pos, ◌+ℤ◌}
use Rattle.contour_runs.specs.Runs.{Step, Stage, stage_after}
use Rattle.fpp_shift.specs.Shift.{Places, shift_points, top_y, x_after}
use Rattle.fpp_shift.specs.declared.offset_trees.tree_nodes.Node.{Node}
use Rattle.fpp_shift.specs.Nodes.{node_at, left_of, right_of}

-- What the nodes of the vertices of a run say, each by its rank; links lead to vertices by their names.
pub record Links : Type 0 where
  pub x : ℕ → ℤ
  pub y : ℕ → ℤ
  pub left : ℕ → Option ℕ
  pub right : ℕ → Option ℕ

-- the nodes of vertices, by the vertex of each rank
abbrev pub links_of : List Node → List ℕ → Links
links_of nodes at = record {
  x = λ k. (node_at nodes (slice_index at k)).x;
  y = λ k. (node_at nodes (slice_index at k)).y;
  left = λ k. left_of nodes (slice_index at k);
  right = λ k. right_of nodes (slice_index at k);
}

-- the offset of u says how far it stands to the right of z
abbrev pub IsFrom : Links → Places → ℕ → ℕ → Type 0
IsFrom t points z u = pos (points.x z) +ℤ t.x u ≡ pos (points.x u)

-- the left link of the vertex of a step: to the first one that it covers, if it covers any
abbrev pub first_covered : (ℕ → ℕ) → Stage → Step → Option ℕ
first_covered name g s = if nat_lt (suc s.first) s.last then Some (name (g.vertex (suc s.first))) else None

-- the right link of one that is covered, from place i: to the next one covered, if there is any
abbrev pub next_covered : (ℕ → ℕ) → Stage → Step → ℕ → Option ℕ
next_covered name g s i = if nat_lt (suc i) s.last then Some (name (g.vertex (suc i))) else None

-- The links of the vertices that came by n steps: from the vertex of each step to the first one that it covers, and on from each one covered to the next. The offset of a covered vertex is from the vertex whose link leads to it; the heights are those of the shift points.
pub record AreCovered (name : ℕ → ℕ) (steps : ℕ → Step) (n : ℕ) (t : Links) : Type 0 where
  pub base_left : (t.left 0 ≡ None) × (t.left 1 ≡ None)
  pub left : (k : ℕ) → k < n → t.left (k + 2) ≡ first_covered name (stage_after steps k) (steps k)
  pub right : (k i : ℕ) → k < n → (steps k).first < i → i < (steps k).last → t.right ((stage_after steps k).vertex i) ≡ next_covered name (stage_after steps k) (steps k) i
  pub first : (k : ℕ) → k < n → suc (steps k).first < (steps k).last → IsFrom t (shift_points steps n) (k + 2) ((stage_after steps k).vertex (suc (steps k).first))
  pub next : (k i : ℕ) → k < n → (steps k).first < i → suc i < (steps k).last → IsFrom t (shift_points steps n) ((stage_after steps k).vertex i) ((stage_after steps k).vertex (suc i))
  pub heights : (k : ℕ) → k < n + 2 → t.y k ≡ pos ((shift_points steps n).y k)
  pub root : t.x 0 ≡ pos 0

-- Along the contour after n steps right links lead on, and each offset is from the vertex before.
pub record IsGrown (name : ℕ → ℕ) (steps : ℕ → Step) (n : ℕ) (t : Links) : Type 0 where
  pub covered : AreCovered name steps n t
  pub along : (i : ℕ) → suc i < (stage_after steps n).width → t.right ((stage_after steps n).vertex i) ≡ Some (name ((stage_after steps n).vertex (suc i)))
  pub end : t.right 1 ≡ None
  pub gaps : (i : ℕ) → suc i < (stage_after steps n).width → IsFrom t (shift_points steps n) ((stage_after steps n).vertex i) ((stage_after steps n).vertex (suc i))

-- The tree of offsets of a run of n steps, the last of which covers all but the base: the right link of the first vertex is the last one, and the right link of the last is the second.
pub record IsOffsetTree (name : ℕ → ℕ) (steps : ℕ → Step) (n : ℕ) (t : Links) : Type 0 where
  pub covered : AreCovered name steps n t
  pub first_right : t.right 0 ≡ Some (name (n + 1))
  pub last_right : t.right (n + 1) ≡ Some (name 1)
  pub second_right : t.right 1 ≡ None
  pub last_offset : IsFrom t (shift_points steps n) 0 (n + 1)
  pub second_offset : IsFrom t (shift_points steps n) (n + 1) 1

-- What a step writes: the node of the new vertex, v; the right link of p and the offset of q; the offset of the first vertex that it covers, and the right link of the last one. All else that the nodes of older vertices said stays.
pub record IsWritten (name : ℕ → ℕ) (g : Stage) (s : Step) (at : Places) (t t' : Links) : Type 0 where
  pub new_x : pos (at.x (g.vertex s.first)) +ℤ t'.x g.count ≡ pos (x_after g s at g.count)
  pub new_y : t'.y g.count ≡ pos (top_y at (g.vertex s.first) (g.vertex s.last))
  pub new_left : t'.left g.count ≡ first_covered name g s
  pub new_right : t'.right g.count ≡ Some (name (g.vertex s.last))
  pub p_right : t'.right (g.vertex s.first) ≡ Some (name g.count)
  pub q_x : pos (x_after g s at g.count) +ℤ t'.x (g.vertex s.last) ≡ pos (x_after g s at (g.vertex s.last))
  pub first_x : suc s.first < s.last → pos (x_after g s at g.count) +ℤ t'.x (g.vertex (suc s.first)) ≡ pos (x_after g s at (g.vertex (suc s.first)))
  pub last_right : (i : ℕ) → s.first < i → suc i ≡ s.last → t'.right (g.vertex i) ≡ None
  pub xs : (u : ℕ) → u < g.count → u ≢ g.vertex s.last → u ≢ g.vertex (suc s.first) → t'.x u ≡ t.x u
  pub ys : (u : ℕ) → u < g.count → t'.y u ≡ t.y u
  pub lefts : (u : ℕ) → u < g.count → t'.left u ≡ t.left u
  pub rights : (u : ℕ) → u < g.count → u ≢ g.vertex s.first → ((i : ℕ) → s.first < i → suc i ≡ s.last → u ≢ g.vertex i) → t'.right u ≡ t.right u
