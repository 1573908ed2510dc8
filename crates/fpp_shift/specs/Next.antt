-- The next step of a run, by the nodes before it.
use Rattle.std.specs.Prelude.{ℕ, suc, ◌+◌, ◌*◌, ◌^◌, ◌<◌, ◌≡◌, ◌≢◌, List, length, slice_index, Option, Some, None, ℤ, pos, ◌+ℤ◌}
use Rattle.contour_runs.specs.Runs.{Step, stage_after, IsRun}
use Rattle.fpp_shift.specs.declared.offset_trees.tree_nodes.Node.{Node}
use Rattle.fpp_shift.specs.Nodes.{node_at, right_of}
use Rattle.fpp_shift.specs.Grown.{links_of, IsGrown}
use Rattle.fpp_shift.specs.Writes.{SetsX, SetsRight}

-- The nodes are the tree of n steps of a run, whose vertices have their names in `at`, and the next step puts v over the row of the contour from p to q.
pub record IsNextStep (at : List ℕ) (steps : ℕ → Step) (n : ℕ) (nodes : List Node) (v p q : ℕ) : Type 0 where
  pub run : IsRun steps (suc n)
  pub few : length at < 4096
  pub many : n + 2 < length at
  pub count : length nodes ≡ length at
  pub inside : (k : ℕ) → k < length at → slice_index at k < length nodes
  pub apart : (i j : ℕ) → i < length at → j < length at → slice_index at i ≡ slice_index at j → i ≡ j
  pub grown : IsGrown (slice_index at) steps n (links_of nodes at)
  pub new : slice_index at (n + 2) ≡ v
  pub left : slice_index at ((stage_after steps n).vertex (steps n).first) ≡ p
  pub right : slice_index at ((stage_after steps n).vertex (steps n).last) ≡ q

-- q stands `far` to the right of p before the step, and they are this high: so the new vertex comes dx to the right of p, at the height dy.
pub record IsTop (apart y_p y_q : ℤ) (far p q dx dy : ℕ) : Type 0 where
  pub apart_is : apart ≡ pos far
  pub p_is : y_p ≡ pos p
  pub q_is : y_q ≡ pos q
  pub across : 2 * dx + p ≡ far + 2 + q
  pub high : 2 * dy ≡ far + 2 + p + q
  pub small : far + 2 + p + q < 2 ^ 20

-- what becomes of the nodes between p and q, where `before` is the vertex before q: the first one, f, is told from the new vertex, which stands dx to the right of p, and the last one leads nowhere
abbrev pub CoversFrom : List Node → List Node → ℕ → ℕ → ℤ → Option ℕ → Type 0
CoversFrom nodes nodes' p before dx first =
    (before ≡ p → (nodes' ≡ nodes) × (first ≡ None))
    × (before ≢ p → (f : ℕ) → right_of nodes p ≡ Some f → (first ≡ Some f) × (x : ℤ) × (mid : List Node) × (dx +ℤ x ≡ (node_at nodes f).x +ℤ pos 1) × SetsX nodes mid f x × SetsRight mid nodes' before None)
