-- A box for each vertex of a run, whose left and lower sides are its numbers, and one over all for the vertex put on last.
use Rattle.std.specs.Prelude.{ℕ, zero, suc, ◌+◌, ◌≡◌, ◌≤◌, ◌==◌, ◌&&◌, nat_lt, nat_le, if◌then◌else◌, Bool}
use Rattle.contour_runs.specs.Runs.{Step, Stage, stage_after}
use Rattle.rect_runs.specs.Labels.{IsLabelledRun}
use Rattle.rect_runs.specs.Numbers.{with_new, numbers, turn_of, rise_turns, run_turns}

-- the four sides of each box
pub record Boxes : Type 0 where
  pub left : ℕ → ℕ
  pub right : ℕ → ℕ
  pub low : ℕ → ℕ
  pub high : ℕ → ℕ

-- v stands on the contour, at a place from i up to j
unfoldable pub stands_between : Stage → ℕ → ℕ → ℕ → Bool
stands_between g i j v = nat_lt v g.count && (g.vertex (g.place v) == v && (nat_le i (g.place v) && nat_le (g.place v) j))

-- what stands at places from i up to j gets a side
unfoldable pub side_after : Stage → ℕ → ℕ → ℕ → (ℕ → ℕ) → ℕ → ℕ
side_after g i j side old v = if stands_between g i j v then side else old v

-- A vertex ends on the right where its latest neighbour there begins, or at the end of the grid.
abbrev pub rights : (ℕ → Step) → (ℕ → ℕ) → ℕ → ℕ → ℕ → ℕ
rights steps x end zero = λ v. end
rights steps x end (suc k) = side_after (stage_after steps k) (steps k).first (turn_of steps k) (x (k + 2)) (rights steps x end k)

-- It ends above where its latest upper neighbour begins, or under the last vertex.
abbrev pub highs : (ℕ → Step) → (ℕ → ℕ) → ℕ → ℕ → ℕ → ℕ
highs steps y end zero = λ v. end
highs steps y end (suc k) = side_after (stage_after steps k) (suc (turn_of steps k)) (steps k).last (y (k + 2)) (highs steps y end k)

-- the grid: how wide it is, and how high up to the last vertex
abbrev pub grid_width : (ℕ → Step) → ℕ → ℕ
grid_width steps n = suc (rise_turns steps n)

abbrev pub ceiling : (ℕ → Step) → ℕ → ℕ
ceiling steps n = run_turns steps n + 2

abbrev pub grid_height : (ℕ → Step) → ℕ → ℕ
grid_height steps n = suc (ceiling steps n)

-- the boxes of the vertices that n steps put on, and of the base
abbrev pub lower_boxes : (ℕ → Step) → ℕ → Boxes
lower_boxes steps n = record {
  left = (numbers steps n).x;
  right = rights steps (numbers steps n).x (grid_width steps n) n;
  low = (numbers steps n).y;
  high = highs steps (numbers steps n).y (ceiling steps n) n;
}

-- those, and over them the last vertex, as wide as the grid
abbrev pub boxes : (ℕ → Step) → ℕ → Boxes
boxes steps n = record {
  left = with_new (n + 2) (lower_boxes steps n).left 0;
  right = with_new (n + 2) (lower_boxes steps n).right (grid_width steps n);
  low = with_new (n + 2) (lower_boxes steps n).low (ceiling steps n);
  high = with_new (n + 2) (lower_boxes steps n).high (grid_height steps n);
}

-- A run of n + 1 steps, each labelled: the last but one comes over the second vertex of the base, and the last over all but that.
pub record IsRectRun (steps : ℕ → Step) (n : ℕ) : Type 0 where
  pub labelled : IsLabelledRun steps (suc n)
  pub some : 2 ≤ n
  pub right : (k : ℕ) → suc k ≡ n → suc (steps k).last ≡ (stage_after steps k).width
  pub top_first : (steps n).first ≡ 0
  pub top_last : suc (suc (steps n).last) ≡ (stage_after steps n).width
