-- Numbers of the left and the lower sides of boxes, one box for each vertex of a run.
use Rattle.std.specs.Prelude.{ℕ, zero, suc, ◌+◌, ◌-◌, ◌==◌, nat_lt, if◌then◌else◌, Bool}
use Rattle.contour_runs.specs.Runs.{Step, Stage, stage_after}
use Rattle.rect_runs.specs.Labels.{labels, turn}

-- one more than the greatest of f at the first k numbers
abbrev pub past : (ℕ → ℕ) → ℕ → ℕ
past f zero = 0
past f (suc k) = if nat_lt (f k) (past f k) then past f k else suc (f k)

-- numbers from `least` on go up by one
unfoldable pub shifted : ℕ → ℕ → ℕ
shifted least a = if nat_lt a least then a else suc a

-- f for the first `count` vertices, `new` for the next
unfoldable pub with_new : ℕ → (ℕ → ℕ) → ℕ → ℕ → ℕ
with_new count f new v = if nat_lt v count then f v else new

-- the x of the left side and the y of the lower side of the box of each vertex
pub record Numbers : Type 0 where
  pub x : ℕ → ℕ
  pub y : ℕ → ℕ

-- The x of a line of its own: one more than the greatest x at the places up to the one after the turn c.
abbrev pub new_x : Stage → ℕ → (ℕ → ℕ) → ℕ
new_x g c x = past (λ j. x (g.vertex j)) (suc (suc c))

-- The y of a line of its own: one more than the greatest y at the places from the turn c on.
abbrev pub new_y : Stage → ℕ → (ℕ → ℕ) → ℕ
new_y g c y = past (λ j. y (g.vertex (c + j))) (g.width - c)

-- Numbers after a step. Where the turn is a run the new vertex has the x of the vertex behind the turn and a y of its own; where it is a rise, an x of its own and the y of the vertex at the turn. For a line of its own those from there on make room.
unfoldable pub x_after : Stage → ℕ → Bool → (ℕ → ℕ) → ℕ → ℕ
x_after g c run x = if run then with_new g.count x (x (g.vertex (suc c))) else with_new g.count (λ v. shifted (new_x g c x) (x v)) (new_x g c x)

unfoldable pub y_after : Stage → ℕ → Bool → (ℕ → ℕ) → ℕ → ℕ
y_after g c run y = if run then with_new g.count (λ v. shifted (new_y g c y) (y v)) (new_y g c y) else with_new g.count y (y (g.vertex c))

abbrev pub numbers_after : Stage → ℕ → Bool → Numbers → Numbers
numbers_after g c run at = record { x = x_after g c run at.x; y = y_after g c run at.y }

-- of the base: the first vertex stands on the second
abbrev pub base_numbers : Numbers
base_numbers = record { x = λ v. 0; y = λ v. if v == 0 then 1 else 0 }

-- the turn of step k, and whether it is a run
abbrev pub turn_of : (ℕ → Step) → ℕ → ℕ
turn_of steps k = turn (labels steps k) (steps k)

abbrev pub turns_at_run : (ℕ → Step) → ℕ → Bool
turns_at_run steps k = labels steps k (turn_of steps k)

-- the numbers after the first k steps
abbrev pub numbers : (ℕ → Step) → ℕ → Numbers
numbers steps zero = base_numbers
numbers steps (suc k) = numbers_after (stage_after steps k) (turn_of steps k) (turns_at_run steps k) (numbers steps k)

-- how many of the first steps turn at a rise, and how many at a run
abbrev pub rise_turns : (ℕ → Step) → ℕ → ℕ
rise_turns steps zero = 0
rise_turns steps (suc k) = if turns_at_run steps k then rise_turns steps k else suc (rise_turns steps k)

abbrev pub run_turns : (ℕ → Step) → ℕ → ℕ
run_turns steps zero = 0
run_turns steps (suc k) = if turns_at_run steps k then suc (run_turns steps k) else run_turns steps k
