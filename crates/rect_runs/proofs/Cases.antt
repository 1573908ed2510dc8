-- Labels and numbers of two runs: of one vertex within a quadrangle, and of five, by which numbers of both axes make room.
use Rattle.std.specs.Prelude.{ℕ, zero, suc, ◌<◌, ◌≡◌, true, false, [], ◌∷◌, map, refl}
use Rattle.std.specs.List.{range_with_len}
use Rattle.std.proofs.Common.{arith}
use Rattle.contour_runs.specs.Runs.{Step, vertex_after, IsRun}
use Rattle.contour_runs.proofs.Cases.{over, listed}
use Rattle.rect_runs.specs.Labels.{labels_after, labels, IsSorted, IsLabelledRun}
use Rattle.rect_runs.specs.Numbers.{shifted, with_new, x_after, y_after, numbers, turn_of, rise_turns, run_turns}

-- the inner vertex, the right one, and the top
abbrev pub wheel : ℕ → Step
wheel = listed (over 0 1 ∷ over 1 2 ∷ over 0 2 ∷ [])

wheel_labels : map (labels wheel 2) (range_with_len 0 3) ≡ true ∷ true ∷ false ∷ []
unfolding labels_after
wheel_labels = refl

wheel_turns : map (turn_of wheel) (range_with_len 0 3) ≡ 0 ∷ 1 ∷ 0 ∷ []
unfolding labels_after
wheel_turns = refl

wheel_x : map (numbers wheel 2).x (range_with_len 0 4) ≡ 0 ∷ 0 ∷ 1 ∷ 2 ∷ []
unfolding labels_after vertex_after shifted with_new x_after y_after
wheel_x = refl

wheel_y : map (numbers wheel 2).y (range_with_len 0 4) ≡ 1 ∷ 0 ∷ 1 ∷ 1 ∷ []
unfolding labels_after vertex_after shifted with_new x_after y_after
wheel_y = refl

wheel_steps : IsRun wheel 3
unfolding vertex_after
wheel_steps x0 l = grind arith

wheel_sorted : (k : ℕ) → k < 3 → IsSorted (labels wheel k) (wheel k)
unfolding labels_after
wheel_sorted x0 l x2 a b e = grind arith

pub wheel_run : IsLabelledRun wheel 3
wheel_run = record { run = wheel_steps; sorted = wheel_sorted }

-- five inner vertices
abbrev pub five : ℕ → Step
five = listed (over 0 1 ∷ over 0 1 ∷ over 2 3 ∷ over 1 2 ∷ over 2 4 ∷ over 3 5 ∷ over 0 4 ∷ [])

five_labels : map (labels five 6) (range_with_len 0 5) ≡ true ∷ true ∷ true ∷ true ∷ false ∷ []
unfolding labels_after
five_labels = refl

five_turns : map (turn_of five) (range_with_len 0 7) ≡ 0 ∷ 0 ∷ 2 ∷ 1 ∷ 3 ∷ 4 ∷ 0 ∷ []
unfolding labels_after
five_turns = refl

-- the fourth vertex put on makes room to the right, the fifth above
five_x : map (numbers five 6).x (range_with_len 0 8) ≡ 0 ∷ 0 ∷ 1 ∷ 1 ∷ 3 ∷ 2 ∷ 3 ∷ 4 ∷ []
unfolding labels_after vertex_after shifted with_new x_after y_after
five_x = refl

five_y : map (numbers five 6).y (range_with_len 0 8) ≡ 1 ∷ 0 ∷ 1 ∷ 3 ∷ 1 ∷ 3 ∷ 2 ∷ 1 ∷ []
unfolding labels_after vertex_after shifted with_new x_after y_after
five_y = refl

five_rises : rise_turns five 6 ≡ 4
unfolding labels_after
five_rises = refl

five_runs : run_turns five 6 ≡ 2
unfolding labels_after
five_runs = refl
