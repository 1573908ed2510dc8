-- The boxes of two runs: of one vertex within a quadrangle, and of five.
use Rattle.std.specs.Prelude.{ℕ, zero, suc, ◌≡◌, List, [], ◌∷◌, map, refl}
use Rattle.std.specs.List.{range_with_len}
use Rattle.std.proofs.Common.{arith}
use Rattle.contour_runs.specs.Runs.{Step, vertex_after, place_after, moved, stage_after}
use Rattle.rect_runs.specs.Labels.{labels_after}
use Rattle.rect_runs.specs.Numbers.{shifted, with_new, x_after, y_after}
use Rattle.rect_runs.proofs.Cases.{wheel, wheel_run, five}
use Rattle.rect_runs.specs.Boxes.{stands_between, side_after, boxes, grid_width, grid_height, IsRectRun}
use Rattle.rect_runs.specs.RectBoxesLaws.{IsBeside, area_of}

-- left, right, lower and upper sides of the first m boxes
abbrev sides : (ℕ → Step) → ℕ → ℕ → List (List ℕ)
sides steps n m = map (boxes steps n).left (range_with_len 0 m) ∷ map (boxes steps n).right (range_with_len 0 m) ∷ map (boxes steps n).low (range_with_len 0 m) ∷ map (boxes steps n).high (range_with_len 0 m) ∷ []

wheel_sides : sides wheel 2 5 ≡ (0 ∷ 0 ∷ 1 ∷ 2 ∷ 0 ∷ []) ∷ (1 ∷ 3 ∷ 2 ∷ 3 ∷ 3 ∷ []) ∷ (1 ∷ 0 ∷ 1 ∷ 1 ∷ 2 ∷ []) ∷ (2 ∷ 1 ∷ 2 ∷ 2 ∷ 3 ∷ []) ∷ []
unfolding labels_after vertex_after place_after moved shifted with_new x_after y_after stands_between side_after
wheel_sides = refl

wheel_grid : (grid_width wheel 2 ≡ 3) × (grid_height wheel 2 ≡ 3)
unfolding labels_after
wheel_grid = (refl, refl)

wheel_area : area_of (boxes wheel 2) 5 ≡ 9
unfolding labels_after vertex_after place_after moved shifted with_new x_after y_after stands_between side_after
wheel_area = refl

wheel_right : (k : ℕ) → suc k ≡ 2 → suc (wheel k).last ≡ (stage_after wheel k).width
wheel_right zero e = absurd (omega arith)
wheel_right (suc zero) e = refl
wheel_right (suc (suc k)) e = absurd (omega arith)

wheel_rect : IsRectRun wheel 2
wheel_rect = record { labelled = wheel_run; some = omega arith; right = wheel_right; top_first = refl; top_last = refl }

-- the inner vertex is beside the first
wheel_beside : IsBeside (boxes wheel 2) 0 2
unfolding labels_after vertex_after place_after moved shifted with_new x_after y_after stands_between side_after
wheel_beside = record { line = refl; first = omega arith; second = omega arith }

five_sides : sides five 6 9 ≡ (0 ∷ 0 ∷ 1 ∷ 1 ∷ 3 ∷ 2 ∷ 3 ∷ 4 ∷ 0 ∷ []) ∷ (1 ∷ 5 ∷ 3 ∷ 2 ∷ 4 ∷ 3 ∷ 4 ∷ 5 ∷ 5 ∷ []) ∷ (1 ∷ 0 ∷ 1 ∷ 3 ∷ 1 ∷ 3 ∷ 2 ∷ 1 ∷ 4 ∷ []) ∷ (4 ∷ 1 ∷ 3 ∷ 4 ∷ 2 ∷ 4 ∷ 4 ∷ 4 ∷ 5 ∷ []) ∷ []
unfolding labels_after vertex_after place_after moved shifted with_new x_after y_after stands_between side_after
five_sides = refl

five_area : area_of (boxes five 6) 9 ≡ 25
unfolding labels_after vertex_after place_after moved shifted with_new x_after y_after stands_between side_after
five_area = refl
