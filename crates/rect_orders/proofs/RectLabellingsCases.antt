-- A worked case: the wheel of four spokes, with the vertices 0 to 3 of the frame and 4 inside.
use Rattle.std.proofs.Common.{ℕ, zero, suc, [], ◌∷◌, map, refl, arith}
use Rattle.rect_runs.specs.Corners.{End, run_in, rise_out, run_out, rise_in}
use Rattle.rect_runs.specs.Rounds.{IsOnceRound}

-- how the spokes stand at 4: the run from 0 enters, the rise to 1 leaves, the run to 2 leaves, the rise from 3 enters
abbrev spokes : ℕ → End
spokes zero = run_in
spokes (suc zero) = rise_out
spokes (suc (suc zero)) = run_out
spokes _ = rise_in

pub wheel_centre : IsOnceRound (map spokes (0 ∷ 1 ∷ 2 ∷ 3 ∷ []))
wheel_centre = record { start = 1; within = omega arith; rises_out = 0; runs_out = 0; rises_in = 0; runs_in = 0; order = refl }
