-- The numbers of the faces that a run makes.
use Rattle.std.proofs.Common.{ℕ, suc, ◌+◌, ◌<◌, ◌≤◌, arith}
use Rattle.contour_runs.proofs.Upward.{upward}
use Rattle.contour_runs.specs.FaceRuns.{Step, faces_made}

pub made-le : (steps : ℕ → Step) (k n : ℕ) → k ≤ n → faces_made steps k ≤ faces_made steps n
made-le steps k n l = upward (λ z. faces_made steps k ≤ faces_made steps z) k n l (omega arith) (λ z a b c. omega arith)

-- each is below the number of all
pub made-less : (steps : ℕ → Step) (n k i : ℕ) → k < n → i < (steps k).faces → faces_made steps k + i < faces_made steps n
made-less steps n k i l m = let up = made-le steps (suc k) n l in omega arith
