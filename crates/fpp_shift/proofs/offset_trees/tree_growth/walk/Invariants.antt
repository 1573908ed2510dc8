-- The vertex at hand is that number of the row, and not yet q.
use Rattle.std.proofs.Common.{◌≡◌, ℕ, ◌+◌, ◌*◌, ◌<◌, ◌≤◌}
use Rattle.fpp_shift.specs.OffsetTreesRows.{IsRow, far}
use Rattle.fpp_shift.proofs.offset_trees.tree_growth.walk.Given as goal

abbrev pub invariant-loop-passed : goal.invariant-loop-passed
invariant-loop-passed g l =
    record {
      here : (row : ℕ → ℕ) (m : ℕ) → IsRow l.tree row m l.p l.q → (l.passed < m) × (l.at ≡ row l.passed) × (l.width ≡ far l.tree row l.passed);
      most : l.steps ≤ l.fn.steps + 2 * l.passed;
      least : l.fn.steps ≤ l.steps;
    }
