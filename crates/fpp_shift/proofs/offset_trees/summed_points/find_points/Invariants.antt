-- The links of the vertices at the places before i are gone along.
use Rattle.std.proofs.Common.{◌≡◌, ◌+◌, ◌*◌, ◌≤◌, length, take}
use Rattle.fpp_shift.specs.Sums.{AreMet}
use Rattle.fpp_shift.proofs.offset_trees.summed_points.find_points.Given as goal

abbrev pub invariant-loop-i : goal.invariant-loop-i
invariant-loop-i g l =
    record {
      met : AreMet l.tree l.fn.root.0 (take l.filled l.met) l.points (2 * l.i);
      within : l.filled ≤ length l.tree;
      met_count : length l.met ≡ length l.tree;
      points_count : length l.points ≡ length l.tree;
      most : l.steps ≤ l.fn.steps + 1 + 3 * l.i;
      least : l.fn.steps ≤ l.steps;
    }
