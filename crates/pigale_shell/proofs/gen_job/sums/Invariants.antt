-- The points before i are added up.
use Rattle.std.proofs.Common.{◌≡◌, ◌*◌, take, pos}
use Rattle.std.specs.Prelude.{neg_ℤ, ◌≤ℤ◌}
use Rattle.pigale_shell.specs.Made.{total_x, total_y}
use Rattle.pigale_shell.proofs.gen_job.sums.Given as goal

abbrev pub invariant-loop-i : goal.invariant-loop-i
invariant-loop-i l =
    record {
      x_is : l.x ≡ total_x (take l.i l.points);
      y_is : l.y ≡ total_y (take l.i l.points);
      x_least : neg_ℤ (pos (2147483648 * l.i)) ≤ℤ l.x;
      x_most : l.x ≤ℤ pos (2147483648 * l.i);
      y_least : neg_ℤ (pos (2147483648 * l.i)) ≤ℤ l.y;
      y_most : l.y ≤ℤ pos (2147483648 * l.i);
    }
