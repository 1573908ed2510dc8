use Rattle.std.proofs.Common.{◌≡◌, take}
use Rattle.pigale_c.specs.Arrays.{points_in}
use Rattle.pigale_c.proofs.map_arrays.put_points.Given as goal

abbrev pub invariant-loop-k : goal.invariant-loop-k
invariant-loop-k l = points_in (take l.k l.x) (take l.k l.y) ≡ take l.k l.points
