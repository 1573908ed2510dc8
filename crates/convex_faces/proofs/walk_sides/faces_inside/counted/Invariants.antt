use Rattle.std.proofs.Common.{◌≡◌, ◌≤◌}
use Rattle.classes.specs.Classes.{count_below}
use Rattle.convex_faces.specs.Search.{is_counted}
use Rattle.convex_faces.proofs.walk_sides.faces_inside.counted.Given as goal

abbrev pub invariant-loop-f : goal.invariant-loop-f
invariant-loop-f l = record {
  count : l.count ≡ count_below (is_counted l.faces l.met l.outer.0) l.f;
  few : l.count ≤ l.f;
}
