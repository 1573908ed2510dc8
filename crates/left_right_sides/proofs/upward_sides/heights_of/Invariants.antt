use Rattle.std.proofs.Common.{◌≡◌, take}
use Rattle.left_right_sides.specs.Views.{upper_depths}
use Rattle.left_right_sides.proofs.upward_sides.heights_of.Given as goal

abbrev pub invariant-loop-dart : goal.invariant-loop-dart
invariant-loop-dart l = l.heights.items ≡ upper_depths l.depths (take l.dart-index l.darts)
