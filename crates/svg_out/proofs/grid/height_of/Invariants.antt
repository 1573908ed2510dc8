-- The points before number v are compared.
use Rattle.std.proofs.Common.{◌≡◌, map, take}
use Rattle.svg_out.specs.Svg.{greatest}
use Rattle.svg_out.proofs.grid.height_of.Given as goal

abbrev pub invariant-loop-v : goal.invariant-loop-v
invariant-loop-v l = l.height ≡ greatest (map (λ p. p.y) (take l.v l.points))
