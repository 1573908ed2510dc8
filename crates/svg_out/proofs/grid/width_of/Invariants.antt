-- The points before number v are compared.
use Rattle.std.proofs.Common.{◌≡◌, map, take}
use Rattle.svg_out.specs.Svg.{greatest}
use Rattle.svg_out.proofs.grid.width_of.Given as goal

abbrev pub invariant-loop-v : goal.invariant-loop-v
invariant-loop-v l = l.width ≡ greatest (map (λ p. p.x) (take l.v l.points))
