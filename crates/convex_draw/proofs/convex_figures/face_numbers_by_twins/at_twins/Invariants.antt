use Rattle.std.proofs.Common.{◌≡◌, map, take, get_or}
use Rattle.convex_draw.proofs.convex_figures.face_numbers_by_twins.at_twins.Given as goal

abbrev pub invariant-loop-t : goal.invariant-loop-t
invariant-loop-t l = l.made.items ≡ map (λ t. get_or l.of t 0) (take l.t-index l.twins)
