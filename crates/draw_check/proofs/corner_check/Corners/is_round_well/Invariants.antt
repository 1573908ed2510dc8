use Rattle.std.proofs.Common.{ℕ, ◌<◌, ◌-◌, false, get_or}
use Rattle.map_theory.specs.Maps.{list_of}
use Rattle.draw_check.specs.Corners.{IsCornerWell}
use Rattle.draw_check.proofs.corner_check.Corners.is_round_well.Given as goal

abbrev pub invariant-loop-k : goal.invariant-loop-k
invariant-loop-k l = (i : ℕ) → i < l.k → 0 < i → IsCornerWell l.self.points.now false l.v (get_or (list_of l.self.lists.now l.v) i 0) (get_or (list_of l.self.lists.now l.v) (i - 1) 0)
