use Rattle.std.proofs.Common.{ℕ, ◌<◌, slice_index}
use Rattle.pigale_c.specs.Wooded.{IsParentOr}
use Rattle.schnyder_wood.specs.Parents.{kind}
use Rattle.pigale_c.proofs.woods.put_parents.Given as goal

abbrev pub invariant-loop-v : goal.invariant-loop-v
invariant-loop-v l = (v : ℕ) → v < l.v → IsParentOr l.wood (kind l.colour) v (slice_index l.parents v)
