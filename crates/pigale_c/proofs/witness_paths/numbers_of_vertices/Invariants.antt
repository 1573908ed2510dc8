use Rattle.std.proofs.Common.{◌≡◌, take, map}
use Rattle.pigale_c.specs.Embedded.{number}
use Rattle.pigale_c.proofs.witness_paths.numbers_of_vertices.Given as goal

abbrev pub invariant-loop-v : goal.invariant-loop-v
invariant-loop-v l = l.numbers.items ≡ map number (take l.v-index l.vertices)
