use Rattle.std.proofs.Common.{arith}
use Rattle.schnyder_wood.specs.Parents.{root_in}
use Rattle.wood_runs.specs.Parents.{one, two}
use Rattle.schnyder_wood.proofs.schnyder_regions.region_counts.base_dart.Goals as goal

pub dart_of-requires-clause-v_in : goal.dart_of-requires-clause-v_in
dart_of-requires-clause-v_in c =
    let l = c.args.map.now.known.simple.in_range (root_in c.args.wood.now two) (root_in c.args.wood.now one) c.requires in
    omega (arith, c.root-2.ensures)
