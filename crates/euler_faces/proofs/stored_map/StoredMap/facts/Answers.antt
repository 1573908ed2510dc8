use Rattle.std.proofs.Common.{◌<◌, length, arith}
use Rattle.map_lists.specs.Cuts.{cut}
use Rattle.map_lists.proofs.CutLemmas.{length-cut}
use Rattle.map_theory.proofs.DartCounts.{few_darts-simple}
use Rattle.simple_maps.proofs.FlatLemmas.{count-is}
use Rattle.map_theory.proofs.Known.{AreCuts-known, IsSimpleMap-known}
use Rattle.euler_faces.proofs.stored_map.StoredMap.facts.Goals as goal

pub returns-clause-cuts : goal.returns-clause-cuts
returns-clause-cuts c = AreCuts-known 0 _ _ c.args.self.now.cuts

pub returns-clause-simple : goal.returns-clause-simple
returns-clause-simple c = IsSimpleMap-known _ c.args.self.now.simple

pub returns-clause-vertices : goal.returns-clause-vertices
returns-clause-vertices c = length-cut 0 c.args.self.now.ends.now c.args.self.now.entries.now

pub returns-clause-darts : goal.returns-clause-darts
returns-clause-darts c = count-is c.args.self.now.ends.now c.args.self.now.entries.now (AreCuts-known 0 _ _ c.args.self.now.cuts)

pub returns-clause-few : goal.returns-clause-few
returns-clause-few c =
    let map = c.args.self.now in
    let lists = cut 0 map.ends.now map.entries.now in
    let few : length lists < 4096 = omega (arith, map.few, length-cut 0 map.ends.now map.entries.now) in
    omega (arith, few_darts-simple lists few (IsSimpleMap-known lists map.simple), count-is map.ends.now map.entries.now (AreCuts-known 0 _ _ map.cuts))
