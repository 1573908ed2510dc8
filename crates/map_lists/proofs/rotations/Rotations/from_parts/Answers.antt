use Rattle.std.proofs.Common.{ap, length, arith}
use Rattle.map_lists.proofs.CutLemmas.{length-cut}
use Rattle.map_lists.proofs.rotations.Rotations.from_parts.Goals as goal

pub invariant_of-result : goal.invariant_of-result
invariant_of-result c = omega (arith, c.requires.few, ap length c.from_parts.ensures, length-cut 0 c.args.ends.items c.args.entries.items)
