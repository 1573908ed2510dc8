use Rattle.std.proofs.Common.{arith}
use Rattle.std.proofs.lemmas.Nat.{mul-add-lt}
use Rattle.simple_maps.proofs.dart_cells.cell_of.Goals as goal

pub returns-clause-within : goal.returns-clause-within
returns-clause-within c = omega (arith, mul-add-lt c.args.v c.args.n c.args.u c.args.n c.requires.tail c.requires.head)
