use Rattle.std.proofs.Common.{◌∙◌}
use Rattle.convex_orders.proofs.Known.{based}
use Rattle.convex_orders.proofs.map_tables.Tables.number_of.Goals as goal

pub list-requires-2 : goal.list-requires-2
list-requires-2 c = (based c.args.self.now).three.simple.in_range c.args.x c.args.y c.requires.dart

pub number_in-requires-clause-simple : goal.number_in-requires-clause-simple
number_in-requires-clause-simple c = (based c.args.self.now).three.simple

pub number_in-requires-else-list-clause-simple : goal.number_in-requires-else-list-clause-simple
number_in-requires-else-list-clause-simple c = (based c.args.self.now).three.simple

pub number_in-requires-else-list-clause-dart : goal.number_in-requires-else-list-clause-dart
number_in-requires-else-list-clause-dart c = (based c.args.self.now).three.simple.both_ways c.args.x c.args.y c.requires.dart

pub returns-else-list : goal.returns-else-list
returns-else-list c = c.number_in-else-list.ensures ∙ c.args.self.now.numbers.back c.args.y c.args.x ((based c.args.self.now).three.simple.both_ways c.args.x c.args.y c.requires.dart)
