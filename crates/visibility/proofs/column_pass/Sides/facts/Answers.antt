use Rattle.visibility.proofs.SidesKnown.{AreSides-known}
use Rattle.visibility.proofs.column_pass.Sides.facts.Goals as goal

pub returns : goal.returns
returns c =
    let t = c.args.self.now in
    AreSides-known t.lists.now t.rank.now t.of.now t.twins.now t.numbers.now t.sides
