use Rattle.vertex_rounds.specs.Rounds.{dart_of}
use Rattle.vertex_rounds.proofs.DartIds.{dart_of-live}
use Rattle.drawing_rows.proofs.convex.wood_over.Goals as goal

pub returns : goal.returns
returns c =
    let b = dart_of c.args.map.now c.args.base.0 in
    (b, c.in_ok-wood.ensures.wood b.0 b.1 (dart_of-live c.args.map.now c.args.base.0 c.requires.base))
