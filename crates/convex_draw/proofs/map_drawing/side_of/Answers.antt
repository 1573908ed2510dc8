use Rattle.std.proofs.Common.{arith}
use Rattle.convex_draw.proofs.map_drawing.side_of.Goals as goal

pub returns : goal.returns
returns c =
    let plane = c.requires.plane in
    let one = c.requires.connected in
    let faces = c.requires.faces in
    omega arith
