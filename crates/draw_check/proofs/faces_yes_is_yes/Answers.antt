use Rattle.draw_check.proofs.ValidYes.{yes_from_valid}
use Rattle.draw_check.proofs.faces_yes_is_yes.Goals as goal

pub returns : goal.returns
returns c = λ lists points width height base triangulation has y.
    let drawn = c.counterclockwise_is_plane.ensures lists points base triangulation has y.1 in
    yes_from_valid lists points width height triangulation.simple (record { in_grid = y.0; plane = drawn.0; rotations = drawn.1 })
