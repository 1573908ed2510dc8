use Rattle.drawings.proofs.ValidFewer.{dart_more, valid_with_fewer}
use Rattle.draw_check.proofs.ValidYes.{valid_from_yes, yes_from_valid}
use Rattle.drawings.proofs.OuterFewer.{outer_fewer}
use Rattle.draw_check.proofs.faces_yes_for_fewer.Goals as goal

pub returns : goal.returns
returns c = λ lists more points width height base simple triangulation extended has faces.
    let has' = dart_more lists more points simple triangulation.simple extended base.0 base.1 has in
    let yes = c.faces_yes_is_yes.ensures more points width height base triangulation has' faces in (
      yes_from_valid lists points width height simple (valid_with_fewer lists more points width height simple triangulation.simple extended (valid_from_yes more points width height triangulation.simple yes)),
      outer_fewer lists more points base simple triangulation extended has faces.1,
    )
