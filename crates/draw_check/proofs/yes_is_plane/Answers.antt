use Rattle.draw_check.proofs.ValidYes.{plane_from_yes, yes_from_plane}
use Rattle.draw_check.proofs.yes_is_plane.Goals as goal

pub returns : goal.returns
returns c = λ lists points simple. (plane_from_yes lists points simple, yes_from_plane lists points simple)
