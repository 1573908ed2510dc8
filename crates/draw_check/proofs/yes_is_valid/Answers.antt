use Rattle.draw_check.proofs.ValidYes.{valid_from_yes, yes_from_valid}
use Rattle.draw_check.proofs.yes_is_valid.Goals as goal

pub returns : goal.returns
returns c = λ lists points width height simple. (valid_from_yes lists points width height simple, yes_from_valid lists points width height simple)
