use Rattle.order_drawings.proofs.RunLemmas.{drawing}
use Rattle.order_drawings.proofs.run_drawings.counterclockwise_run_draws.Goals as goal

pub returns : goal.returns
returns c = λ lists base at steps point points triangulation dart order run good placed. drawing lists base triangulation dart c.nothing_taken_off.ensures c.outer_cycle_is_face.ensures at steps point points order run good placed c.counterclockwise_is_plane.ensures
