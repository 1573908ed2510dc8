use Rattle.pg_plane.proofs.PlaneByDarts.{plane_by_darts}
use Rattle.plane_drawings.proofs.ByDarts.{k, g, h, at, b, faced, tailed, thrice}
use Rattle.map_theory.proofs.DartPermutations.{tail_of}
use Rattle.plane_drawings.proofs.OfLists.{is_plane, rotations_kept}
use Rattle.plane_drawings.proofs.drawings.counterclockwise_is_plane.Goals as goal

pub returns : goal.returns
returns c = λ lists points base triangulation has turns.
    let by_darts =
    plane_by_darts (k lists points base triangulation has turns) (g lists points base triangulation has turns) (h lists points base triangulation has turns) (at lists points base triangulation has turns) (b lists points base triangulation has turns) (tail_of lists)
    (faced lists points base triangulation has turns) (tailed lists points base triangulation has turns) in
    (is_plane lists points triangulation (thrice lists points base triangulation has turns) by_darts, rotations_kept lists points triangulation (thrice lists points base triangulation has turns) by_darts)
