use Rattle.std.proofs.Common.{◌*◌, ◌-◌, ◌∙◌, arith}
use Rattle.grid_figures.proofs.ZeroParts.{first_zeros, last_zeros, zero_in}
use Rattle.grid_figures.proofs.schnyder_grid.draw.WoodDrawer.points.Goals as goal

pub wood_points-requires-clause-zeros : goal.wood_points-requires-clause-zeros
wood_points-requires-clause-zeros c =
    let n = c.len-n.result in
    let all = c.deref_mut.ensures.value ∙ c.in_ok-clear.ensures.gaps in
    let others = last_zeros n (3 * n) _ _ all c.split_at_mut-drops.ensures.back in
    let drops = first_zeros n (3 * n) _ _ all (omega arith) c.split_at_mut-drops.ensures.front in
    let rises = first_zeros n (3 * n - n) _ _ others (omega arith) c.split_at_mut-rises.ensures.front in
    let spans = last_zeros n (3 * n - n) _ _ others c.split_at_mut-rises.ensures.back in
    λ u. (zero_in _ _ drops u, zero_in _ _ rises u, zero_in _ _ spans u)
