use Rattle.std.proofs.Common.{◌*◌, ◌∙◌}
use Rattle.canon_order.proofs.Filled.{filled}
use Rattle.grid_figures.proofs.schnyder_grid.draw.WoodDrawer.clear.Goals as goal

pub returns-clause-gaps : goal.returns-clause-gaps
returns-clause-gaps c = c.in_ok-resize.ensures.items ∙ filled 0 _ (3 * c.args.n) _ c.clear.ensures.items c.clear.ensures.len
