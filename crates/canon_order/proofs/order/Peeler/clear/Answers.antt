use Rattle.std.proofs.Common.{◌*◌, false, ◌∙◌}
use Rattle.canon_order.proofs.Filled.{filled}
use Rattle.canon_order.proofs.order.Peeler.clear.Goals as goal

pub returns-clause-marks : goal.returns-clause-marks
returns-clause-marks c = c.in_ok-resize.ensures.items ∙ filled false _ (2 * c.args.n) _ c.clear.ensures.items c.clear.ensures.len

pub returns-clause-near : goal.returns-clause-near
returns-clause-near c = c.in_ok-resize-2.ensures.items ∙ filled 0 _ c.args.n _ c.clear-2.ensures.items c.clear-2.ensures.len
