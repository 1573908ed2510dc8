use Rattle.std.proofs.Common.{◌++◌, ap, ◌∙◌}
use Rattle.convex_draw.proofs.convex_figures.face_numbers_by_twins.ends_of.Goals as goal

pub returns : goal.returns
returns c = c.in_ok-extend_from_slice.ensures.items ∙ (ap (λ xs. xs ++ c.ends.result.now) c.clear.ensures.items ∙ c.ends.ensures)
