use Rattle.std.proofs.Common.{subst}
use Rattle.std.proofs.lemmas.Bool.{OnTrue_at}
use Rattle.rect_class.specs.RectMaps.{NoneSeparating}
use Rattle.rect_class.proofs.class_conditions.first_of_triangles.Goals as goal

pub returns-then-branch : goal.returns-then-branch
returns-then-branch c = subst NoneSeparating c.requires.lists (OnTrue_at c.if-branch.true c.in_ok-none_separates.ensures)
