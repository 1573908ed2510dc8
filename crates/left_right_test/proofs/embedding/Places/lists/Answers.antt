use Rattle.std.proofs.Common.{length, ap, ◌∙◌, arith}
use Rattle.map_lists.proofs.CutLemmas.{length-cut}
use Rattle.left_right_test.proofs.embedding.Places.lists.Goals as goal

pub from_parts-requires-clause-few : goal.from_parts-requires-clause-few
from_parts-requires-clause-few c = omega (arith, c.requires, c.in_ok-ends.ensures.count (omega (arith, c.if-n-eq0.false)))

pub returns : goal.returns
returns c =
    ap length c.from_parts.ensures
    ∙ (length-cut 0 c.in_ok-ends.ends.items c.extend_from_slice.new.self.items ∙ c.in_ok-ends.ensures.count (omega (arith, c.if-n-eq0.false)))
