use Rattle.convex_class.proofs.Bad.{least_paired}
use Rattle.convex_class.proofs.ClearLemmas.{IsClearVertex-lower}
use Rattle.convex_class.proofs.face_pairs.uncut_map.UncutMap.least_paired.Goals as goal

pub returns : goal.returns
returns c =
    let map = c.args.self.now.map.now in
    let walks = c.args.self.now.faces.now in
    let here = c.in_ok-least.ensures in
    least_paired map c.facts.ensures.known walks c.facts.ensures.faces c.in_ok-least.least (λ u l. IsClearVertex-lower map walks c.in_ok-best.best c.in_ok-least.least u here.lower (c.in_ok-best.ensures u l)) here.clear c.facts.ensures.uncut
