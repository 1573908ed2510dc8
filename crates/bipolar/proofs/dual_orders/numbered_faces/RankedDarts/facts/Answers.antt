use Rattle.bipolar.proofs.Known.{AreDarts-known}
use Rattle.bipolar.proofs.dual_orders.numbered_faces.RankedDarts.facts.Goals as goal

pub returns : goal.returns
returns c =
    let d = c.args.self.now in
    AreDarts-known d.entries.now d.ends.now d.twins.now d.darts
