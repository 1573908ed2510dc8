use Rattle.std.proofs.Common.{◌-◌, length, take, drop}
use Rattle.std.proofs.lemmas.List.Elements.{All-take}
use Rattle.plane_drawings.specs.PlaneSweepLines.{IsLine}
use Rattle.plane_drawings.proofs.Pairs.{All-append-right}
use Rattle.plane_drawings.proofs.sweep_check.sweep_status.AtVertex.step.Goals as goal

pub count_around-begin-requires-clause-upper : goal.count_around-begin-requires-clause-upper
count_around-begin-requires-clause-upper c =
    let status = c.args.status.now in
    let P = IsLine (length c.args.self.now.places.now) in
    All-take P (length status - c.args.gap.end) (drop c.args.gap.end status) (All-append-right P (take c.args.gap.begin status) (drop c.args.gap.end status) c.requires.lines)
