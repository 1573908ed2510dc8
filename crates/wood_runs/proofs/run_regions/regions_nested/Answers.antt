use Rattle.std.proofs.Common.{arith}
use Rattle.contour_runs.proofs.Stages.{count-stage_after}
use Rattle.wood_runs.specs.Edges.{number}
use Rattle.wood_runs.proofs.Nested.{IsNested-run}
use Rattle.wood_runs.proofs.run_regions.regions_nested.Goals as goal

pub returns : goal.returns
returns c = λ steps n u v f c run l r e. (IsNested-run steps n run).nested u v r.0 f (number c) (let z = count-stage_after steps n in omega arith) r.1 r.2 e
