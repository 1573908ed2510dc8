use Rattle.plane_laws.proofs.VertexSmoothed.{vertex_smoothed}
use Rattle.plane_laws.proofs.map_edits.vertex_smoothed.Goals as goal

pub returns : goal.returns
returns c = vertex_smoothed
