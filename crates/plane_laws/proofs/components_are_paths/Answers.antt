use Rattle.plane_laws.proofs.ComponentPaths.{components_are_paths}
use Rattle.plane_laws.proofs.components_are_paths.Goals as goal

pub returns : goal.returns
returns c = components_are_paths
