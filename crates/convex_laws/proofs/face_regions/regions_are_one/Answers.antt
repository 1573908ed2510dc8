use Rattle.convex_laws.proofs.OneRegion.{regions_are_one}
use Rattle.convex_laws.proofs.face_regions.regions_are_one.Goals as goal

pub returns : goal.returns
returns c = regions_are_one
