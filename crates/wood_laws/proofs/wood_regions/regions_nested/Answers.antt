use Rattle.wood_laws.proofs.RegionLemmas.{nested}
use Rattle.wood_laws.proofs.wood_regions.regions_nested.Goals as goal

pub returns : goal.returns
returns c = λ lists base at parent d u v w triangulation wood iu iv a b. nested lists base at wood.steps parent triangulation wood.order wood.run wood.parents d u v w iu iv a b
