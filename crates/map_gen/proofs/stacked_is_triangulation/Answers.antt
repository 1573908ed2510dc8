use Rattle.map_gen.proofs.Stackings as law
use Rattle.map_gen.proofs.stacked_is_triangulation.Goals as goal

pub returns : goal.returns
returns c = law.stacked_is_triangulation
