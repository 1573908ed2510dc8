use Rattle.wood_laws.proofs.RunParents.{parents_are}
use Rattle.wood_laws.proofs.wood_orders.parents_of_arranged.Goals as goal

pub returns : goal.returns
returns c = λ lists base parent at steps triangulation has wood arranged order run. parents_are lists base parent at triangulation has wood arranged order steps run
