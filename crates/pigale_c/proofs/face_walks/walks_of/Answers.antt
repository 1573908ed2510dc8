-- The faces of the map of the arrays.
use Rattle.std.proofs.Common.{◌∙◌}
use Rattle.pigale_c.proofs.face_walks.walks_of.Goals as goal

pub returns-clause-walks : goal.returns-clause-walks
returns-clause-walks c = record {
  map = c.in_ok-map.map;
  lists_are = c.in_ok-map.ensures.lists ∙ c.in_ok-lists.ensures.lists;
  walks = c.in_ok-found.found;
  faces = c.in_ok-found.ensures.walks;
  tails = c.in_ok-rows.ensures;
}
