-- The first condition of rectangular duals that lists break.
use Rattle.map_lists.specs.Lists.{Lists}
use Rattle.vertex_rounds.specs.Least.{IsLeastPair, IsLeastTriple}
use Rattle.conn_parts.specs.BiconnectedMaps.{IsBiconnectedMap, BreaksFirst}
use Rattle.drawings.specs.Duals.{HasFrame}
use Rattle.rect_class.specs.RectMaps.{HasLargeFace, HasTriangles, IsSeparating, NoneSeparating, HasInner}
use Rattle.refusals.specs.declared.conditions.Refusal.{Refusal}
use Rattle.refusals.specs.declared.conditions.Refusal.TheVariants.{OuterNotQuad, NotTriangle, SeparatingTriangle, NoInner}

-- The condition is the first one that the lists break, of those on biconnected maps, and then of the outer face, the other faces, the triangles and the vertices inside.
abbrev pub BreaksRect : Lists → Refusal → Type 0
BreaksRect lists OuterNotQuad = IsBiconnectedMap 3 lists × ¬ HasFrame lists
BreaksRect lists (NotTriangle v u) = IsBiconnectedMap 3 lists × HasFrame lists × IsLeastPair (HasLargeFace lists) v.0 u.0
BreaksRect lists (SeparatingTriangle a b c) =
    IsBiconnectedMap 3 lists × HasFrame lists × HasTriangles lists × IsLeastTriple (IsSeparating lists) a.0 b.0 c.0
BreaksRect lists NoInner = IsBiconnectedMap 3 lists × HasFrame lists × HasTriangles lists × NoneSeparating lists × ¬ HasInner lists
BreaksRect lists refusal = BreaksFirst 3 lists refusal
