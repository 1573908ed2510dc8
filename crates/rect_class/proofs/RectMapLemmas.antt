-- The laws of the class.
use Rattle.std.proofs.Common.{◌<◌, length}
use Rattle.map_lists.specs.Lists.{Lists}
use Rattle.refusals.specs.declared.conditions.Refusal.{Refusal}
use Rattle.refusals.specs.declared.conditions.Refusal.TheVariants.{OuterNotQuad, NotTriangle, SeparatingTriangle, NoInner}
use Rattle.conn_parts.specs.Laws.{BiconnectedBreakNothing}
use Rattle.drawings.specs.Duals.{top_vertex, right_vertex, bottom_vertex}
use Rattle.rect_class.specs.RectMaps.{IsRectMap}
use Rattle.rect_class.specs.Refusals.{BreaksRect}
use Rattle.rect_class.specs.Laws.{BiconnectedAreRectMaps}
use Rattle.rect_class.proofs.FrameDarts.{IsOuterCycle-quadrangle, IsOuterDart-outer}
use Rattle.rect_class.proofs.TriangleLemmas.{HasNoSeparatingTriangle-rising}
use Rattle.rect_class.proofs.InnerLemmas.{more-inner}

pub nothing_broken : BiconnectedBreakNothing → (lists : Lists) (refusal : Refusal) → 0 < length lists → IsRectMap lists → ¬ BreaksRect lists refusal
nothing_broken biconnected_all lists OuterNotQuad some h b = b.1 h.frame
nothing_broken biconnected_all lists (NotTriangle v u) some h b = let l = b.2.rest.here in l.large (h.faces v.0 u.0 l.dart l.inner)
nothing_broken biconnected_all lists (SeparatingTriangle x y z) some h b = h.triangles x.0 y.0 z.0 b.3.rest.rest.here
nothing_broken biconnected_all lists NoInner some h b = b.4 h.inner
nothing_broken biconnected_all lists refusal some h b = biconnected_all 3 lists refusal some h.biconnected b

pub open_quadrangle : BiconnectedAreRectMaps
open_quadrangle lists h =
    let q = bottom_vertex lists in
    let simple = h.biconnected.simple in
    record {
      connected = h.biconnected.connected;
      more = more-inner lists simple h.frame h.inner;
      near = record {
        simple = simple;
        plane = h.biconnected.plane;
        cycle = IsOuterCycle-quadrangle lists simple 0 (top_vertex lists) (right_vertex lists) q h.frame;
        inner = λ x y has off. h.faces x y has (λ o. off (IsOuterDart-outer lists simple h.frame x y has o));
      };
      triangles = HasNoSeparatingTriangle-rising lists simple h.triangles;
    }
