use Rattle.std.proofs.Common.{rules, length, sym, ap, subst, arith}
use Rattle.plane_laws.specs.Triangulations.{IsTriangulation}
use Rattle.canon_order.proofs.order.Peeler.order_map.Goals as goal

pub invariant_of-based : goal.invariant_of-based
invariant_of-based c = record {
  few = omega (arith, ap length c.requires.lists, c.args.tri.now.known.few_vertices);
  triangulated = ∣ subst IsTriangulation (sym c.requires.lists) c.requires.triangulation ∣₁;
  dart = ∣ search rules ∣₁;
  left = search rules;
  right = search rules;
}
