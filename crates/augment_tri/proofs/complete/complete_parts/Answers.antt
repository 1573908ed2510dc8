use Rattle.std.proofs.Common.{subst, arith}
use Rattle.map_lists.specs.Lists.{Lists}
use Rattle.plane_laws.specs.MapEditsCompleted.{IsExtended}
use Rattle.plane_laws.proofs.Extended.{IsExtended-itself}
use Rattle.plane_laws.proofs.EdgeBound.{edge_bound}
use Rattle.augment_tri.proofs.Growth.{IsGrown-chained}
use Rattle.augment_tri.proofs.complete.complete_parts.Goals as goal

pub overflow_sub-room-2 : goal.overflow_sub-room-2
overflow_sub-room-2 c =
    let bound = edge_bound c.args.map.now.lists c.n.ensures.known.simple c.requires.plane c.requires.some in
    omega (arith, c.n.ensures.count, c.m.ensures.count)

pub fill-requires : goal.fill-requires
fill-requires c = record { roomy = c.join_parts.ensures.roomy; one = c.join_parts.ensures.one }

pub returns-in-Ok-clause-triangulation : goal.returns-in-Ok-clause-triangulation
returns-in-Ok-clause-triangulation c =
    let h = c.fill.ensures.fillable.roomy in
    record {
      simple = h.known.simple;
      plane = h.plane;
      some = h.some;
      edges = c.fill.ensures.edges;
    }

pub returns-in-Ok-clause-extended : goal.returns-in-Ok-clause-extended
returns-in-Ok-clause-extended c =
    subst (λ (ls : Lists). IsExtended ls c.fill.new.map.lists) c.in-Ok.ensures.lists
    (IsGrown-chained c.reserve_edges.new.self c.join_parts.new.map c.fill.new.map c.join_parts.ensures.grown c.fill.ensures.grown).extended

pub returns-then-room-eq0-clause-triangulation : goal.returns-then-room-eq0-clause-triangulation
returns-then-room-eq0-clause-triangulation c =
    let bound = edge_bound c.args.map.now.lists c.n.ensures.known.simple c.requires.plane c.requires.some in
    record {
      simple = c.n.ensures.known.simple;
      plane = c.requires.plane;
      some = c.requires.some;
      edges = omega (arith, bound, c.n.ensures.count, c.m.ensures.count, c.if-room-eq0.true);
    }

pub returns-then-room-eq0-clause-extended : goal.returns-then-room-eq0-clause-extended
returns-then-room-eq0-clause-extended c = IsExtended-itself c.args.map.now.lists
