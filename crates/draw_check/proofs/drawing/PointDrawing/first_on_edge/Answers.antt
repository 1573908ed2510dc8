use Rattle.std.proofs.Common.{◌≡◌, ◌<◌, length, inl, inr, subst, arith}
use Rattle.std.proofs.lemmas.Bool.{cases_lt}
use Rattle.map_lists.specs.declared.ids.VertexId.{VertexId}
use Rattle.vertex_rounds.proofs.LeastLemmas.{IsLeastPair-alike}
use Rattle.draw_check.specs.Faults.{LiesOnEdge}
use Rattle.draw_check.specs.Loops.{IsMetFrom}
use Rattle.draw_check.specs.declared.edge_meetings.Probe.TheVariants.{Vertex}
use Rattle.draw_check.proofs.MetLemmas.{met_by_vertex, lies_on_edge}
use Rattle.draw_check.proofs.drawing.PointDrawing.first_on_edge.Goals as goal

pub returns-in-Some : goal.returns-in-Some
returns-in-Some c =
    let lists = c.args.self.now.map.now.lists in
    let points = c.args.self.now.points.now in
    let v : VertexId = record { 0 = c.loop-v.v } in
    let count = c.n-v-end.ensures.count in
    let within : c.loop-v.v < length lists = omega arith in
    record {
      before = λ s a b l. c.loop-v.invariant s a b l;
      rest = IsLeastPair-alike (IsMetFrom lists points (Vertex v) 0) (LiesOnEdge lists points v.0) (lies_on_edge lists points v within) (met_by_vertex lists points v) _ _ c.in-Some.ensures;
    }

pub loop-v-preserved : goal.loop-v-preserved
loop-v-preserved c = λ s a b l on.
    let lists = c.args.self.now.map.now.lists in
    let points = c.args.self.now.points.now in
    elim (cases_lt s c.loop-v.v) [
      | inl less ↦ c.loop-v.invariant s a b less on
      | inr more ↦
          (let same : s ≡ c.loop-v.v = omega arith in
          c.in_default.ensures a b (met_by_vertex lists points (record { 0 = c.loop-v.v }) a b (subst (λ x. LiesOnEdge lists points x a b) same on)))
    ]
