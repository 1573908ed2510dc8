use Rattle.std.proofs.Common.{◌<◌, ◌∙◌, sym, ap, arith}
use Rattle.std.proofs.lemmas.Bool.Decides.{nat_tests}
use Rattle.graphs.specs.Graphs.{EdgeGraph, has_edge}
use Rattle.graphs.proofs.EdgeLemmas.{AreEdges-edges_of, joined_no_pair}
use Rattle.graphs.proofs.graph.Graph.has_pair.Goals as goal
use Rattle.graphs.proofs.graph.Graph.has_pair.Goals.{then-u-v, else-u-v}

pub returns-else-v-self : goal.returns-else-v-self
returns-else-v-self c =
    let none : ((c.args.u < c.args.v) × (c.args.v < c.self.inside.vertices) → ⊥) = elim c.if-u-v.branch [ then-u-v w ↦ λ h. let v = w.value-is in let f = c.if-v-self.false in let l = h.1 in grind (arith, nat_tests) | else-u-v w ↦ λ h. omega (arith, w.if-u-v.false, h.0) ] in
    c.if-v-self.false
    ∙ (sym (joined_no_pair c.self.inside.vertices c.args.u c.args.v _ (AreEdges-edges_of c.self.inside.vertices c.self.inside.body.items) c.requires none)
    ∙ ap (λ (g : EdgeGraph). has_edge g c.args.u c.args.v) c.self.view_is)
