use Rattle.std.proofs.Common.{arith}
use Rattle.embed_graph.proofs.Stays.{told_by_sides, told_by_test, told_by_refusal}
use Rattle.embed_graph.proofs.contracted_embeddings.kept_edges.has_witness.Goals as goal

pub returns-then-n-lt3 : goal.returns-then-n-lt3
returns-then-n-lt3 c = told_by_sides c.args.graph.now c.n-n.ensures.known c.requires c.in_ok-planar.planar c.in_ok-planar.ensures

pub returns-in-Map : goal.returns-in-Map
returns-in-Map c = told_by_test c.args.graph.now c.in_ok-test_graph.field-0 c.in-Map.field-0 c.in_ok-test_graph.ensures c.in-Map.is

pub returns : goal.returns
returns c = told_by_refusal c.args.graph.now c.in_ok-test_graph.field-0 c.n-n.ensures.known (omega (arith, c.if-n-lt3.false, c.n-n.ensures.count)) c.in_ok-test_graph.ensures c.in-NoMap.is
