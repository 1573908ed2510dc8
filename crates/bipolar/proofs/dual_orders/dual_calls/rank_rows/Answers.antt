use Rattle.std.proofs.Common.{ℕ, List, subst}
use Rattle.bipolar.specs.FaceArcs.{AreNumberRows}
use Rattle.bipolar.proofs.Numbered.{acyclic_arcs, give}
use Rattle.bipolar.proofs.dual_orders.dual_calls.rank_rows.Goals as goal

pub longest_paths-requires-clause-acyclic : goal.longest_paths-requires-clause-acyclic
longest_paths-requires-clause-acyclic c =
    acyclic_arcs c.args.map.now c.args.map.now.known c.args.rank.now c.args.st.0 c.requires.live c.requires.order c.in_ok-faces.faces c.in_ok-faces.ensures.walks c.in_ok-arcs.arcs c.in_ok-arcs.ensures.arcs c.of_dart.result.0 c.of_dart.ensures.face c.of_dart.ensures.stands

pub returns : goal.returns
returns c =
    let rows = subst (λ (ns : List ℕ). AreNumberRows c.args.map.now c.in_ok-faces.faces c.args.rank.now ns c.in_ok-rows.rows) c.deref.ensures.value c.in_ok-rows.ensures in
    give c.args.map.now c.args.map.now.known c.args.rank.now c.args.st.0 c.requires.live c.requires.order c.in_ok-faces.faces c.in_ok-faces.ensures.walks c.in_ok-arcs.arcs c.in_ok-arcs.ensures.arcs c.of_dart.result.0 c.of_dart.ensures.face c.of_dart.ensures.stands c.in_ok-numbers.numbers.items c.in_ok-numbers.ensures c.in_ok-rows.rows rows
