use Rattle.std.proofs.Common.{◌+◌, sym, ap, ◌∙◌, arith}
use Rattle.std.proofs.lemmas.List.{take_all, nil_from_length}
use Rattle.map_theory.specs.Maps.{list_of, isolated_count}
use Rattle.euler_faces.proofs.IsolatedLemmas.{isolated_count_empty, isolated_count_some}
use Rattle.euler_faces.proofs.half_map_counts.count_isolated.Goals as goal
use Rattle.euler_faces.proofs.half_map_counts.count_isolated.Goals.{then-degree-eq0, else-degree-eq0}

pub loop-v-preserved : goal.loop-v-preserved
loop-v-preserved c =
    let h = c.loop-v.invariant in
    let v = c.loop-v.v in
    let lists = c.args.map.now.lists in
    elim c.if-degree-eq0.branch [
      | then-degree-eq0 w ↦ record {
        few = omega (arith, h.few);
        isolated = w.count-is ∙ (ap (λ x. x + 1) h.isolated ∙ sym (isolated_count_empty lists v (omega arith) (nil_from_length (list_of lists v) (omega arith))));
      }
      | else-degree-eq0 w ↦ record {
        few = omega (arith, h.few);
        isolated = w.count-is ∙ (h.isolated ∙ sym (isolated_count_some lists v (omega arith) (omega arith)));
      }
    ]

pub returns-clause-count : goal.returns-clause-count
returns-clause-count c = c.loop-v.invariant.isolated ∙ ap isolated_count (take_all c.loop-v.v c.args.map.now.lists (omega arith))
