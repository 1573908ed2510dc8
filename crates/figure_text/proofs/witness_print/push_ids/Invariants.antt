-- The vertices before number k are written.
use Rattle.std.proofs.Common.{◌≡◌, ◌∷◌, ◌++◌, ◌+◌, take, flat_map}
use Rattle.std.specs.Prelude.{decimal}
use Rattle.map_lists.specs.declared.ids.VertexId.{VertexId}
use Rattle.figure_text.proofs.witness_print.push_ids.Given as goal

abbrev pub invariant-loop-k : goal.invariant-loop-k
invariant-loop-k l = l.out.items ≡ l.fn.out.items ++ flat_map (λ (u : VertexId). 32 ∷ decimal (u.0 + 1)) (take l.k l.ids)
