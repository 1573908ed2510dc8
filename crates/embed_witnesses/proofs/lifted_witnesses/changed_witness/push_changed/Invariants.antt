use Rattle.std.proofs.Common.{◌≡◌, ◌++◌, ◌∷◌, [], suc}
use Rattle.embed_contraction.proofs.Traces.{vertices_of}
use Rattle.embed_witnesses.specs.Changes.{vertex_in}
use Rattle.embed_witnesses.proofs.lifted_witnesses.changed_witness.push_changed.Given as goal

abbrev pub invariant-loop-i : goal.invariant-loop-i
invariant-loop-i l = l.new ≡ l.fn.new ++ vertices_of (vertex_in l.change l.paths l.p) (suc l.i) ∷ []
