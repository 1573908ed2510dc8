-- The vertices before number k are taken.
use Rattle.std.proofs.Common.{◌≡◌, ◌++◌, ◌∷◌, [], take, map}
use Rattle.figure_text.specs.Lines.{vertex_of}
use Rattle.figure_text.proofs.vertex_lines.push_vertices.Given as goal

abbrev pub invariant-loop-k : goal.invariant-loop-k
invariant-loop-k l = l.lists ≡ l.fn.lists ++ map vertex_of (take l.k l.words) ∷ []
