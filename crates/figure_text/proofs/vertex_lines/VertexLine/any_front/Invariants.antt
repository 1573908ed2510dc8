-- The first pieces are read.
use Rattle.std.proofs.Common.{[], take}
use Rattle.figure_text.specs.Plain.{IsFrontOf}
use Rattle.figure_text.proofs.vertex_lines.VertexLine.any_front.Given as goal

abbrev pub invariant-loop-k : goal.invariant-loop-k
invariant-loop-k l = IsFrontOf [] l.self.place l.self.line.now l.fn.front → IsFrontOf (take l.k l.pieces) l.self.place l.self.line.now l.front
