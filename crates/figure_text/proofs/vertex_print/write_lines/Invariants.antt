-- The lines of the last k vertices are written, and there is room for the others.
use Rattle.std.proofs.Common.{◌≡◌, ◌+◌, ◌*◌, ◌-◌, ◌≤◌, ◌++◌, length, take, drop}
use Rattle.std.specs.List.{sum_by}
use Rattle.figure_text.specs.Text.{vertex_lines, fronts_room}
use Rattle.figure_text.proofs.vertex_print.write_lines.Given as goal

abbrev pub invariant-loop-k : goal.invariant-loop-k
invariant-loop-k g l = record {
  long : length l.bytes ≡ length l.fn.bytes;
  within : l.start ≤ length l.fn.bytes;
  room : 60 + 6 * sum_by length (take (length l.lists - l.k) l.lists) + fronts_room g.R.Numbered.longest (length l.lists - l.k) ≤ l.start;
  written : vertex_lines g.R.Numbered.pieces (g.R.Numbered.numbers l.figure) l.lists (length l.lists - l.k) ++ drop l.start l.bytes ≡ vertex_lines g.R.Numbered.pieces (g.R.Numbered.numbers l.figure) l.lists (length l.lists);
}
