use Rattle.std.proofs.Common.{◌≡◌, ℕ, ◌<◌, true, length, get_or}
use Rattle.classes.proofs.Marks.{IsCounting}
use Rattle.map_lists.specs.Cuts.{cut}
use Rattle.map_theory.specs.Maps.{component_classes}
use Rattle.euler_faces.specs.Numbers.{mark_at}
use Rattle.euler_faces.specs.Search.{AreQueued, component_number, marks_of}
use Rattle.euler_faces.proofs.component_search.number_components.Given as goal

abbrev pub invariant-loop-v : goal.invariant-loop-v
invariant-loop-v l = record {
  queued : AreQueued l.numbers l.queue l.filled (length l.ends);
  counting : IsCounting (component_classes (cut 0 l.ends l.entries)) (mark_at (marks_of l.numbers)) l.count l.v;
  numbers : (u : ℕ) → u < length l.ends → mark_at (marks_of l.numbers) u ≡ true → get_or l.numbers u 0 ≡ component_number (cut 0 l.ends l.entries) u;
}
