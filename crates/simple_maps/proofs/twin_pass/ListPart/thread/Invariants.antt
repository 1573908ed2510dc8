use Rattle.std.proofs.Common.{◌≡◌, length}
use Rattle.simple_maps.proofs.PassLemmas.{HasThreaded}
use Rattle.simple_maps.proofs.twin_pass.ListPart.thread.Given as goal

abbrev pub invariant-loop-d : goal.invariant-loop-d
invariant-loop-d l = record {
  tails : length l.tails ≡ length l.self.entries.now;
  twins : length l.twins ≡ length l.self.entries.now;
  vertices : length l.newest ≡ length l.fn.newest;
  threaded : HasThreaded l.self.entries.now l.fn.tails l.fn.twins l.tails l.twins l.newest l.self.start l.d l.self.v;
}
