-- The numbers before pair k, or i, have joined the lists, and have not closed all.
use Rattle.std.proofs.Common.{◌≡◌, ◌+◌, ◌-◌, ◌*◌, ◌<◌, ◌≤◌, length, get_or, take}
use Rattle.planar_code.proofs.GatherLemmas.{GathersWide}
use Rattle.planar_code.proofs.number_gathering.wide_numbers.Given as goal

abbrev pub invariant-lists : goal.invariant-lists
invariant-lists l = record {
  within : l.k ≤ l.end;
  gathers : GathersWide l.count (take (2 * l.k) l.piece) l.fn.gathered l.gathered;
  some_left : length l.gathered.lists < l.count;
}

abbrev pub decreases-lists : goal.decreases-lists
decreases-lists l = l.end - l.k

abbrev pub invariant-list : goal.invariant-list
invariant-list l = record {
  from : l.initial.k ≤ l.k;
  within : l.k < l.end;
  number_is : l.number ≡ 256 * get_or l.piece (2 * l.k) 0 + get_or l.piece (2 * l.k + 1) 0;
  gathers : GathersWide l.count (take (2 * l.k) l.piece) l.fn.gathered l.gathered;
  some_left : length l.gathered.lists < l.count;
}

abbrev pub decreases-list : goal.decreases-list
decreases-list l = l.end - l.k

abbrev pub invariant-loop-i : goal.invariant-loop-i
invariant-loop-i l = record {
  gathers : GathersWide l.count (take (2 * l.i) l.piece) l.fn.gathered l.gathered;
  some_left : length l.gathered.lists < l.count;
}
