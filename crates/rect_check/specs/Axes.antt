-- An axis of the sweep as its lists.
use Rattle.map_lists.specs.Lists.{Lists}
use Rattle.rect_check.specs.Loops.{Sides}
use Rattle.rect_check.specs.declared.sweep.Axis.{Axis}

-- the lists of its map
abbrev pub lists_of : Axis → Lists
lists_of axis = axis.map.now.lists

-- where its rectangles begin and end
abbrev pub sides : Axis → Sides
sides axis = record {
  begin = axis.begin.now;
  end = axis.end.now;
  low = axis.low.now;
  high = axis.high.now;
}
