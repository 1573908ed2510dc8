use Rattle.std.proofs.Common.{◌≡◌, ◌<◌, ◌==◌}
use Rattle.classes.specs.Classes.{count_below, label}
use Rattle.map_theory.specs.Maps.{component_classes}
use Rattle.augment_tri.specs.Growing.{IsGrown, IsRoomy}
use Rattle.augment_tri.proofs.JoinedParts.{AreJoined}
use Rattle.augment_tri.proofs.joined_components.join_parts.Given as goal

abbrev pub invariant-loop-v : goal.invariant-loop-v
invariant-loop-v l = record {
  roomy : IsRoomy l.map;
  grown : IsGrown l.fn.map l.map;
  some : 0 < l.v;
  counted : l.joined ≡ count_below (λ u. label (component_classes l.fn.map.lists) u == u) l.v;
  joined : AreJoined (component_classes l.fn.map.lists) l.map.lists l.v;
}
