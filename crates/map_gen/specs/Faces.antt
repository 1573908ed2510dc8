-- Faces of three darts, and how they share the darts of a map.
use Rattle.std.specs.Prelude.{◌≡◌}
use Rattle.map_lists.specs.Lists.{Lists}
use Rattle.map_theory.specs.Maps.{HasDart, follows}
use Rattle.map_gen.specs.Stacked.{Face}

-- the lists have a face that goes from a to b, to c, and back to a
pub record IsFaceOf (lists : Lists) (f : Face) : Type 0 where
  pub edge : HasDart lists f.a f.b
  pub after_b : follows lists f.b f.a ≡ f.c
  pub after_c : follows lists f.c f.b ≡ f.a
  pub after_a : follows lists f.a f.c ≡ f.b
