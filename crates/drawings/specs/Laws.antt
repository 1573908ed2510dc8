-- A valid drawing stays valid where edges go.
use Rattle.std.specs.Prelude.{List, ℤ}
use Rattle.map_lists.specs.Lists.{Lists}
use Rattle.map_theory.specs.Maps.{IsSimpleMap}
use Rattle.plane_laws.specs.MapEditsCompleted.{IsExtended}
use Rattle.pg_plane.specs.declared.grid_points.Point.{Point}
use Rattle.drawings.specs.Valid.{IsValid}

-- A drawing that is valid for a map with more edges is valid for the map.
abbrev pub ValidWithFewer : Type 0
ValidWithFewer =
    (lists more : Lists) (points : List Point) (width height : ℤ) → IsSimpleMap lists → IsSimpleMap more → IsExtended lists more → IsValid more points width height → IsValid lists points width height
